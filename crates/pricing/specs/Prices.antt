-- What it costs to show the pixels of a range of levels as one level, and the price of a range: the least such cost.
use Rattle.std.specs.Prelude.{◌≡◌, ℕ, zero, suc, ◌+◌, ◌-◌, ◌<◌, ◌≤◌, cond, ◌⊎◌, Some, None, Option, ◌≢◌, nat_lt}
use Rattle.counting.specs.Ledger.{Ledger, pixels_at}
use Rattle.pricing.specs.Tallies.{Ops, NotAbove}

-- a level has pixels
abbrev pub Counted : Ledger → ℕ → Type 0
Counted g l = 0 < pixels_at g l

-- what the pixels at one level cost; a level without pixels costs nothing, whatever it is shown as
abbrev pub charged : {C : Type 0} → Ops C → ℕ → ℕ → C
charged o n e = cond (nat_lt 0 n) (o.charge n e) o.neutral

-- the join of what the pixels at the `d` levels from `a` cost, where `e k` is the error at the level k
unfoldable pub costs : {C : Type 0} → Ops C → Ledger → (ℕ → ℕ) → ℕ → ℕ → C
costs o g e a zero = o.neutral
costs o g e a (suc d) = o.join (charged o (pixels_at g (a + d)) (e (a + d))) (costs o g e a d)

-- the tally of showing the levels from a to b, both included, as r
abbrev pub range_tally : {C : Type 0} → Ops C → (ℕ → ℕ → ℕ) → Ledger → ℕ → ℕ → ℕ → C
range_tally o error g a b r = costs o g (λ k. error k r) a (suc b - a)

-- the tally of showing every level of the ledger by a map
abbrev pub map_tally : {C : Type 0} → Ops C → (ℕ → ℕ → ℕ) → Ledger → (ℕ → ℕ) → C
map_tally o error g f = costs o g (λ k. error k (f k)) 0 g.levels

-- r lies from the lowest to the highest counted level among a to b
abbrev pub InSpan : Ledger → ℕ → ℕ → ℕ → Type 0
InSpan g a b r = ((k : ℕ) × (a ≤ k) × (k ≤ r) × Counted g k) × ((k : ℕ) × (r ≤ k) × (k ≤ b) × Counted g k)

-- A range has no price if it is turned round, reaches past the levels, or has no pixels.
abbrev pub Priceless : Ledger → ℕ → ℕ → Type 0
Priceless g a b = (b < a) ⊎ ((g.levels ≤ b) ⊎ ((l : ℕ) → a ≤ l → l ≤ b → Counted g l → ⊥))

-- The representative r and the price t of the range a to b: t is the least tally that any r from its lowest
-- to its highest counted level gives, and r is the highest that gives it.
pub record PricedAt {C : Type 0} (o : Ops C) (error : ℕ → ℕ → ℕ) (g : Ledger) (a b r : ℕ) (t : C) : Type 0 where
  pub within : b < g.levels
  pub spans : InSpan g a b r
  pub tally : t ≡ range_tally o error g a b r
  pub least : (q : ℕ) → InSpan g a b q → NotAbove o t (range_tally o error g a b q)
  pub highest : (q : ℕ) → InSpan g a b q → r < q → range_tally o error g a b q ≢ t

-- what a pricer answers: absent exactly when the range has no price
abbrev pub Priced : {C : Type 0} → Ops C → (ℕ → ℕ → ℕ) → Ledger → ℕ → ℕ → Option (ℕ × C) → Type 0
Priced o error g a b None = Priceless g a b
Priced o error g a b (Some answer) = PricedAt o error g a b answer.0 answer.1
