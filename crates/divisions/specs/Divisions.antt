-- How the counted levels of a ledger are cut into runs: what a run costs, what a division costs, and which division is the best.
use Rattle.std.specs.Prelude.{◌≡◌, ℕ, zero, suc, ◌+◌, ◌-◌, ◌<◌, ◌≤◌, min, cond, List, [], ◌∷◌, length, filter, nat_lt, slice_index}
use Rattle.std.specs.List.{range_with_len}
use Rattle.counting.specs.Ledger.{Ledger, pixels_at, counted_levels}
use Rattle.pricing.specs.Tallies.{Ops, NotAbove}
use Rattle.pricing.specs.Prices.{range_tally}

-- the counted levels, in rising order
abbrev pub levels_of : Ledger → List ℕ
levels_of g = filter (λ l. nat_lt 0 (pixels_at g l)) (range_with_len 0 g.levels)

-- the counted level at a place; the lowest has place 0
unfoldable pub level_at : Ledger → ℕ → ℕ
level_at g i = slice_index (levels_of g) i

-- how many bins a table of at most `most` bins has: no more than there are counted levels
abbrev pub bins_of : Ledger → ℕ → ℕ
bins_of g most = min most (counted_levels g)

-- A run is the d counted levels from place i. The tally of showing it as r:
abbrev pub run_tally : {C : Type 0} → Ops C → (ℕ → ℕ → ℕ) → Ledger → ℕ → ℕ → ℕ → C
run_tally o error g i d r = range_tally o error g (level_at g i) (level_at g (i + d - 1)) r

-- of the numbers from lo to lo + d, the highest at which t is least
unfoldable pub highest_least : {C : Type 0} → Ops C → (ℕ → C) → ℕ → ℕ → ℕ
highest_least o t lo zero = lo
highest_least o t lo (suc d) = let b = highest_least o t lo d in cond (o.not_above (t (lo + suc d)) (t b)) (lo + suc d) b

-- the representative of a run: the highest level of least tally, from the run's lowest level to its highest
unfoldable pub representative : {C : Type 0} → Ops C → (ℕ → ℕ → ℕ) → Ledger → ℕ → ℕ → ℕ
representative o error g i d = highest_least o (run_tally o error g i d) (level_at g i) (level_at g (i + d - 1) - level_at g i)

-- the price of a run: the tally of showing it as its representative
unfoldable pub price : {C : Type 0} → Ops C → (ℕ → ℕ → ℕ) → Ledger → ℕ → ℕ → C
price o error g i d = run_tally o error g i d (representative o error g i d)

-- A division of the first n counted levels: how many levels each run has, the last run first. No run is empty.
abbrev pub Divides : List ℕ → ℕ → Type 0
Divides [] n = n ≡ 0
Divides (k ∷ ks) n = (0 < k) × (k ≤ n) × Divides ks (n - k)

-- the tally of a division: the join of the prices of its runs, where `cost i d` is the price of the d levels from place i
unfoldable pub divided : {C : Type 0} → Ops C → (ℕ → ℕ → C) → List ℕ → ℕ → C
divided o cost [] n = o.neutral
divided o cost (k ∷ ks) n = o.join (cost (n - k) k) (divided o cost ks (n - k))

-- No division of n levels into as many runs has a lower tally, and none of the same tally has a shorter last run.
pub record Leads {C : Type 0} (o : Ops C) (cost : ℕ → ℕ → C) (k : ℕ) (ks : List ℕ) (n : ℕ) : Type 0 where
  pub divides : Divides (k ∷ ks) n
  pub lowest : (others : List ℕ) → Divides others n → length others ≡ length (k ∷ ks) → NotAbove o (divided o cost (k ∷ ks) n) (divided o cost others n)
  pub shortest : (last : ℕ) (others : List ℕ) → Divides (last ∷ others) n → length others ≡ length ks → divided o cost (last ∷ others) n ≡ divided o cost (k ∷ ks) n → k ≤ last

-- The best division of n levels into as many runs: it leads, and the runs before the last are the best for the levels that they hold.
abbrev pub Best : {C : Type 0} → Ops C → (ℕ → ℕ → C) → List ℕ → ℕ → Type 0
Best o cost [] n = n ≡ 0
Best o cost (k ∷ ks) n = Leads o cost k ks n × Best o cost ks (n - k)

-- the best division of all counted levels for a table of at most `most` bins
pub record BestOf {C : Type 0} (o : Ops C) (error : ℕ → ℕ → ℕ) (g : Ledger) (most : ℕ) (runs : List ℕ) : Type 0 where
  pub number : length runs ≡ bins_of g most
  pub best : Best o (price o error g) runs (counted_levels g)

-- the tally of a division of all counted levels
abbrev pub tally_of : {C : Type 0} → Ops C → (ℕ → ℕ → ℕ) → Ledger → List ℕ → C
tally_of o error g runs = divided o (price o error g) runs (counted_levels g)
