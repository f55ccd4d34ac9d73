-- The counted levels at the ends of a range, and the highest level of a range that has the lowest tally.
use Rattle.std.specs.Prelude.{ℕ, ◌<◌, ◌≤◌}
use Rattle.counting.specs.Ledger.{Ledger}
use Rattle.pricing.specs.Tallies.{Ops, NotAbove}
use Rattle.pricing.specs.Prices.{Counted}

abbrev pub NoneCounted : Ledger → ℕ → ℕ → Type 0
NoneCounted g a b = (l : ℕ) → a ≤ l → l ≤ b → Counted g l → ⊥

pub record LowestCounted (g : Ledger) (a b low : ℕ) : Type 0 where
  pub from : a ≤ low
  pub to : low ≤ b
  pub counted : Counted g low
  pub below : (l : ℕ) → a ≤ l → l < low → Counted g l → ⊥

pub record HighestCounted (g : Ledger) (a b high : ℕ) : Type 0 where
  pub from : a ≤ high
  pub to : high ≤ b
  pub counted : Counted g high
  pub above : (l : ℕ) → high < l → l ≤ b → Counted g l → ⊥

-- t is least at r among low to high, and at no higher level as low
pub record LowestAt {C : Type 0} (o : Ops C) (t : ℕ → C) (low high r : ℕ) : Type 0 where
  pub from : low ≤ r
  pub to : r ≤ high
  pub least : (q : ℕ) → low ≤ q → q ≤ high → NotAbove o (t r) (t q)
  pub highest : (q : ℕ) → r < q → q ≤ high → NotAbove o (t q) (t r) → ⊥
