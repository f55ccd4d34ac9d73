-- What is proved of prices, beyond what each pricer promises.
use Rattle.std.specs.Prelude.{◌≡◌, ℕ, suc, ◌+◌, ◌-◌, ◌^◌, ◌<◌, ◌≤◌, Option}
use Rattle.counting.specs.Ledger.{Ledger, total_of}
use Rattle.pricing.specs.Tallies.{Ops}
use Rattle.pricing.specs.Errors.{Fair, SameErrors}
use Rattle.pricing.specs.Prices.{costs, Priced, PricedAt}
use Rattle.pricing.specs.Plain.{plain}
use Rattle.pricing.specs.Kinds.{total_ops}
use Rattle.pricing.specs.declared.tallies.total.Total.{Total}

-- What a range costs under Total is the plain sum of pixels times error, with fewer than 2 ^ 32 pixels and errors
-- below 2 ^ 32: the hold is not reached.
abbrev pub CostsArePlain : Type 0
CostsArePlain = (g : Ledger) (e : ℕ → ℕ) (a d : ℕ) → total_of g < 2 ^ 32 → ((k : ℕ) → a ≤ k → k < a + d → e k < 2 ^ 32) →
    (costs total_ops g e a d).sum ≡ plain g e a d

-- So the price of a range is the plain sum.
abbrev pub PricesArePlain : Type 0
PricesArePlain = (error : ℕ → ℕ → ℕ) (g : Ledger) (a b r : ℕ) (t : Total) → Fair error → g.levels ≤ 1024 → total_of g < 2 ^ 32 →
    PricedAt total_ops error g a b r t → t.sum ≡ plain g (λ k. error k r) a (suc b - a)

-- A range has one price: answers under one tally, for one histogram and under equal errors, are equal.
abbrev pub PricesAreOne : (C : Type 0) → Ops C → Type 0
PricesAreOne C o = (error other : ℕ → ℕ → ℕ) (g : Ledger) (a b : ℕ) (p q : Option (ℕ × C)) → SameErrors error other → g.levels ≤ 1024 →
    Priced o error g a b p → Priced o other g a b q → p ≡ q
