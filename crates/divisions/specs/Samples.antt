-- Two small ledgers to try the definitions at, and what is drawn from them, with the tally as a number.
use Rattle.std.specs.Prelude.{◌≡◌, ℕ, [], ◌∷◌}
use Rattle.counting.specs.Ledger.{Ledger}
use Rattle.pricing.specs.Tallies.{Ops}
use Rattle.pricing.specs.Kinds.{total_ops, worst_ops}
use Rattle.pricing.specs.declared.tallies.total.Total.{Total}
use Rattle.pricing.specs.declared.tallies.worst.Worst.{Worst}
use Rattle.tables.specs.Table.{Table}
use Rattle.divisions.specs.Tables.{Drawn}

-- of 8 levels, 3 pixels at level 1, one each at 3 and 4, and four at 7
abbrev pub four_levels : Ledger
four_levels = record { levels = 8; at = 0 ∷ 3 ∷ 0 ∷ 1 ∷ 1 ∷ 0 ∷ 0 ∷ 4 ∷ [] }

-- of 8 levels, one pixel each at 3 and 4
abbrev pub two_levels : Ledger
two_levels = record { levels = 8; at = 0 ∷ 0 ∷ 0 ∷ 1 ∷ 1 ∷ 0 ∷ 0 ∷ 0 ∷ [] }

-- the table that is drawn, and its tally as a number
abbrev pub Draws : {C : Type 0} → (C → ℕ) → Ops C → (ℕ → ℕ → ℕ) → Ledger → ℕ → Table → ℕ → Type 0
Draws {C} number o error g most table n = (t : C) × Drawn o error g most table t × (number t ≡ n)

-- the same by the sum of the errors, and by the worst of them
abbrev pub Totals : (ℕ → ℕ → ℕ) → Ledger → ℕ → Table → ℕ → Type 0
Totals error g most table n = Draws (λ (t : Total). t.sum) total_ops error g most table n

abbrev pub Worsts : (ℕ → ℕ → ℕ) → Ledger → ℕ → Table → ℕ → Type 0
Worsts error g most table n = Draws (λ (t : Worst). t.error) worst_ops error g most table n
