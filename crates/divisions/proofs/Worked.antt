-- The worked cases: what the definitions give at two small ledgers.
use Rattle.std.proofs.Common.{◌≡◌, ℕ, ◌<◌, List, [], ◌∷◌, refl, arith}
use Rattle.counting.specs.Ledger.{Ledger, counted_levels}
use Rattle.pricing.specs.Tallies.{Ops, Laws}
use Rattle.pricing.specs.Kinds.{total_ops, worst_ops}
use Rattle.pricing.specs.Measures.{squared, distance, weighed, allowed, capped}
use Rattle.pricing.specs.Prices.{costs}
use Rattle.pricing.specs.declared.tallies.total.Total.{Total}
use Rattle.pricing.specs.declared.tallies.worst.Worst.{Worst}
use Rattle.pricing.specs.KindLaws.{total_laws}
use Rattle.tables.specs.Table.{Table, given}
use Rattle.divisions.specs.Divisions.{level_at, bins_of, highest_least, representative, price, divided, tally_of}
use Rattle.divisions.specs.Tables.{bins_below, table_to, table_for}
use Rattle.divisions.specs.Samples.{four_levels, two_levels, Draws, Totals, Worsts}
use Rattle.divisions.specs.Recurrence.{best_division}
use Rattle.divisions.proofs.Models.{worst_laws}
use Rattle.divisions.proofs.Stated.{best_found}

-- what a case computes with
unfoldable pub computing : Unit {0}
unfolding costs level_at highest_least representative price divided bins_below table_to best_division
computing = tt

-- what is drawn, where the runs, the table and the tally's number compute
abbrev Computed : {C : Type 0} → (C → ℕ) → Ops C → (ℕ → ℕ → ℕ) → Ledger → ℕ → List ℕ → Table → ℕ → Type 0
Computed number o error g most runs table n =
    (best_division o (price o error g) (bins_of g most) (counted_levels g) ≡ runs) × (table_for o error g runs ≡ table) × (number (tally_of o error g runs) ≡ n)

draws : {C : Type 0} (number : C → ℕ) (o : Ops C) → Laws o → (error : ℕ → ℕ → ℕ) (g : Ledger) (most : ℕ) (runs : List ℕ) (table : Table) (n : ℕ) → 0 < most →
    Computed number o error g most runs table n → Draws number o error g most table n
draws number o L error g most runs table n pos c =
    (tally_of o error g runs, record { runs = runs; best = rw c.0 at (best_found o error g most L pos); table_is = c.1; tally_is = refl }, c.2)

module _ (error : ℕ → ℕ → ℕ) (g : Ledger) (most : ℕ) (runs : List ℕ) (table : Table) (n : ℕ) (pos : 0 < most) where
  totals : Computed (λ (t : Total). t.sum) total_ops error g most runs table n → Totals error g most table n
  totals = draws (λ (t : Total). t.sum) total_ops total_laws error g most runs table n pos

  worsts : Computed (λ (t : Worst). t.error) worst_ops error g most runs table n → Worsts error g most table n
  worsts = draws (λ (t : Worst). t.error) worst_ops worst_laws error g most runs table n pos

pub one : Totals squared four_levels 1 (given 8 (7 ∷ []) (4 ∷ [])) 64
unfolding computing
one = totals squared four_levels 1 (4 ∷ []) _ _ (omega arith) (refl, refl, refl)

pub two : Totals squared four_levels 2 (given 8 (4 ∷ 7 ∷ []) (2 ∷ 7 ∷ [])) 8
unfolding computing
two = totals squared four_levels 2 (1 ∷ 3 ∷ []) _ _ (omega arith) (refl, refl, refl)

pub three : Totals squared four_levels 3 (given 8 (1 ∷ 4 ∷ 7 ∷ []) (1 ∷ 4 ∷ 7 ∷ [])) 1
unfolding computing
three = totals squared four_levels 3 (1 ∷ 2 ∷ 1 ∷ []) _ _ (omega arith) (refl, refl, refl)

pub four : Totals squared four_levels 4 (given 8 (1 ∷ 3 ∷ 4 ∷ 7 ∷ []) (1 ∷ 3 ∷ 4 ∷ 7 ∷ [])) 0
unfolding computing
four = totals squared four_levels 4 (1 ∷ 1 ∷ 1 ∷ 1 ∷ []) _ _ (omega arith) (refl, refl, refl)

pub many : Totals squared four_levels 256 (given 8 (1 ∷ 3 ∷ 4 ∷ 7 ∷ []) (1 ∷ 3 ∷ 4 ∷ 7 ∷ [])) 0
unfolding computing
many = totals squared four_levels 256 (1 ∷ 1 ∷ 1 ∷ 1 ∷ []) _ _ (omega arith) (refl, refl, refl)

pub worst : Worsts squared four_levels 2 (given 8 (4 ∷ 7 ∷ []) (3 ∷ 7 ∷ [])) 4
unfolding computing
worst = worsts squared four_levels 2 (1 ∷ 3 ∷ []) _ _ (omega arith) (refl, refl, refl)

pub ties : ((tally_of worst_ops squared four_levels (1 ∷ 3 ∷ [])).error ≡ 4) × ((tally_of worst_ops squared four_levels (2 ∷ 2 ∷ [])).error ≡ 4) × ((tally_of worst_ops squared four_levels (3 ∷ 1 ∷ [])).error ≡ 4)
unfolding computing
ties = (refl, refl, refl)

pub distances : Totals distance four_levels 1 (given 8 (7 ∷ []) (4 ∷ [])) 22
unfolding computing
distances = totals distance four_levels 1 (4 ∷ []) _ _ (omega arith) (refl, refl, refl)

pub allowance : Totals (allowed 4 squared) four_levels 1 (given 8 (7 ∷ []) (4 ∷ [])) 35
unfolding computing
allowance = totals (allowed 4 squared) four_levels 1 (4 ∷ []) _ _ (omega arith) (refl, refl, refl)

pub weights : Totals (weighed (1 ∷ 1 ∷ 1 ∷ 1 ∷ 1 ∷ 1 ∷ 1 ∷ 0 ∷ []) squared) four_levels 1 (given 8 (7 ∷ []) (2 ∷ [])) 8
unfolding computing
weights = totals (weighed (1 ∷ 1 ∷ 1 ∷ 1 ∷ 1 ∷ 1 ∷ 1 ∷ 0 ∷ []) squared) four_levels 1 (4 ∷ []) _ _ (omega arith) (refl, refl, refl)

pub ceiling : Worsts (capped 9 squared) four_levels 1 (given 8 (7 ∷ []) (7 ∷ [])) 9
unfolding computing
ceiling = worsts (capped 9 squared) four_levels 1 (4 ∷ []) _ _ (omega arith) (refl, refl, refl)

pub pair : Totals squared two_levels 1 (given 8 (7 ∷ []) (4 ∷ [])) 1
unfolding computing
pair = totals squared two_levels 1 (2 ∷ []) _ _ (omega arith) (refl, refl, refl)
