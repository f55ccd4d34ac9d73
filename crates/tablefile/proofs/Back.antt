-- What was written reads back as the pair that was written.
use Rattle.std.proofs.Common.{◌≡◌, ℕ, eqb, List, [], ◌∷◌, length, take, Some, None, sym, refl, ap, ◌∙◌, inl, inr}
use Rattle.std.proofs.lemmas.List.{take_at}
use Rattle.std.proofs.lemmas.Option.{none-some}
use Rattle.std.proofs.lemmas.Bool.{cases_Bool, eqb-true}
use Rattle.counting.specs.Ledger.{Ledger}
use Rattle.counting.specs.Meaning.{ledger_of}
use Rattle.counting.specs.Outputs.{Row, over}
use Rattle.counting.specs.declared.histogram.Histogram.{Histogram}
use Rattle.tables.specs.Table.{Table}
use Rattle.tables.specs.Meaning.{table_of}
use Rattle.tables.specs.declared.table.LevelTable.{LevelTable}
use Rattle.tables.proofs.Bins.{lawful_table}
use Rattle.tablefile.specs.Bytes.{bytes_of}
use Rattle.tablefile.specs.Faults.{first_fault}
use Rattle.tablefile.specs.Promises.{Reads, write_row}
use Rattle.tablefile.specs.Theorems.{Pair}
use Rattle.tablefile.proofs.Meaning.{pairs_apart}
use Rattle.tablefile.proofs.Pairs.{pair_faultless}
use Rattle.counting.proofs.Ledgers.{sound_histogram}

-- where no row fits, the numbers of levels are the same
same_levels : (g : Ledger) (t : Table) (room : ℕ) → write_row g t room ≡ None → g.levels ≡ t.levels
same_levels g t room none = elim (cases_Bool (eqb g.levels t.levels)) [
  | inl e ↦ eqb-true _ _ e
  | inr ne ↦ (let other : write_row g t room ≡ Some (8, g.levels ∷ t.levels ∷ []) = rw ne refl in absurd (none-some _ (sym none ∙ other)))
]

module _ (h : Histogram) (t : LevelTable) (out then : List ℕ) (room written : ℕ)
    (none : write_row (ledger_of h) (table_of t) room ≡ None)
    (number : written ≡ length (bytes_of (ledger_of h) (table_of t)))
    (front : then ≡ over (bytes_of (ledger_of h) (table_of t)) out) where
  pair : Pair (ledger_of h) (table_of t)
  pair = record { histogram = sound_histogram h; table = lawful_table t; same = same_levels (ledger_of h) (table_of t) room none }

  part_is : take written then ≡ bytes_of (ledger_of h) (table_of t)
  part_is =
      ap (take written) front ∙ take_at (bytes_of (ledger_of h) (table_of t)) _ written (sym number)

  pub never_refused : (x : Row) → first_fault (take written then) ≡ Some x → ⊥
  never_refused x e = none-some x (sym (pair_faultless (ledger_of h) (table_of t) pair) ∙ sym (ap first_fault part_is) ∙ e)

  pub same_pair : (back : Histogram) (table_back : LevelTable) → Reads (take written then) (ledger_of back) (table_of table_back) →
      (ledger_of back ≡ ledger_of h) × (table_of table_back ≡ table_of t)
  same_pair back table_back reads =
      let other : Pair (ledger_of back) (table_of table_back) = record { histogram = sound_histogram back; table = lawful_table table_back; same = reads.2 } in
      pairs_apart (ledger_of back) (ledger_of h) (table_of table_back) (table_of t) other pair (reads.1 ∙ part_is)
