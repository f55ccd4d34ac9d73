-- What a call does that writes the first cells of a lent output, or is refused.
use Rattle.std.specs.Prelude.{◌≡◌, ℕ, List, ◌++◌, length, drop, Some, None, Ok, Err, Option, Result}
use Rattle.refusals.specs.Refusals.{refusal_number, carried}
use Rattle.refusals.specs.declared.refusal.Refusal.{Refusal}

-- a row of the refusal table that a call fits: its number and the values carried along
abbrev pub Row : Type 0
Row = ℕ × List ℕ

abbrev pub row_of : Refusal → Row
row_of e = (refusal_number e, carried e)

-- the cells are written over the first of the output, and the rest stays
abbrev pub over : {X : Type 0} → List X → List X → List X
over cells before = cells ++ drop (length cells) before

-- Refused by the row that fits, if any, with the output as it was; else the cells are written and their number is returned.
abbrev pub Wrote : {X : Type 0} → Option Row → List X → Result ℕ Refusal → List X → List X → Type 0
Wrote row cells (Ok count) before then = (row ≡ None) × (count ≡ length cells) × (then ≡ over cells before)
Wrote row cells (Err e) before then = (row ≡ Some (row_of e)) × (then ≡ before)

-- refused exactly by the row that fits
abbrev pub Judged : {X : Type 0} → Option Row → Result X Refusal → Type 0
Judged row (Ok x) = row ≡ None
Judged row (Err e) = row ≡ Some (row_of e)
