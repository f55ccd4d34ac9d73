-- From what writing a file gives to what is told of it.
use Rattle.std.proofs.Common.{◌≡◌, ℕ, List, length, Ok, Err, Option, Result, sym, refl, subst}
use Rattle.std.specs.Result.{result_unwrap_or}
use Rattle.refusals.specs.declared.refusal.Refusal.{Refusal}
use Rattle.counting.specs.Ledger.{Ledger}
use Rattle.counting.specs.Outputs.{Row, Wrote}
use Rattle.tables.specs.Table.{Table}
use Rattle.tablefile.specs.Bytes.{bytes_of}
use Rattle.tablefile.specs.Promises.{write_row}
use Rattle.ffi.specs.Files.{Put}

put_of : (row : Option Row) (cells before then : List ℕ) (result : Result ℕ Refusal) → Wrote row cells result before then → Put row cells (result_unwrap_or result 0) before then
put_of row cells before then (Ok count) w = subst (λ (x : Option Row). Put x cells count before then) (sym w.0) (w.1, w.2)
put_of row cells before then (Err e) w = subst (λ (x : Option Row). Put x cells 0 before then) (sym w.0) (refl, w.1)

-- the same of the pair that the outputs were made from
pub put_pair : (g pixels : Ledger) (t table : Table) (before then : List ℕ) (result : Result ℕ Refusal) (count : ℕ) → g ≡ pixels → t ≡ table → count ≡ result_unwrap_or result 0 →
    Wrote (write_row g t (length before)) (bytes_of g t) result before then → Put (write_row pixels table (length before)) (bytes_of pixels table) count before then
put_pair g pixels t table before then result count same alike is w =
    subst (λ (x : Ledger). Put (write_row x table (length before)) (bytes_of x table) count before then) same
    (subst (λ (x : Table). Put (write_row g x (length before)) (bytes_of g x) count before then) alike
    (subst (λ (n : ℕ). Put (write_row g t (length before)) (bytes_of g t) n before then) (sym is) (put_of _ _ before then result w)))
