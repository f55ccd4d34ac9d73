-- What the public calls promise: what is written, what is read and what is refused.
use Rattle.std.specs.Prelude.{◌≡◌, ℕ, cond, not, List, [], ◌∷◌, length, Some, None, Ok, Err, Option, Result, ◌==◌}
use Rattle.counting.specs.Ledger.{Ledger}
use Rattle.counting.specs.Meaning.{ledger_of}
use Rattle.counting.specs.Outputs.{Row, row_of}
use Rattle.counting.specs.declared.histogram.Histogram.{Histogram}
use Rattle.refusals.specs.declared.refusal.Refusal.{Refusal}
use Rattle.tables.specs.Table.{Table}
use Rattle.tables.specs.Meaning.{table_of}
use Rattle.tables.specs.Rows.{room_row}
use Rattle.tables.specs.declared.table.LevelTable.{LevelTable}
use Rattle.tablefile.specs.Bytes.{bytes_of}
use Rattle.tablefile.specs.Faults.{first, first_fault}

-- Writing a pair: differing numbers of levels, then an output too short.
abbrev pub write_row : Ledger → Table → ℕ → Option Row
write_row g t room =
    cond (not (g.levels == t.levels)) (Some (8, g.levels ∷ t.levels ∷ []))
    (room_row room (length (bytes_of g t)))

-- a file without a fault, and the pair whose bytes it is
abbrev pub Reads : List ℕ → Ledger → Table → Type 0
Reads file g t = (first_fault file ≡ None) × (bytes_of g t ≡ file) × (g.levels ≡ t.levels)

-- Reading a file into two places: refused by its first fault with both places as they were; else they have its pair.
abbrev pub ReadInto : {X : Type 0} → List ℕ → Result X Refusal → Histogram → Histogram → LevelTable → LevelTable → Type 0
ReadInto file (Ok x) h h_then t t_then = Reads file (ledger_of h_then) (table_of t_then)
ReadInto file (Err e) h h_then t t_then = (first_fault file ≡ Some (row_of e)) × (h_then ≡ h) × (t_then ≡ t)

-- Writing a pair and reading the bytes back into two places: refused as writing is, with both places as they were; else they have the pair again.
abbrev pub ReadBack : Ledger → Table → Result ℕ Refusal → Histogram → Histogram → LevelTable → LevelTable → Type 0
ReadBack g t (Ok n) h h_then u u_then = (ledger_of h_then ≡ g) × (table_of u_then ≡ t)
ReadBack g t (Err e) h h_then u u_then = (h_then ≡ h) × (u_then ≡ u)

-- Reading a file and writing what it has: refused by the file's first fault, then for an output too short.
abbrev pub rewrite_row : List ℕ → ℕ → Option Row
rewrite_row file room = first (first_fault file) (room_row room (length file))
