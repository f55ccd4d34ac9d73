-- What C is told of a table file that is written or read.
use Rattle.std.specs.Prelude.{◌≡◌, ℕ, List, length, Some, None, Option}
use Rattle.counting.specs.Ledger.{Ledger, pixels_at}
use Rattle.counting.specs.Outputs.{Row, over}
use Rattle.tables.specs.Table.{Table, bound_of, representative_of}
use Rattle.tablefile.specs.Promises.{Reads}
use Rattle.tablefile.specs.Theorems.{Pair}
use Rattle.ffi.specs.Scans.{Filled}

-- the cells over the first of the output, and how many they are; where a row of the refusal table fits, nothing
abbrev pub Put : Option Row → List ℕ → ℕ → List ℕ → List ℕ → Type 0
Put None cells count before then = (count ≡ length cells) × (then ≡ over cells before)
Put (Some row) cells count before then = (count ≡ 0) × (then ≡ before)

-- a file's histogram and table in the outputs, zeros past the levels and past the last bin
pub record GotPair (file : List ℕ) (number : ℕ) (at at' bounds bounds' greys greys' : List ℕ) : Type 0 where
  pub histogram : Ledger
  pub table : Table
  pub pair : Pair histogram table
  pub reads : Reads file histogram table
  pub accepted : number ≡ 0
  pub pixels_are : Filled (pixels_at histogram) 1024 at at'
  pub bounds_are : Filled (bound_of table) 256 bounds bounds'
  pub greys_are : Filled (representative_of table) 256 greys greys'

-- the pair of a file without a fault; else the number of its first fault, and the outputs as they were
abbrev pub Got : Option Row → List ℕ → ℕ → List ℕ → List ℕ → List ℕ → List ℕ → List ℕ → List ℕ → Type 0
Got None file number at at' bounds bounds' greys greys' = GotPair file number at at' bounds bounds' greys greys'
Got (Some row) file number at at' bounds bounds' greys greys' = (number ≡ row.0) × (at' ≡ at) × (bounds' ≡ bounds) × (greys' ≡ greys)
