-- A file and its pair of histogram and table determine each other.
use Rattle.std.specs.Prelude.{◌≡◌, ℕ, ◌<◌, List, None, slice_index}
use Rattle.counting.specs.Ledger.{Ledger}
use Rattle.counting.specs.Sound.{Sound}
use Rattle.tables.specs.Table.{Table, Lawful as LawfulTable}
use Rattle.tablefile.specs.Bytes.{bytes_of}
use Rattle.tablefile.specs.Faults.{first_fault}
use Rattle.tablefile.specs.Promises.{Reads}

-- the pairs that have a file
pub record Pair (g : Ledger) (t : Table) : Type 0 where
  pub histogram : Sound g
  pub table : LawfulTable t
  pub same : g.levels ≡ t.levels

-- a list of bytes
abbrev pub File : List ℕ → Type 0
File file = (k : ℕ) → slice_index file k < 256

pub record OneToOne : Type 0 where
  -- a file without a fault is the bytes of a pair,
  pub faultless : (file : List ℕ) → File file → first_fault file ≡ None → (g : Ledger) × (t : Table) × Pair g t × (bytes_of g t ≡ file)
  -- and the bytes of a pair are a file without a fault;
  pub pairs : (g : Ledger) (t : Table) → Pair g t → File (bytes_of g t) × (first_fault (bytes_of g t) ≡ None)
  -- no two pairs write alike,
  pub write_apart : (g h : Ledger) (t u : Table) → Pair g t → Pair h u → bytes_of g t ≡ bytes_of h u → (g ≡ h) × (t ≡ u)
  -- and no two files read alike.
  pub read_apart : (a b : List ℕ) (g : Ledger) (t : Table) → Reads a g t → Reads b g t → a ≡ b
