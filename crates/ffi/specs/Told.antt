-- What C is told of a drawing.
use Rattle.std.specs.Prelude.{◌≡◌, ℕ, List, Some, None, Ok, Err, Option, Result}
use Rattle.counting.specs.Ledger.{Ledger}
use Rattle.counting.specs.Outputs.{Row}
use Rattle.refusals.specs.Refusals.{refusal_number}
use Rattle.refusals.specs.declared.refusal.Refusal.{Refusal}
use Rattle.pricing.specs.Kinds.{total_ops}
use Rattle.pricing.specs.Measures.{squared}
use Rattle.pricing.specs.declared.tallies.total.Total.{Total}
use Rattle.tables.specs.Table.{Table, bound_of, representative_of}
use Rattle.drawing.specs.Drawings.{Drew}
use Rattle.drawing.specs.declared.receipt.Receipt.{Receipt}
use Rattle.ffi.specs.Scans.{Filled}
use Rattle.ffi.specs.declared.drawn.Drawn.{Drawn}

-- the numbers of a receipt, and the table's bounds and representatives in the outputs
pub record Accepted (receipt : Receipt Total) (table : Table) (d : Drawn) (bounds bounds' greys greys' : List ℕ) : Type 0 where
  pub refusal : d.refusal ≡ 0
  pub bins : d.bins ≡ receipt.bins
  pub tally : d.tally ≡ receipt.tally.sum
  pub priced : d.priced ≡ receipt.priced
  pub compared : d.compared ≡ receipt.compared
  pub bounds_are : Filled (bound_of table) 256 bounds bounds'
  pub greys_are : Filled (representative_of table) 256 greys greys'

-- the number of a refusal and else zeros, and the outputs as they were
pub record Refused (number : ℕ) (d : Drawn) (bounds bounds' greys greys' : List ℕ) : Type 0 where
  pub refusal : d.refusal ≡ number
  pub bins : d.bins ≡ 0
  pub tally : d.tally ≡ 0
  pub priced : d.priced ≡ 0
  pub compared : d.compared ≡ 0
  pub bounds_are : bounds' ≡ bounds
  pub greys_are : greys' ≡ greys

-- what is told of a result
abbrev pub Told : Result (Receipt Total) Refusal → Table → Drawn → List ℕ → List ℕ → List ℕ → List ℕ → Type 0
Told (Ok receipt) table d bounds bounds' greys greys' = Accepted receipt table d bounds bounds' greys greys'
Told (Err e) table d bounds bounds' greys greys' = Refused (refusal_number e) d bounds bounds' greys greys'

-- a drawing by squared errors and their sum, of a ledger into at most `most` bins
pub record DrawnUp (g : Ledger) (most : ℕ) (d : Drawn) (bounds bounds' greys greys' : List ℕ) : Type 0 where
  pub receipt : Receipt Total
  pub table : Table
  pub drew : Drew total_ops squared g most receipt table
  pub told : Accepted receipt table d bounds bounds' greys greys'

-- refused by the row of the refusal table that fits, if any, and else drawn
abbrev pub DrewOrRefused : Option Row → Ledger → ℕ → Drawn → List ℕ → List ℕ → List ℕ → List ℕ → Type 0
DrewOrRefused None g most d bounds bounds' greys greys' = DrawnUp g most d bounds bounds' greys greys'
DrewOrRefused (Some row) g most d bounds bounds' greys greys' = Refused row.0 d bounds bounds' greys greys'

-- a refused drawing leaves the work lists as they were; those of an accepted one are free
abbrev pub Kept : Option Row → List Total → List Total → List ℕ → List ℕ → Type 0
Kept None tallies tallies' links links' = Unit {0}
Kept (Some row) tallies tallies' links links' = (tallies' ≡ tallies) × (links' ≡ links)
