-- From what a drawing gives and what is told of it to what is told of the drawn scan.
use Rattle.std.proofs.Common.{◌≡◌, ℕ, List, IfOk, Ok, Err, Option, Result, sym, subst}
use Rattle.counting.specs.Ledger.{Ledger}
use Rattle.counting.specs.Outputs.{Row, Judged}
use Rattle.refusals.specs.declared.refusal.Refusal.{Refusal}
use Rattle.pricing.specs.Kinds.{total_ops}
use Rattle.pricing.specs.Measures.{squared}
use Rattle.pricing.specs.declared.tallies.total.Total.{Total}
use Rattle.tables.specs.Table.{Table}
use Rattle.drawing.specs.Drawings.{Drew, draw_row}
use Rattle.drawing.specs.declared.receipt.Receipt.{Receipt}
use Rattle.ffi.specs.Told.{Told, DrewOrRefused}
use Rattle.ffi.specs.declared.drawn.Drawn.{Drawn}

module _ (most cells : ℕ) (table : Table) (d : Drawn) (bounds bounds' greys greys' : List ℕ) where
  judged : (g : Ledger) (result : Result (Receipt Total) Refusal) → Judged (draw_row g most cells) result → IfOk result (λ receipt. Drew total_ops squared g most receipt table) →
      Told result table d bounds bounds' greys greys' → DrewOrRefused (draw_row g most cells) g most d bounds bounds' greys greys'
  judged g (Ok receipt) j drew told =
      subst (λ (row : Option Row). DrewOrRefused row g most d bounds bounds' greys greys') (sym j) (record { receipt = receipt; table = table; drew = drew; told = told })
  judged g (Err e) j drew told = subst (λ (row : Option Row). DrewOrRefused row g most d bounds bounds' greys greys') (sym j) told

  -- the same, for the ledger of the scan and for errors that are squared
  pub told_of_scan : (error : ℕ → ℕ → ℕ) (g scan : Ledger) (result : Result (Receipt Total) Refusal) → error ≡ squared → g ≡ scan → Judged (draw_row g most cells) result →
      IfOk result (λ receipt. Drew total_ops error g most receipt table) → Told result table d bounds bounds' greys greys' →
      DrewOrRefused (draw_row scan most cells) scan most d bounds bounds' greys greys'
  told_of_scan error g scan result squares same j drew told =
      subst (λ (x : Ledger). DrewOrRefused (draw_row x most cells) x most d bounds bounds' greys greys') same
      (judged g result j (subst (λ (err : ℕ → ℕ → ℕ). IfOk result (λ receipt. Drew total_ops err g most receipt table)) squares drew) told)
