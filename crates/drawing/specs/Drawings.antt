-- What drawing up a table promises: when it is refused, what it leaves then, and else what the table, the tally and the figures are.
use Rattle.std.specs.Prelude.{◌≡◌, ℕ, ◌*◌, ◌<◌, ◌≤◌, min, cond, ◌&&◌, List, [], ◌∷◌, length, IfOk, IfErr, Some, None, Option, Result, ◌==◌, nat_le, nat_lt}
use Rattle.counting.specs.Ledger.{Ledger, total_of, counted_levels, after}
use Rattle.counting.specs.Outputs.{Row, Judged}
use Rattle.counting.specs.Runs.{Answer, performed, Replayed}
use Rattle.counting.specs.declared.histogram.Histogram.{Histogram}
use Rattle.refusals.specs.declared.refusal.Refusal.{Refusal}
use Rattle.counting.specs.declared.run.Call.{Call}
use Rattle.pricing.specs.Tallies.{Ops, NotAbove}
use Rattle.pricing.specs.Errors.{Fair, SameErrors}
use Rattle.pricing.specs.Kinds.{total_ops}
use Rattle.pricing.specs.Plain.{plain}
use Rattle.pricing.specs.declared.tallies.total.Total.{Total}
use Rattle.pricing.specs.Prices.{map_tally}
use Rattle.tables.specs.Table.{Table, shown_by}
use Rattle.tables.specs.Meaning.{table_of}
use Rattle.tables.specs.declared.table.LevelTable.{LevelTable}
use Rattle.counting.specs.Sound.{Sound}
use Rattle.divisions.specs.Divisions.{bins_of, BestOf}
use Rattle.divisions.specs.Tables.{table_for}
use Rattle.divisions.specs.Figures.{priced_of, compared_of}
use Rattle.divisions.specs.Theorems.{Serves}
use Rattle.drawing.specs.declared.receipt.Receipt.{Receipt}

-- the cells that each work list needs
abbrev pub cells_needed : Ledger → ℕ → ℕ
cells_needed g most = counted_levels g * bins_of g most

-- The row of the refusal table that a drawing fits, where the shorter work list has so many cells:
-- a number of bins out of range, then no pixel counted, then a work list too short.
abbrev pub draw_row : Ledger → ℕ → ℕ → Option Row
draw_row g most cells =
    cond (nat_le 1 most && nat_le most 256)
    (cond (total_of g == 0) (Some (6, []))
    (cond (nat_lt cells (cells_needed g most)) (Some (7, cells_needed g most ∷ [])) None))
    (Some (5, most ∷ []))

-- The receipt and the table of a drawing of at most `most` bins.
pub record Drew {C : Type 0} (o : Ops C) (error : ℕ → ℕ → ℕ) (g : Ledger) (most : ℕ) (receipt : Receipt C) (table : Table) : Type 0 where
  -- the tally is that of the table's own map: each pixel is charged once, as the table shows it
  pub charged_once : receipt.tally ≡ map_tally o error g (shown_by table)
  -- every map to at most `most` shown levels, grouped or scattered, tallies at least as much
  pub never_higher : (f : ℕ → ℕ) (shown : List ℕ) → Serves g most f shown → NotAbove o receipt.tally (map_tally o error g f)
  -- the table is that of the best division
  pub runs : List ℕ
  pub best : BestOf o error g most runs
  pub table_is : table ≡ table_for o error g runs
  pub levels : table.levels ≡ g.levels
  pub bins : receipt.bins ≡ bins_of g most
  pub priced : receipt.priced ≡ priced_of g most
  pub compared : receipt.compared ≡ compared_of g most
  -- with a bin for each counted level nothing is lost
  pub enough : counted_levels g ≤ most → receipt.tally ≡ o.neutral

-- The whole of a drawing, for a pricer whose meaning is `error`: what it returns, and what every place and list holds afterwards (but for the work lists of an accepted drawing, which are free).
pub record Drawing {C P : Type 0} (o : Ops C) (error : P → ℕ → ℕ → ℕ) (g : Ledger) (most : ℕ) (result : Result (Receipt C) Refusal)
    (pricer pricer' : P) (tallies tallies' : List C) (links links' : List ℕ) (table table' : LevelTable) : Type 0 where
  pub refused_exactly : Judged (draw_row g most (min (length tallies) (length links))) result
  pub unaltered : IfErr result (λ _. (pricer' ≡ pricer) × (tallies' ≡ tallies) × (links' ≡ links) × (table' ≡ table))
  pub drew : IfOk result (λ receipt. Drew o (error pricer) g most receipt (table_of table'))
  pub same_errors : SameErrors (error pricer') (error pricer)

-- The law over runs: from a fresh histogram, any calls in any order, refused or not, and then a drawing. Every answer, and the
-- histogram, are those of the ledger that was fed the calls' arguments and nothing else, and the drawing is judged by that ledger.
pub record Reduced {C P : Type 0} (o : Ops C) (error : P → ℕ → ℕ → ℕ) (calls : List Call) (answers answers' : List Answer) (place' : Histogram) (most : ℕ) (result : Result (Receipt C) Refusal)
    (pricer pricer' : P) (tallies tallies' : List C) (links links' : List ℕ) (table table' : LevelTable) : Type 0 where
  pub counted : Replayed calls answers answers' place'
  pub drawn : Drawing o error (after (performed calls answers)) most result pricer pricer' tallies tallies' links links' table table'

-- By Total the tally of a drawing is the plain sum of pixels times error: it is never held.
abbrev pub DrawnTotalsArePlain : Type 0
DrawnTotalsArePlain = (error : ℕ → ℕ → ℕ) (g : Ledger) (most : ℕ) (receipt : Receipt Total) (table : Table) → Fair error → Sound g → 0 < most → most ≤ 256 → 0 < counted_levels g → Drew total_ops error g most receipt table →
    receipt.tally.sum ≡ plain g (λ k. error k (shown_by table k)) 0 g.levels
