-- What a search has come to, for the private functions that fill its cells and read them back: the public promises do not rest on
-- this file.
use Rattle.std.specs.Prelude.{ℕ, ◌+◌, ◌*◌, ◌≤◌, List, map, length}
use Rattle.counting.specs.Ledger.{Ledger, counted_levels}
use Rattle.counting.specs.Meaning.{ledger_of}
use Rattle.pricing.specs.Tallies.{Ops}
use Rattle.divisions.specs.Divisions.{price}
use Rattle.divisions.specs.Recurrence.{best_division}
use Rattle.divisions.specs.Tables.{bins_below}
use Rattle.tables.specs.declared.table.Bin.{Bin}
use Rattle.drawing.specs.Cells.{Searched}
use Rattle.drawing.specs.declared.work.Cells.{Cells}
use Rattle.drawing.specs.declared.search.Search.{Search}

-- the ledger whose counted levels are divided
abbrev pub ledger : Search → Ledger
ledger s = ledger_of s.histogram.now

abbrev pub counted : Search → ℕ
counted s = counted_levels (ledger s)

-- each work list has a cell for each counted level and each bin
abbrev pub HasRoom : {C : Type 0} → Search → Cells C → Type 0
HasRoom s cells = (counted s * s.bins ≤ length cells.tallies.now) × (counted s * s.bins ≤ length cells.links.now)

-- how far the cells are filled
abbrev pub SearchedTo : {C : Type 0} → Ops C → (ℕ → ℕ → C) → Search → ℕ → ℕ → Cells C → Type 0
SearchedTo o cost s n from cells = Searched o cost (counted s) s.bins n from cells.tallies.now cells.links.now

-- all cells are filled
abbrev pub Filled : {C : Type 0} → Ops C → (ℕ → ℕ → ℕ) → Search → Cells C → Type 0
Filled o error s cells = SearchedTo o (price o error (ledger s)) s (counted s + 1) (counted s + 1) cells

-- the bin of a bound and a representative
abbrev pub bin_with : ℕ × ℕ → Bin
bin_with p = record { bound = p.0; representative = p.1 }

-- the runs of the best division, and its bins
abbrev pub best_runs : {C : Type 0} → Ops C → (ℕ → ℕ → ℕ) → Search → List ℕ
best_runs o error s = best_division o (price o error (ledger s)) s.bins (counted s)

abbrev pub best_bins : {C : Type 0} → Ops C → (ℕ → ℕ → ℕ) → Search → List Bin
best_bins o error s = map bin_with (bins_below o error (ledger s) (best_runs o error s) (counted s))
