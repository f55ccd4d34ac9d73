-- The starts above `start` have been tried, against any error that agrees with the pricer as it was.
use Rattle.std.proofs.Common.{ℕ, ◌+◌, ◌≤◌}
use Rattle.pricing.specs.Errors.{SameErrors}
use Rattle.divisions.specs.Divisions.{price}
use Rattle.drawing.specs.Filling.{ledger, HasRoom, SearchedTo}
use Rattle.drawing.proofs.search.Search.fill_end.Given as goal

abbrev pub invariant-loop-start : goal.invariant-loop-start
invariant-loop-start g l =
    let o = g.P.Kind.Tally.ops in
    SameErrors (g.P.Measure.error l.pricer) (g.P.Measure.error l.initial.pricer)
    × HasRoom l.self l.cells
    × (l.start-start ≤ l.start)
    × ((error : ℕ → ℕ → ℕ) → SameErrors (g.P.Measure.error l.initial.pricer) error →
    SearchedTo o (price o error (ledger l.self)) l.self (l.end + 1) (l.end + 1) l.initial.cells →
    SearchedTo o (price o error (ledger l.self)) l.self (l.end + 1) (l.start + 1) l.cells)
