-- The cells of fewer levels than the next end has are filled.
use Rattle.std.proofs.Common.{◌+◌}
use Rattle.pricing.specs.Errors.{SameErrors}
use Rattle.divisions.specs.Divisions.{price}
use Rattle.drawing.specs.Filling.{ledger, SearchedTo}
use Rattle.drawing.proofs.search.Search.fill.Given as goal

abbrev pub invariant-loop-end : goal.invariant-loop-end
invariant-loop-end g l =
    let o = g.P.Kind.Tally.ops in
    let error = g.P.Measure.error in
    SameErrors (error l.pricer) (error l.initial.pricer)
    × SearchedTo o (price o (error l.initial.pricer) (ledger l.self)) l.self (l.end + 1) (l.end + 1) l.cells
