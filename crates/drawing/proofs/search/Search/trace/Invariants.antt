-- The bins that are left and those that were read, which stand turned round.
use Rattle.std.proofs.Common.{reverse}
use Rattle.pricing.specs.Errors.{SameErrors}
use Rattle.drawing.specs.Filling.{ledger, counted}
use Rattle.drawing.proofs.Tracing.{Tracing}
use Rattle.drawing.proofs.search.Search.trace.Given as goal

abbrev pub invariant-loop-bin : goal.invariant-loop-bin
invariant-loop-bin g l =
    SameErrors (g.P.Measure.error l.pricer) (g.P.Measure.error l.initial.pricer)
    × Tracing g.P.Kind.Tally.ops (g.P.Measure.error l.initial.pricer) (ledger l.self) (counted l.self) l.self.bins l.bin l.end (reverse l.bins.items)
