-- The best of the levels tried so far, and the meaning of the measure as it was.
use Rattle.std.proofs.Common.{◌+◌, ◌≤◌}
use Rattle.counting.specs.Meaning.{ledger_of}
use Rattle.pricing.specs.Errors.{SameErrors}
use Rattle.pricing.specs.Prices.{range_tally}
use Rattle.pricing.proofs.Trials.{Best}
use Rattle.pricing.proofs.pricers.level_range.LevelRange.lowest.Given as goal

abbrev pub invariant-loop-r : goal.invariant-loop-r
invariant-loop-r g l =
    Best g.T.Tally.ops (range_tally g.T.Tally.ops (g.M.Measure.error l.initial.measure) (ledger_of l.self.histogram.now) l.self.first l.self.last) l.low l.r l.best
    × SameErrors (g.M.Measure.error l.measure) (g.M.Measure.error l.initial.measure) × (l.r ≤ l.high + 1)
