-- The cost of the levels read so far, and the meaning of the measure as it was.
use Rattle.std.proofs.Common.{◌≡◌}
use Rattle.counting.specs.Meaning.{ledger_of}
use Rattle.pricing.specs.Errors.{SameErrors}
use Rattle.pricing.specs.Prices.{costs}
use Rattle.pricing.proofs.pricers.level_range.LevelRange.tally.Given as goal

abbrev pub invariant-loop-place : goal.invariant-loop-place
invariant-loop-place g l =
    (l.tally ≡ costs g.T.Tally.ops (ledger_of l.self.histogram.now) (λ k. g.M.Measure.error l.initial.measure k l.r) l.self.first l.place)
    × SameErrors (g.M.Measure.error l.measure) (g.M.Measure.error l.initial.measure)
