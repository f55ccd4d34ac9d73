-- The sums over the levels read so far.
use Rattle.counting.specs.Meaning.{ledger_of}
use Rattle.pricing.specs.Plain.{Added}
use Rattle.pricing.proofs.pricers.level_range.LevelRange.sums.Given as goal

abbrev pub invariant-loop-place : goal.invariant-loop-place
invariant-loop-place l = Added (ledger_of l.self.histogram.now) l.self.first l.place l.pixels l.levels l.squares
