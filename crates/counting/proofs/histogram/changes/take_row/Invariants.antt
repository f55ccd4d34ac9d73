use Rattle.counting.proofs.Shortage.{Taken}
use Rattle.counting.proofs.histogram.changes.take_row.Given as goal

abbrev pub invariant-loop-pixel : goal.invariant-loop-pixel
invariant-loop-pixel l = Taken l.initial.pixels l.pixels l.row l.lowest l.pixel-index
