use Rattle.counting.proofs.Replays.{Upto}
use Rattle.counting.proofs.run.replay.Given as goal

abbrev pub invariant-loop-i : goal.invariant-loop-i
invariant-loop-i l = Upto l.calls l.initial.answers l.answers l.place l.i
