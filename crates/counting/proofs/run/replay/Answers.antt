use Rattle.std.proofs.Common.{◌<◌, arith}
use Rattle.std.proofs.lemmas.List.{get_or-take, length-take-le}
use Rattle.counting.proofs.Replays.{upto_more}
use Rattle.counting.proofs.run.replay.Goals as goal

pub loop-i-preserved : goal.loop-i-preserved
loop-i-preserved c =
    let made : c.loop-i.i < c.min-made.result = rw (length-take-le c.min-made.result c.args.calls.now (omega arith)) at c.loop-i-test.true in
    upto_more c.args.calls.now c.args.answers.now c.loop-i.answers c.loop-i.place c.perform.new.self c.loop-i.i _ c.perform.result
    (omega arith) (omega arith) c.loop-i.invariant (rw (get_or-take c.min-made.result c.args.calls.now c.loop-i.i _ made) at c.perform.ensures)
