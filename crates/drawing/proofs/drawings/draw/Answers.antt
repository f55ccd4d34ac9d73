-- A drawing that no row refuses has what drawing up asks for.
use Rattle.std.proofs.Common.{arith}
use Rattle.counting.specs.Meaning.{ledger_of}
use Rattle.drawing.proofs.Judging.{allowed}
use Rattle.drawing.proofs.drawings.draw.Goals as goal

pub draw_up-requires : goal.draw_up-requires
draw_up-requires g c =
    let a = allowed (ledger_of c.args.histogram.now) c.args.most c.min.result c.in_ok-judge.ensures in
    record { shape = (a.bins.0, a.bins.1, a.some); room = (omega (arith, a.room, c.min.ensures), omega (arith, a.room, c.min.ensures)) }
