use Rattle.tablefile.proofs.Back.{never_refused, same_pair}
use Rattle.tablefile.proofs.trips.round_trip.Goals as goal

pub returns-in_err-read : goal.returns-in_err-read
returns-in_err-read c =
    let w = c.in_ok-written.ensures in
    absurd (never_refused c.args.histogram.now c.args.table.now c.args.out.now c.write.new.out _ c.in_ok-written.written w.0 w.1 w.2 _ c.in_err-read.ensures.0)

pub returns-clause-back : goal.returns-clause-back
returns-clause-back c =
    let w = c.in_ok-written.ensures in
    same_pair c.args.histogram.now c.args.table.now c.args.out.now c.write.new.out _ c.in_ok-written.written w.0 w.1 w.2 c.read.new.histogram c.read.new.table c.in_ok-read.ensures
