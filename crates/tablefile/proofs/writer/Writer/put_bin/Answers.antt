use Rattle.std.proofs.Common.{arith}
use Rattle.tablefile.specs.Numbers.{word}
use Rattle.tablefile.proofs.Writing.{put_put, put_word}
use Rattle.tablefile.proofs.writer.Writer.put_bin.Goals as goal

pub returns : goal.returns
returns c =
    let writer = c.args.self.now in
    let mid = c.put.new.self in
    let then = c.put-2.new.self in
    let bound = put_word writer mid c.args.bound _ c.ranges.bound.fits c.to_be_bytes.ensures c.put.ensures in
    let grey = put_word mid then c.args.representative _ c.ranges.representative.fits c.to_be_bytes-2.ensures c.put-2.ensures in
    put_put writer mid then (word c.args.bound) (word c.args.representative) (omega arith) bound grey
