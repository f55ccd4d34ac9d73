use Rattle.std.proofs.Common.{arith}
use Rattle.tablefile.specs.Numbers.{word, long}
use Rattle.tablefile.proofs.Writing.{put_put, put_word, put_long}
use Rattle.tablefile.proofs.writer.Writer.put_level.Goals as goal

pub returns : goal.returns
returns c =
    let writer = c.args.self.now in
    let mid = c.put.new.self in
    let then = c.put-2.new.self in
    let level = put_word writer mid c.args.level _ c.ranges.level.fits c.to_be_bytes.ensures c.put.ensures in
    let pixels = put_long mid then c.args.pixels _ c.ranges.pixels.fits c.to_be_bytes-2.ensures c.put-2.ensures in
    put_put writer mid then (word c.args.level) (long c.args.pixels) (omega arith) level pixels
