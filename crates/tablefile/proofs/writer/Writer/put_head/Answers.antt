use Rattle.std.proofs.Common.{[], ◌∷◌, arith}
use Rattle.tablefile.specs.Numbers.{word}
use Rattle.tablefile.proofs.Writing.{put_put, put_word}
use Rattle.tablefile.proofs.writer.Writer.put_head.Goals as goal

pub returns : goal.returns
returns c =
    let writer = c.args.self.now in
    let mid = c.put.new.self in
    let then = c.put-2.new.self in
    put_put writer mid then (5 ∷ []) (word c.args.levels) (omega arith) c.put.ensures (put_word mid then c.args.levels _ c.ranges.levels.fits c.to_be_bytes.ensures c.put-2.ensures)
