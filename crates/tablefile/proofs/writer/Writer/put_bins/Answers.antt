use Rattle.tables.specs.Meaning.{table_of}
use Rattle.tablefile.proofs.Writing.{bin_room, bin_put}
use Rattle.tablefile.proofs.writer.Writer.put_bins.Goals as goal

pub put_bin-requires : goal.put_bin-requires
put_bin-requires c =
    let lists = c.as_slice-bin-items.ensures in
    bin_room (table_of c.args.table.now) c.args.self.now c.requires _ lists.bounds lists.representatives c.loop-bin.self c.loop-bin.bin-index c.loop-bin.invariant c.loop-bin-test.true

pub loop-bin-preserved : goal.loop-bin-preserved
loop-bin-preserved c =
    let lists = c.as_slice-bin-items.ensures in
    bin_put (table_of c.args.table.now) c.args.self.now c.requires _ lists.bounds lists.representatives c.loop-bin.self c.loop-bin.bin-index c.loop-bin.invariant c.loop-bin-test.true c.put_bin.new.self _ c.put_bin.ensures
