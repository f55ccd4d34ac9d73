-- Each turn appends the line of one bin.
use Rattle.std.proofs.Common.{arith}
use Rattle.counting.specs.Meaning.{ledger_of}
use Rattle.tables.proofs.Bins.{bound_below, lawful_table}
use Rattle.tables.specs.Meaning.{table_of}
use Rattle.branch.specs.Report.{bin_line}
use Rattle.branch.proofs.Spans.{bin_here, first_le, next_first}
use Rattle.branch.proofs.Texts.{line_more}
use Rattle.branch.proofs.lines.DrawnTable.bin_lines.Goals as goal

pub bin_line-requires : goal.bin_line-requires
bin_line-requires c =
    let t = table_of c.args.self.now.table.now in
    let law = lawful_table c.args.self.now.table.now in
    let lists = c.as_slice-bin-items.ensures in
    let here = bin_here t _ lists.bounds lists.representatives c.loop-bin.bin-index c.loop-bin-test.true in
    let below = bound_below t law c.loop-bin.bin-index here.within in
    let begins = first_le t law c.loop-bin.bin-index here.within in
    (omega (arith, here.bound, c.loop-bin.invariant.begins), omega (arith, here.bound, c.args.self.now.levels))

pub overflow_add-first : goal.overflow_add-first
overflow_add-first c =
    let t = table_of c.args.self.now.table.now in
    let law = lawful_table c.args.self.now.table.now in
    let lists = c.as_slice-bin-items.ensures in
    let here = bin_here t _ lists.bounds lists.representatives c.loop-bin.bin-index c.loop-bin-test.true in
    omega (arith, here.bound, bound_below t law c.loop-bin.bin-index here.within, law.range)

pub loop-bin-preserved : goal.loop-bin-preserved
loop-bin-preserved c =
    let t = table_of c.args.self.now.table.now in
    let lists = c.as_slice-bin-items.ensures in
    let here = bin_here t _ lists.bounds lists.representatives c.loop-bin.bin-index c.loop-bin-test.true in
    record {
      lines =
          let line = c.in_ok-line.ensures in
          let bytes = c.in_ok-push_str.ensures.bytes in
          let value = c.as_str.ensures.value in
          let begins = c.loop-bin.invariant.begins in
          let bound = here.bound in
          let representative = here.representative in
          let more = line_more (bin_line (ledger_of c.args.self.now.histogram.now) t) c.loop-bin.bin-index in
          cc;
      begins = next_first t c.loop-bin.bin-index _ here.bound;
    }
