-- One row more is written at its place, or the first that is refused ends it.
use Rattle.std.proofs.Common.{sym, ◌∙◌, arith}
use Rattle.ffi.proofs.RowWrites.{next_row, stopped_here, all_rows}
use Rattle.ffi.proofs.scans.write_rows.Goals as goal

pub loop-i-preserved : goal.loop-i-preserved
loop-i-preserved g c = λ f fits writes.
    next_row f fits c.args.scan.width c.args.scan.cells.now c.row.result.now c.args.out.now c.loop-i.out c.write.new.arg3 c.loop-i.i c.span-place.result.start c.span-place.result.end c.loop-i.auto.out
    c.row.ensures c.span-place.ensures.0 c.span-place.ensures.1 c.write.auto.arg3 (c.loop-i.invariant f fits writes) c.write.result (sym c.is_err.ensures.value ∙ c.if-is_err.false) (writes _ _ _ _ c.write.ensures)

pub returns-then-is_err : goal.returns-then-is_err
returns-then-is_err g c = λ f fits writes.
    stopped_here f fits c.args.scan.width c.args.scan.cells.now c.row.result.now c.args.out.now c.loop-i.out c.write.new.arg3 c.loop-i.i c.span-place.result.start c.span-place.result.end c.loop-i.auto.out
    c.row.ensures c.span-place.ensures.0 c.span-place.ensures.1 c.write.auto.arg3 (c.loop-i.invariant f fits writes) c.args.scan.rows (omega arith) c.write.result (sym c.is_err.ensures.value ∙ c.if-is_err.true)
    (writes _ _ _ _ c.write.ensures)

pub returns : goal.returns
returns g c = λ f fits writes. all_rows f fits c.args.scan.rows c.loop-i.i _ _ _ _ (omega arith) (c.loop-i.invariant f fits writes)
