use Rattle.std.proofs.Common.{◌≡◌, ℕ, ◌+◌, List, get_or, take, ap, ◌∙◌, arith, length-set, take_all}
use Rattle.std.proofs.lemmas.List.Sums.{get_or-le-sum_by, sum_by-set}
use Rattle.counting.specs.Ledger.{occurs}
use Rattle.counting.proofs.Rows.{changed_more}
use Rattle.counting.proofs.histogram.changes.add_row.Goals as goal

pub overflow_add-pixels : goal.overflow_add-pixels
overflow_add-pixels c =
    let p = get_or c.args.row.now c.loop-pixel.pixel-index 0 in
    let level = c.requires.levels c.loop-pixel.pixel-index (omega arith) in
    let part = get_or-le-sum_by (λ x. x) c.loop-pixel.pixels p 0 (omega arith) in
    rw c.from.ensures (omega arith)

pub loop-pixel-preserved : goal.loop-pixel-preserved
loop-pixel-preserved c =
    let p = get_or c.args.row.now c.loop-pixel.pixel-index 0 in
    let v = get_or c.loop-pixel.pixels p 0 + 1 in
    let level = c.requires.levels c.loop-pixel.pixel-index (omega arith) in
    let one : v ≡ get_or c.args.pixels.now p 0 + (occurs p (take c.loop-pixel.pixel-index c.args.row.now) + 1) = omega (arith, c.loop-pixel.invariant.1 p level) in
    let total = sum_by-set (λ x. x) c.loop-pixel.pixels p v 0 (omega arith) in rw c.from.ensures (
      length-set _ _ _ ∙ c.loop-pixel.invariant.0,
      changed_more ◌+◌ c.args.pixels.now c.loop-pixel.pixels c.args.row.now c.loop-pixel.pixel-index v c.loop-pixel.invariant.0 (omega arith) level c.loop-pixel.invariant.1 one,
      omega arith,
    )

pub returns : goal.returns
returns c =
    let whole = take_all c.loop-pixel.pixel-index c.args.row.now c.loop-pixel-test.false in
    record {
      each = λ l h. c.loop-pixel.invariant.1 l h ∙ ap (λ (r : List ℕ). get_or c.args.pixels.now l 0 + occurs l r) whole;
      all = omega arith;
    }
