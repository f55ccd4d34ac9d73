use Rattle.std.proofs.Common.{rules, tests, ◌≡◌, ℕ, ◌+◌, ◌-◌, List, length, get_or, IfNone, sum, ap, ◌∙◌, subst, arith, take_all}
use Rattle.counting.specs.Ledger.{occurs}
use Rattle.counting.specs.Short.{LowestShort}
use Rattle.counting.proofs.Shortage.{taken_one, taken_none}
use Rattle.counting.proofs.histogram.changes.take_row.Goals as goal
use Rattle.counting.proofs.histogram.changes.take_row.Goals.{then-pixels-level-gt0, else-pixels-level-gt0}

pub loop-pixel-preserved : goal.loop-pixel-preserved
loop-pixel-preserved c =
    let is = c.from-level.ensures in
    let level = c.requires c.loop-pixel.pixel-index (omega arith) in
    elim c.if-pixels-level-gt0.branch [
      | then-pixels-level-gt0 w ↦ taken_one c.args.pixels.now c.loop-pixel.pixels c.args.row.now c.loop-pixel.pixel-index (omega arith) level
          c.loop-pixel.lowest c.if-pixels-level-gt0.lowest c.if-pixels-level-gt0.pixels c.loop-pixel.invariant (rw is at w.if-pixels-level-gt0.true) (rw is at w.pixels-is) w.lowest-is
      | else-pixels-level-gt0 w ↦ taken_none c.args.pixels.now c.loop-pixel.pixels c.args.row.now c.loop-pixel.pixel-index (omega arith) level
          c.loop-pixel.lowest c.if-pixels-level-gt0.lowest c.if-pixels-level-gt0.pixels w.map_or.result c.loop-pixel.invariant (rw is at w.if-pixels-level-gt0.false) (search (rules, tests)) w.pixels-is w.lowest-is
    ]

pub returns : goal.returns
returns c =
    let whole = take_all c.loop-pixel.pixel-index c.args.row.now c.loop-pixel-test.false in
    let index : c.loop-pixel.pixel-index ≡ length c.args.row.now = omega arith in
    record {
      each = λ l h. c.loop-pixel.invariant.1 l h ∙ ap (λ (r : List ℕ). get_or c.args.pixels.now l 0 - occurs l r) whole;
      lowest = subst (λ (r : List ℕ). LowestShort c.args.pixels.now r c.loop-pixel.lowest) whole c.loop-pixel.invariant.2;
      all = subst (λ (n : ℕ). IfNone c.loop-pixel.lowest (sum c.loop-pixel.pixels + n ≡ sum c.args.pixels.now)) index c.loop-pixel.invariant.3;
    }
