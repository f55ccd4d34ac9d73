use Rattle.std.proofs.Common.{rules, tests, ◌<◌, ◌≤◌, ltb, arith}
use Rattle.std.proofs.lemmas.Bool.{lt-ltb}
use Rattle.std.proofs.lemmas.Iterator.{IsFirst-from_position, YieldsList-from_slice}
use Rattle.std.proofs.lemmas.List.Sums.{prefix_len_is}
use Rattle.counting.proofs.Rows.{first_not_below}
use Rattle.counting.proofs.histogram.changes.first_no_level.Goals as goal

pub returns-then-all_levels : goal.returns-then-all_levels
returns-then-all_levels c = prefix_len_is (λ p. ltb p c.args.levels) c.args.row.now _ 0 (omega arith)
    (λ k h. lt-ltb _ _ (c.all_levels.ensures c.if-all_levels.true k h)) (λ h. absurd (omega arith))

pub returns : goal.returns
returns c = first_not_below c.args.levels c.args.row.now c.position.result
    (IsFirst-from_position _ _ _ (λ p. c.args.levels ≤ p) (λ p. p < c.args.levels) c.position.ensures.ran (YieldsList-from_slice c.args.row.now cc) (λ x q k. search (rules, tests)) (λ x q k. search (rules, tests)))
