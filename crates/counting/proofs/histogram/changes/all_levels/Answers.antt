use Rattle.std.proofs.Common.{rules, tests, ◌≡◌, ◌&&◌, true, ltb}
use Rattle.std.specs.List.{fold}
use Rattle.std.proofs.lemmas.Iterator.{YieldsList-from_slice}
use Rattle.std.proofs.lemmas.Iterator.Consumers.{fold_from_yields_List}
use Rattle.counting.proofs.Rows.{all_below_fold}
use Rattle.counting.proofs.histogram.changes.all_levels.Goals as goal

pub returns : goal.returns
returns c =
    let folded : c.fold.result ≡ fold (λ all p. all && ltb p c.args.levels) true c.args.row.now = fold_from_yields_List _ _ _ _ c.fold.ensures.ran (YieldsList-from_slice c.args.row.now cc) (λ a x r q k. search (rules, tests)) in
    rw folded (all_below_fold c.args.levels c.args.row.now)
