use Rattle.std.proofs.Common.{ltb, refl, rules, tests}
use Rattle.std.proofs.lemmas.Bool.Decides.{not_from_Decides}
use Rattle.std.proofs.lemmas.List.Sorted.{answers_always}
use Rattle.tables.proofs.Bins.{risen}
use Rattle.tables.proofs.table.LevelTable.of.Goals as goal

pub returns-then-not-is_sorted_by : goal.returns-then-not-is_sorted_by
returns-then-not-is_sorted_by c law =
    let bounds = c.args.bounds.now in
    let rise = risen (λ bound. bound) 0 bounds bounds refl (λ _ _. refl) _ (c.is_sorted_by.ensures.cases ltb (answers_always _ _ _ (λ f a r q k. search (rules, tests)))) in
    not_from_Decides _ rise c.if-not-is_sorted_by.true law.rising
