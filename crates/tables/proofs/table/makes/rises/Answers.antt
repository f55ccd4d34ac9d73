use Rattle.std.proofs.Common.{ltb, rules, tests}
use Rattle.std.proofs.lemmas.List.{length-map}
use Rattle.std.proofs.lemmas.List.Sorted.{answers_always}
use Rattle.tables.specs.Bins.{bounds_in}
use Rattle.tables.proofs.Bins.{no_bin, bound_at, risen}
use Rattle.tables.proofs.table.makes.rises.Goals as goal

pub returns : goal.returns
returns c =
    let bins = c.args.bins.now in
    risen (λ bin. bin.bound) no_bin bins (bounds_in bins) (length-map bins (λ bin. bin.bound)) (bound_at bins) _
    (c.is_sorted_by.ensures.cases (λ low high. ltb low.bound high.bound) (answers_always _ _ _ (λ f a r q k. search (rules, tests))))
