use Rattle.std.proofs.Common.{◌≡◌, true, ltb, length, sym, ◌∙◌, arith, rules, tests}
use Rattle.std.proofs.lemmas.Bool.{ltb-true, lt-ltb}
use Rattle.std.proofs.lemmas.Iterator.{YieldsList-from_slice}
use Rattle.std.proofs.lemmas.Iterator.Search.{all_from_yields_List}
use Rattle.std.proofs.lemmas.List.{length-map}
use Rattle.std.proofs.lemmas.List.Elements.{All-from_get_or}
use Rattle.std.proofs.lemmas.List.Sums.{AllPass-from_list_all, list_all-from_AllPass}
use Rattle.tables.specs.Bins.{representatives_in}
use Rattle.tables.proofs.Bins.{no_bin, representative_at}
use Rattle.tables.proofs.table.makes.shown_below.Goals as goal

pub returns : goal.returns
returns c =
    let bins = c.args.bins.now in
    let limit = c.args.limit in
    let long : length (representatives_in bins) ≡ length bins = length-map bins (λ bin. bin.representative) in
    let all = all_from_yields_List (λ bin. ltb bin.representative limit) _ _ _ c.all.ensures.ran (YieldsList-from_slice bins cc) (λ x b q k. search (rules, tests)) in (
      λ yes i h. (
          let below = ltb-true _ _ (AllPass-from_list_all (λ bin. ltb bin.representative limit) bins (sym all ∙ yes) i no_bin (omega arith)) in
          omega (arith, representative_at bins i (omega arith))),
      λ each. all ∙ list_all-from_AllPass (λ bin. ltb bin.representative limit) bins
          (All-from_get_or (λ bin. ltb bin.representative limit ≡ true) bins no_bin (λ i h. lt-ltb _ _ (let below = each i (omega arith) in omega (arith, representative_at bins i h)))),
    )
