use Rattle.std.proofs.Common.{◌≡◌, ℕ, ◌+◌, ◌-◌, ◌<◌, length, get_or, drop, replicate, ap, sym, ◌∙◌, arith, rules, length-drop}
use Rattle.std.proofs.lemmas.List.{length-map, length-take-le}
use Rattle.tables.specs.Bins.{bounds_in}
use Rattle.tables.proofs.Bins.{bound_at, next_bin}
use Rattle.tables.proofs.table.makes.bins_of_levels.Goals as goal

pub loop-index-preserved : goal.loop-index-preserved
loop-index-preserved c =
    let bins = c.args.bins.now in
    let binning = c.loop-index.invariant in
    let index = c.loop-index.index in
    let bound = c.from-next.result in
    let inside : index < length (bounds_in bins) = omega (arith, length-map bins (λ bin. bin.bound)) in
    let here : bound ≡ get_or (bounds_in bins) index 0 = c.from-next.ensures ∙ sym (bound_at bins index (omega arith)) in
    let within : bound < 1024 = omega (arith, here, c.requires.levels index inside) in
    let room = length-take-le (bound + 1 - c.loop-index.first) (drop c.loop-index.first c.loop-index.of_level) (omega (arith, length-drop c.loop-index.first c.loop-index.of_level, binning.wide)) in
    let filled = c.fill.ensures.after (λ y h. search rules) ∙ ap (λ (n : ℕ). replicate n index) room in
    next_bin (bounds_in bins) c.loop-index.of_level c.fill.new.self index c.loop-index.first bound binning inside here within c.requires.rising filled
