-- The last cell lies within the lists and has the least tally of all counted levels.
use Rattle.std.proofs.Common.{◌≡◌, ℕ, ◌-◌, ◌*◌, ◌<◌, length, get_or, sym, ap, ◌∙◌, arith}
use Rattle.std.proofs.lemmas.List.{get_or_read}
use Rattle.drawing.specs.Filling.{counted}
use Rattle.drawing.proofs.Placed.{row_below, last_tally}
use Rattle.drawing.proofs.search.Search.tally.Goals as goal

pub returns : goal.returns
returns g c = λ cost filled.
    let o = g.T.Tally.ops in
    let s = c.args.self.now in
    let cells = c.args.cells.now in
    let at = c.counted.result * s.bins - 1 in
    let index : at ≡ counted s * s.bins - 1 = ap (λ (n : ℕ). n * s.bins - 1) c.counted.ensures.is in
    let inside : at < length cells.tallies.now = (let r = row_below 0 (counted s) s.bins 0 (omega (arith, s.some, s.few)) s.some in omega (arith, index, filled.room)) in
    sym c.index-cells-counted.is ∙ get_or_read cells.tallies.now at c.index-cells-counted.result inside c.index-cells-counted.is o.neutral
    ∙ ap (λ (i : ℕ). get_or cells.tallies.now i o.neutral) index ∙ last_tally o cost (counted s) s.bins cells.tallies.now cells.links.now s.some s.few filled
