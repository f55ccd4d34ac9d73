-- One bin number more at each turn.
use Rattle.std.proofs.Common.{◌≡◌, ◌+◌, ◌-◌, ◌*◌, ◌<◌, length, ap, ◌∙◌, arith, rules}
use Rattle.std.proofs.lemmas.List.{get_or_read}
use Rattle.drawing.specs.Filling.{counted}
use Rattle.drawing.proofs.Placed.{row_inside}
use Rattle.drawing.proofs.Turns.{turned_none, turned_put, turned_kept}
use Rattle.drawing.proofs.search.run.Run.put_after.Goals as goal
use Rattle.drawing.proofs.search.run.Run.put_after.Goals.{then-not-keeps, else-not-keeps}

pub loop-k-init : goal.loop-k-init
loop-k-init g c =
    let s = c.args.self.now.search.now in
    let cells = c.args.cells.now in
    let inside = row_inside (counted s) s.bins c.args.self.now.start c.args.self.now.end c.args.numbers.start c.args.numbers.end (length cells.tallies.now) (length cells.links.now)
    c.args.self.now.order c.args.self.now.inside c.requires.later c.requires.numbers.0 c.requires.numbers.1 c.requires.numbers.2 c.requires.room.0 c.requires.room.1 in
    (inside.0, inside.1, inside.2, λ keep answers. turned_none g.T.Tally.ops keep c.args.price c.args.self.now.start _ _ cells.tallies.now cells.links.now)

pub loop-k-preserved : goal.loop-k-preserved
loop-k-preserved g c =
    let o = g.T.Tally.ops in
    let s = c.args.self.now.search.now in
    let row = c.args.self.now.end * s.bins + c.args.numbers.start in
    let before = (c.args.self.now.start - 1) * s.bins + (c.args.numbers.start - 1) in
    let ts = c.loop-k.tallies in
    let inv = c.loop-k.invariant in
    let long : length c.loop-k.tallies ≡ length c.args.cells.now.tallies.now = omega arith in
    let link_long : length c.loop-k.links ≡ length c.args.cells.now.links.now = omega arith in
    let own : row + c.loop-k.k < length ts = omega (arith, inv.0) in
    let below : before + c.loop-k.k < length ts = omega (arith, inv.0, inv.2) in
    let had_is = get_or_read ts (row + c.loop-k.k) c.index-tallies-row.result own c.index-tallies-row.is o.neutral in
    let joined_is = c.join-joined.ensures ∙ ap (o.join c.args.price) (get_or_read ts (before + c.loop-k.k) c.index-tallies-before.result below c.index-tallies-before.is o.neutral) in (
      omega (arith, inv.0),
      omega (arith, inv.1),
      inv.2,
      λ keep answers.
          let turned = inv.3 keep answers in
          let kept_is = answers _ _ _ c.keeps.ensures ∙ ap (λ (had : _). keep had c.join-joined.result) had_is in
          elim c.if-not-keeps.branch [
            | then-not-keeps w ↦ turned_put o keep c.args.price c.args.self.now.start row before c.loop-k.k c.args.cells.now.tallies.now ts _ c.args.cells.now.links.now c.loop-k.links _ c.join-joined.result c.keeps.result
                (omega (arith, inv.0)) (omega (arith, inv.1)) (omega (arith, inv.2)) joined_is kept_is turned w.if-not-keeps.true w.tallies-is w.links-is
            | else-not-keeps w ↦ turned_kept o keep c.args.price c.args.self.now.start row before c.loop-k.k c.args.cells.now.tallies.now ts _ c.args.cells.now.links.now c.loop-k.links _ c.join-joined.result c.keeps.result
                (omega (arith, inv.0)) (omega (arith, inv.1)) (omega (arith, inv.2)) joined_is kept_is turned w.if-not-keeps.false w.tallies-is w.links-is
          ],
    )

pub offset_bounds-tallies-row-then-not-keeps : goal.offset_bounds-tallies-row-then-not-keeps
offset_bounds-tallies-row-then-not-keeps g c =
    let inside : c.args.self.now.end * c.args.self.now.search.now.bins + c.args.numbers.start + c.loop-k.k < length c.loop-k.tallies = omega (arith, c.loop-k.invariant.0) in
    search rules

pub returns : goal.returns
returns g c = λ keep answers. let all : c.loop-k.k ≡ c.args.numbers.end - c.args.numbers.start = omega arith in rw (← all) (c.loop-k.invariant.3 keep answers)
