-- Nothing is owed before the first end, and each end adds its cells.
use Rattle.std.proofs.Common.{◌≡◌, ℕ, ◌+◌, refl, ◌∙◌, subst, arith}
use Rattle.divisions.specs.Divisions.{price}
use Rattle.drawing.specs.Filling.{ledger, counted, SearchedTo}
use Rattle.drawing.proofs.Placed.{nothing_searched}
use Rattle.drawing.proofs.search.Search.fill.Goals as goal

pub loop-end-init : goal.loop-end-init
loop-end-init g c =
    let o = g.P.Kind.Tally.ops in
    let s = c.args.self.now in
    ((λ k r a b. refl), nothing_searched o (price o (g.P.Measure.error c.args.pricer.now) (ledger s)) (counted s) s.bins c.args.cells.now.tallies.now c.args.cells.now.links.now c.requires.0 c.requires.1)

pub loop-end-preserved : goal.loop-end-preserved
loop-end-preserved g c =
    let o = g.P.Kind.Tally.ops in
    let s = c.args.self.now in
    let error = g.P.Measure.error c.args.pricer.now in
    let inv = c.loop-end.invariant in
    let two : c.loop-end.end + 2 ≡ c.loop-end.end + 1 + 1 = omega arith in (
      (λ k r a b. c.fill_end.ensures.same k r a b ∙ inv.0 k r a b),
      subst (λ (x : ℕ). SearchedTo o (price o error (ledger s)) s x x c.fill_end.new.cells) two (c.fill_end.ensures.after error inv.0 inv.1),
    )
