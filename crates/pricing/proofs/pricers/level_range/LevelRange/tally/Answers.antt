-- Each counted level joins its charge, and one that is not counted adds nothing.
use Rattle.std.proofs.Common.{◌≡◌, suc, ◌+◌, ◌-◌, sym, refl, ap, ◌∙◌, arith}
use Rattle.counting.specs.Meaning.{ledger_of}
use Rattle.pricing.proofs.Costs.{costs_none, costs_counted, costs_uncounted, asked_is}
use Rattle.pricing.proofs.pricers.level_range.LevelRange.tally.Goals as goal
use Rattle.pricing.proofs.pricers.level_range.LevelRange.tally.Goals.{then-pixels-gt0, else-pixels-gt0}

pub loop-place-init : goal.loop-place-init
loop-place-init g c = (c.neutral-tally.ensures ∙ sym (costs_none _ _ _ _), λ k r _ _. refl)

pub loop-place-preserved : goal.loop-place-preserved
loop-place-preserved g c =
    let o = g.T.Tally.ops in
    let ledger = ledger_of c.args.self.now.histogram.now in
    let error = g.M.Measure.error c.args.measure.now in
    let before = g.M.Measure.error c.loop-place.measure in
    let first = c.args.self.now.first in
    let place = c.loop-place.place in
    let pixels = c.pixels-pixels-items.ensures.each place c.loop-place-test.true in
    elim c.if-pixels-gt0.branch [
      | then-pixels-gt0 w ↦ (
        w.tally-is ∙ costs_counted o ledger (λ k. error k c.args.r) first place _ w.error.result w.charge.result c.loop-place.tally w.join-tally.result
            pixels w.if-pixels-gt0.true
            (asked_is before error (first + place) c.args.r w.error.result c.loop-place.invariant.1 (omega arith) (omega arith) w.error.ensures.value)
            w.charge.ensures c.loop-place.invariant.0 w.join-tally.ensures,
        λ j r a b. ap (λ m. g.M.Measure.error m j r) w.measure-is ∙ w.error.ensures.same j r a b ∙ c.loop-place.invariant.1 j r a b,
      )
      | else-pixels-gt0 w ↦ (
        w.tally-is ∙ costs_uncounted o g.met.T.Tally.laws ledger (λ k. error k c.args.r) first place _ c.loop-place.tally
            pixels w.if-pixels-gt0.false c.loop-place.invariant.0,
        λ j r a b. ap (λ m. g.M.Measure.error m j r) w.measure-is ∙ c.loop-place.invariant.1 j r a b,
      )
    ]

pub returns-clause-tally : goal.returns-clause-tally
returns-clause-tally g c = let all : c.loop-place.place ≡ suc c.args.self.now.last - c.args.self.now.first = omega arith in rw all at c.loop-place.invariant.0
