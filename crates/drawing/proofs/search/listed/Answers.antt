-- One level more at each turn.
use Rattle.std.proofs.Common.{◌≡◌, ℕ, ◌+◌, List, [], ◌∷◌, ◌++◌, length, drop, sym, ap, ◌∙◌, arith}
use Rattle.std.specs.Iterator.Adapters.{zip_first, zip_second}
use Rattle.std.specs.Slice.Iter.{iter_rest}
use Rattle.counting.specs.Meaning.{ledger_of}
use Rattle.counting.proofs.Ledgers.{sound_histogram}
use Rattle.divisions.proofs.Places.{front}
use Rattle.drawing.proofs.Asked.{front_few, front_one, front_none, next_pixels}
use Rattle.drawing.proofs.search.listed.Goals as goal

pub push-requires : goal.push-requires
push-requires c =
    let g = ledger_of c.args.histogram.now in
    let S = sound_histogram c.args.histogram.now in
    let inv = c.loop-level.invariant in
    (omega arith, omega (arith, ap length inv.0, front_few g (zip_first c.loop-level.level-iterator).start, inv.2, c.in-Some.ensures.steps.0.1.0, S.range))

pub loop-level-preserved-then-pixels-gt0 : goal.loop-level-preserved-then-pixels-gt0
loop-level-preserved-then-pixels-gt0 c =
    let g = ledger_of c.args.histogram.now in
    let inv = c.loop-level.invariant in
    let range = c.in-Some.ensures.steps.0 in
    let level = c.in-Some.level in
    let from = (zip_first c.loop-level.level-iterator).start in
    let here = next_pixels g from c.in-Some.pixels.now (iter_rest (zip_second c.next.new.self)) (sym inv.3 ∙ c.in-Some.ensures.steps.1) in
    let level_is : level ≡ from = range.1.1 in
    let next : from + 1 ≡ (zip_first c.next.new.self).start = omega (arith, range.1.2) in (
      c.push.ensures.items ∙ ap (λ (xs : List ℕ). xs ++ level ∷ []) inv.0 ∙ ap (λ (l : ℕ). front g from ++ l ∷ []) level_is ∙ sym (front_one g from (omega (arith, here.0, c.if-pixels-gt0.true))) ∙ ap (front g) next,
      omega (arith, range.1.0, inv.2),
      range.0 ∙ inv.2,
      here.1 ∙ ap (λ (l : ℕ). drop l g.at) next,
    )

pub loop-level-preserved : goal.loop-level-preserved
loop-level-preserved c =
    let g = ledger_of c.args.histogram.now in
    let inv = c.loop-level.invariant in
    let range = c.in-Some.ensures.steps.0 in
    let from = (zip_first c.loop-level.level-iterator).start in
    let here = next_pixels g from c.in-Some.pixels.now (iter_rest (zip_second c.next.new.self)) (sym inv.3 ∙ c.in-Some.ensures.steps.1) in
    let next : from + 1 ≡ (zip_first c.next.new.self).start = omega (arith, range.1.2) in (
      inv.0 ∙ sym (front_none g from (omega (arith, here.0, c.if-pixels-gt0.false))) ∙ ap (front g) next,
      omega (arith, range.1.0, inv.2),
      range.0 ∙ inv.2,
      here.1 ∙ ap (λ (l : ℕ). drop l g.at) next,
    )
