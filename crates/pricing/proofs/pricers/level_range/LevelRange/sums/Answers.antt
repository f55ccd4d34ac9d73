-- One level more is added to each sum, and the sums fit 64 bits.
use Rattle.std.proofs.Common.{◌≡◌, suc, ◌+◌, ◌-◌, ◌*◌, ◌≤◌, ◌∙◌, arith}
use Rattle.pricing.proofs.AddedUp.{added_none, added_more, added_small, added_apart, products}
use Rattle.pricing.proofs.pricers.level_range.LevelRange.sums.Goals as goal

pub loop-place-init : goal.loop-place-init
loop-place-init c = added_none _ _

pub loop-place-preserved : goal.loop-place-preserved
loop-place-preserved c =
    added_more _ _ _ _ _ _ _ _ _ (c.from-count.ensures ∙ c.pixels-count-items.ensures.each _ c.loop-place-test.true) (omega arith) (cc) c.loop-place.invariant

pub overflow_add-pixels : goal.overflow_add-pixels
overflow_add-pixels c =
    let small = added_small c.args.self.now.histogram.now _ _ _ _ _ (omega arith) c.loop-place.invariant in
    omega (arith, small.few, c.type_inv.count-items c.loop-place.place)

pub overflow_mul-levels : goal.overflow_mul-levels
overflow_mul-levels c =
    omega (arith, (products c.from-count.result c.from-in-loop-place.result (omega (arith, c.type_inv.count-items c.loop-place.place)) (omega arith)).0)

pub overflow_add-levels : goal.overflow_add-levels
overflow_add-levels c =
    let small = added_small c.args.self.now.histogram.now _ _ _ _ _ (omega arith) c.loop-place.invariant in
    omega (arith, small.few, small.low, (products c.from-count.result c.from-in-loop-place.result (omega (arith, c.type_inv.count-items c.loop-place.place)) (omega arith)).0)

pub overflow_mul-level : goal.overflow_mul-level
overflow_mul-level c = omega (arith, (products 0 (c.from.result + c.loop-place.place) (omega arith) (omega arith)).1)

pub overflow_add-squares : goal.overflow_add-squares
overflow_add-squares c =
    let small = added_small c.args.self.now.histogram.now _ _ _ _ _ (omega arith) c.loop-place.invariant in
    let level = c.from.result + c.loop-place.place in
    let square = (products c.from-count.result level (omega (arith, c.type_inv.count-items c.loop-place.place)) (omega arith)).2 in
    let squares : c.from-count.result * c.from-in-loop-place-2.result ≤ 4494807828269055 = rw c.from-in-loop-place-2.ensures square in
    omega (arith, small.few, small.low_squares, squares)

pub invariant_of-result : goal.invariant_of-result
invariant_of-result c = record {
  small = added_small c.args.self.now.histogram.now _ _ _ _ _ (omega arith) c.loop-place.invariant;
  apart = added_apart _ _ _ _ _ _ c.loop-place.invariant;
}

pub returns : goal.returns
returns c = let all : c.loop-place.place ≡ suc c.args.self.now.last - c.args.self.now.first = omega arith in rw all at c.loop-place.invariant
