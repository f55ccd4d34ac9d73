-- Plain sums over a range: one level more, their bounds, and that a Total is one.
use Rattle.std.proofs.Common.{◌≡◌, ℕ, zero, suc, ◌+◌, ◌*◌, ◌^◌, ◌<◌, ◌≤◌, min, ltb, List, get_or, take, sum, sym, refl, ap, ◌∙◌, mul-le-mul_left, zero-mul, add-one, arith}
use Rattle.std.proofs.lemmas.Grind.{common_steps}
use Rattle.std.proofs.lemmas.List.Sums.{sum_by-take-le}
use Rattle.std.proofs.lemmas.Bool.{cond_both, ltb-false}
use Rattle.counting.specs.Ledger.{Ledger, pixels_at, total_of}
use Rattle.pricing.specs.Kinds.{held, total_ops}
use Rattle.pricing.specs.Plain.{plain, pixel_sum}
use Rattle.pricing.specs.Prices.{charged, costs}
use Rattle.pricing.specs.declared.tallies.total.Total.{Total}

-- one level more
pub plain_next : (g : Ledger) (e : ℕ → ℕ) (a d : ℕ) → plain g e a (d + 1) ≡ plain g e a d + pixels_at g (a + d) * e (a + d)
unfolding plain
plain_next g e a d = rw add-one (omega arith)

-- the pixels of a range are among all pixels
front_more : (xs : List ℕ) (i : ℕ) → sum (take (i + 1) xs) ≡ sum (take i xs) + get_or xs i 0
front_more xs i = grind (arith, common_steps)

pixels_front : (g : Ledger) (a d : ℕ) → pixel_sum g a d ≤ sum (take (a + d) g.at)
unfolding plain
pixels_front g a zero = omega arith
pixels_front g a (suc d) =
    let more = front_more g.at (a + d) in
    let here : a + d + 1 ≡ a + suc d = omega arith in
    let ih = pixels_front g a d in
    let one : sum (take (a + suc d) g.at) ≡ sum (take (a + d) g.at) + get_or g.at (a + d) 0 = ap (λ (k : ℕ). sum (take k g.at)) (sym here) ∙ more in
    omega arith

pub pixels_within : (g : Ledger) (a d : ℕ) → pixel_sum g a d ≤ total_of g
pixels_within g a d = omega (arith, pixels_front g a d, sum_by-take-le (λ x. x) g.at (a + d))

-- a sum is at most the pixels times the largest number
pub plain_le : (g : Ledger) (e : ℕ → ℕ) (a d m : ℕ) → ((k : ℕ) → a ≤ k → k < a + d → e k ≤ m) → plain g e a d ≤ m * pixel_sum g a d
unfolding plain
plain_le g e a zero m h = omega arith
plain_le g e a (suc d) m h =
    omega (arith, plain_le g e a d m (λ k f l. h k f (omega arith)), mul-le-mul_left (pixels_at g (a + d)) (h (a + d) (omega arith) (omega arith)))

-- what the pixels at a level cost, counted or not
charged_is : (n e : ℕ) → charged total_ops n e ≡ held (n * e)
charged_is n e = cond_both (ltb 0 n) (held (n * e)) (held 0) (λ t. t ≡ held (n * e)) (λ _. refl)
    (λ f. let z : n ≡ 0 = omega (arith, ltb-false 0 n f) in ap held (sym (ap (λ (m : ℕ). m * e) z ∙ zero-mul e)))

-- a Total is the plain sum, where the pixels and the errors are below 2 ^ 32
pub costs_plain : (g : Ledger) (e : ℕ → ℕ) (a d : ℕ) → total_of g < 2 ^ 32 → ((k : ℕ) → a ≤ k → k < a + d → e k < 2 ^ 32) → (costs total_ops g e a d).sum ≡ plain g e a d
unfolding costs plain
costs_plain g e a zero few low = refl
costs_plain g e a (suc d) few low =
    let ih = costs_plain g e a d few (λ k f h. low k f (omega arith)) in
    let here : (charged total_ops (pixels_at g (a + d)) (e (a + d))).sum ≡ min (pixels_at g (a + d) * e (a + d)) 18446744073709551615 =
    ap (λ (t : Total). t.sum) (charged_is (pixels_at g (a + d)) (e (a + d))) in
    let most : plain g e a (suc d) ≤ 4294967295 * pixel_sum g a (suc d) = plain_le g e a (suc d) 4294967295 (λ k f h. omega (arith, low k f h)) in
    let all : pixel_sum g a (suc d) ≤ 4294967295 = omega (arith, pixels_within g a (suc d)) in
    let whole : pixels_at g (a + d) * e (a + d) + plain g e a d ≤ 18446744065119617025 = omega (arith, most, all) in
    omega arith
