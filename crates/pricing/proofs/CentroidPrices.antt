-- The level nearest to the mean, with the sum of its squared errors, is the price of a range under Total.
use Rattle.std.proofs.Common.{◌≡◌, ℕ, suc, ◌+◌, ◌-◌, ◌*◌, ◌/◌, ◌^◌, ◌<◌, ◌≤◌, sym, ap, ◌∙◌, inr, arith}
use Rattle.std.proofs.lemmas.Bool.{le-leb}
use Rattle.counting.specs.Ledger.{Ledger, total_of}
use Rattle.pricing.specs.Kinds.{total_ops}
use Rattle.pricing.specs.Measures.{squared}
use Rattle.pricing.specs.Plain.{plain, pixel_sum, level_sum, square_sum, Added}
use Rattle.pricing.specs.Prices.{InSpan, Priceless, PricedAt, range_tally}
use Rattle.pricing.specs.declared.tallies.total.Total.{Total}
use Rattle.pricing.specs.KindLaws.{same_total}
use Rattle.pricing.specs.ErrorLaws.{squared_fair}
use Rattle.pricing.proofs.PlainSums.{costs_plain}
use Rattle.pricing.proofs.Centroids.{cost_is, none_counted, Nearest, nearest_is, higher, least, from_low, to_high}

module _ (g : Ledger) (a b p l s : ℕ) (ordered : a ≤ b) (A : Added g a (suc b - a) p l s) where
  -- no pixels, no price
  pub no_pixels_priceless : p ≡ 0 → Priceless g a b
  no_pixels_priceless z = inr (inr (λ k h m c. none_counted g a (suc b - a) k (sym A.counts ∙ z) h (omega arith) c))

  -- the cost of showing the range as r, from its sums
  pub cost_from : (c r : ℕ) → c + 2 * (r * l) ≡ s + p * (r * r) → c ≡ plain g (λ k. squared k r) a (suc b - a)
  cost_from c r e =
      let e2 : c + 2 * (r * level_sum g a (suc b - a)) ≡ square_sum g a (suc b - a) + pixel_sum g a (suc b - a) * (r * r) = rw (A.counts, A.adds, A.adds_squares) at e in
      omega (arith, e2, cost_is g a (suc b - a) r)

  -- what showing the range as a level of it costs
  costs_at : (q : ℕ) → total_of g < 2 ^ 32 → b < 1024 → q ≤ b → (range_tally total_ops squared g a b q).sum ≡ plain g (λ k. squared k q) a (suc b - a)
  costs_at q few w h = costs_plain g (λ k. squared k q) a (suc b - a) few (λ k f m. squared_fair.fits k q (omega arith) (omega arith))

  module _ (r : ℕ) (some : 0 < p) (is : r ≡ (2 * l + p) / (2 * p)) where
    nearest : Nearest (pixel_sum g a (suc b - a)) (level_sum g a (suc b - a)) r
    nearest =
        let N : Nearest p l r = rw is (nearest_is p l some) in
        rw (A.counts, A.adds) at N

    counted : 0 < pixel_sum g a (suc b - a)
    counted = omega (arith, A.counts)

    pub centroid_spans : InSpan g a b r
    centroid_spans =
        let low = from_low g a (suc b - a) r nearest counted in
        let high = to_high g a (suc b - a) r nearest counted in
        (low, (high.0, high.1, omega (arith, high.2), high.3))

    pub centroid_priced : (t : Total) → total_of g < 2 ^ 32 → b < g.levels → g.levels ≤ 1024 → t.sum + 2 * (r * l) ≡ s + p * (r * r) → PricedAt total_ops squared g a b r t
    centroid_priced t few w kept e =
        let span = centroid_spans in
        let sum_is_lem = cost_from t.sum r e in
        let small : b < 1024 = omega arith in
        record {
          within = w;
          spans = span;
          tally = same_total t _ (sum_is_lem ∙ sym (costs_at r few small (omega (arith, span.1.1, span.1.2))));
          least = (λ q Q. le-leb _ _ (omega (arith, sum_is_lem, costs_at q few small (omega (arith, Q.1.1, Q.1.2)), least g a (suc b - a) r nearest q)));
          highest = (λ q Q h same.
              omega (arith, sum_is_lem, ap (λ (x : Total). x.sum) same, costs_at q few small (omega (arith, Q.1.1, Q.1.2)), higher g a (suc b - a) r nearest q h));
        }
