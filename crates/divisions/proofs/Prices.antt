-- The price of a run: it is what a pricer answers and nothing else is, no level shows the run at a lower tally,
-- two runs cost no more than the run that they make, and a run of one level costs nothing.
use Rattle.std.proofs.Common.{◌≡◌, ℕ, suc, ◌+◌, ◌-◌, ◌<◌, ◌≤◌, sym, refl, ap, ◌∙◌, inl, inr, arith}
use Rattle.std.proofs.lemmas.Bool.{cases_lt, cases_order}
use Rattle.counting.specs.Ledger.{Ledger, counted_levels}
use Rattle.pricing.specs.Tallies.{Ops, Laws, NotAbove}
use Rattle.pricing.specs.Errors.{Fair, Between}
use Rattle.pricing.specs.Prices.{InSpan, Priceless, PricedAt}
use Rattle.counting.specs.Sound.{Sound}
use Rattle.divisions.specs.Divisions.{level_at, run_tally, representative, price}
use Rattle.divisions.proofs.Order.{same_le, from_le, to_le, join_le, least_in, least_le, least_highest}
use Rattle.divisions.proofs.Places.{at, not_falling, few_pixels}
use Rattle.divisions.proofs.Costs.{spent, spent_split, costs_le, pixels_of, run_by_places}

-- two answers of a pricer to one question are the same
module _ {C : Type 0} (o : Ops C) (L : Laws o) (error : ℕ → ℕ → ℕ) (g : Ledger) where
  pub priced_once : (a b r q : ℕ) (t u : C) → PricedAt o error g a b r t → PricedAt o error g a b q u → (r ≡ q) × (t ≡ u)
  priced_once a b r q t u P Q =
      elim (cases_order r q) [
        | inl e ↦ (e, same)
        | inr e ↦ elim e [
          | inl l ↦ absurd (P.highest q Q.spans l (sym Q.tally ∙ sym same))
          | inr l ↦ absurd (Q.highest r P.spans l (sym P.tally ∙ same))
        ]
      ]
    where
      same : t ≡ u
      same = L.antisymmetric _ _ (to_le o L _ _ _ (sym Q.tally) (P.least q Q.spans)) (to_le o L _ _ _ (sym P.tally) (Q.least r P.spans))

-- what needs no law of the error
module _ {C : Type 0} (o : Ops C) (error : ℕ → ℕ → ℕ) (g : Ledger) (S : Sound g) where
  -- the representative lies from the run's first level to its last
  pub within : (i d : ℕ) → 0 < d → i + d ≤ counted_levels g → (level_at g i ≤ representative o error g i d) × (representative o error g i d ≤ level_at g (i + d - 1))
  unfolding representative
  within i d pos h =
      let w = least_in o (run_tally o error g i d) (level_at g i) (level_at g (i + d - 1) - level_at g i) in
      let l = not_falling g S i (i + d - 1) (omega arith) (omega arith) in
      omega arith

  pub representative_level : (i d : ℕ) → 0 < d → i + d ≤ counted_levels g → representative o error g i d < g.levels
  representative_level i d pos h = omega (arith, (within i d pos h).1, (at g S (i + d - 1) (omega arith)).level)

  pub representative_low : (i d : ℕ) → 0 < d → i + d ≤ counted_levels g → representative o error g i d < 1024
  representative_low i d pos h = omega (arith, (within i d pos h).1, (at g S (i + d - 1) (omega arith)).low)

  -- a run always has a price
  pub never_priceless : (i d : ℕ) → 0 < d → i + d ≤ counted_levels g → Priceless g (level_at g i) (level_at g (i + d - 1)) → ⊥
  never_priceless i d pos h p =
      let up = not_falling g S i (i + d - 1) (omega arith) (omega arith) in
      elim p [
        | inl b ↦ omega arith
        | inr q ↦ elim q [
          | inl b ↦ omega (arith, (at g S (i + d - 1) (omega arith)).level)
          | inr none ↦ none (level_at g i) (omega arith) up (at g S i (omega arith)).counted
        ]
      ]

module _ {C : Type 0} (o : Ops C) (L : Laws o) (error : ℕ → ℕ → ℕ) (g : Ledger) (S : Sound g) where
  pub price_inside : (i d r : ℕ) → 0 < d → i + d ≤ counted_levels g → level_at g i ≤ r → r ≤ level_at g (i + d - 1) → NotAbove o (price o error g i d) (run_tally o error g i d r)
  unfolding representative price
  price_inside i d r pos h a b = least_le o L (run_tally o error g i d) (level_at g i) (level_at g (i + d - 1) - level_at g i) r a (omega arith)

  in_span : (a b r : ℕ) → InSpan g a b r → (a ≤ r) × (r ≤ b)
  in_span a b r p = let u = p.0 in let v = p.1 in (omega (arith, u.1, u.2), omega (arith, v.1, v.2))

  -- the price is a pricer's answer
  pub price_priced : (i d : ℕ) → 0 < d → i + d ≤ counted_levels g → PricedAt o error g (level_at g i) (level_at g (i + d - 1)) (representative o error g i d) (price o error g i d)
  unfolding representative price
  price_priced i d pos h = record {
    within = (at g S (i + d - 1) (omega arith)).level;
    spans = (
      (level_at g i, omega arith, (within o error g S i d pos h).0, (at g S i (omega arith)).counted),
      (level_at g (i + d - 1), (within o error g S i d pos h).1, omega arith, (at g S (i + d - 1) (omega arith)).counted),
    );
    tally = refl;
    least = (λ q p. let w = in_span _ _ q p in price_inside i d q pos h w.0 w.1);
    highest = (λ q p l e.
        let w = in_span _ _ q p in
        omega (arith, least_highest o L (run_tally o error g i d) (level_at g i) (level_at g (i + d - 1) - level_at g i) q w.0 (omega arith) (from_le o L _ _ _ e (same_le o L _))));
  }

  -- and every answer is that one
  pub priced_is : (i d r : ℕ) (t : C) → 0 < d → i + d ≤ counted_levels g → PricedAt o error g (level_at g i) (level_at g (i + d - 1)) r t → (r ≡ representative o error g i d) × (t ≡ price o error g i d)
  priced_is i d r t pos h p = priced_once o L error g _ _ _ _ _ _ p (price_priced i d pos h)

  -- the price by places
  pub price_by_places : (i d : ℕ) → 0 < d → i + d ≤ counted_levels g → price o error g i d ≡ spent o (pixels_of g) (λ k. error (level_at g k) (representative o error g i d)) i d
  unfolding price
  price_by_places i d pos h = run_by_places o L g S (λ k. error k (representative o error g i d)) i d pos h

module _ {C : Type 0} (o : Ops C) (L : Laws o) (error : ℕ → ℕ → ℕ) (F : Fair error) (g : Ledger) (S : Sound g) where
  -- no level shows a run at a lower tally: one outside the run is no better than the run's end
  pub price_le : (i d r : ℕ) → 0 < d → i + d ≤ counted_levels g → r < 1024 → NotAbove o (price o error g i d) (run_tally o error g i d r)
  price_le i d r pos h small = elim (cases_lt r (level_at g i)) [ inl low ↦ below low | inr a ↦ elim (cases_lt (level_at g (i + d - 1)) r) [ inl high ↦ above high | inr b ↦ price_inside o L error g S i d r pos h a b ] ]
    where
      ordered : level_at g i ≤ level_at g (i + d - 1)
      ordered = not_falling g S i (i + d - 1) (omega arith) (omega arith)

      top : level_at g (i + d - 1) < 1024
      top = (at g S (i + d - 1) (omega arith)).low

      -- from a level of the run the end lies on the way to r
      closer : (s : ℕ) → ((k : ℕ) → level_at g i ≤ k → k ≤ level_at g (i + d - 1) → Between k s r) → level_at g i ≤ s → s ≤ level_at g (i + d - 1) → NotAbove o (price o error g i d) (run_tally o error g i d r)
      closer s between a b =
          L.transitive _ _ _ (price_inside o L error g S i d s pos h a b)
          (costs_le o L g S _ _ (level_at g i) (suc (level_at g (i + d - 1)) - level_at g i) (λ k x y.
          (F.away k r s (omega (arith, top)) small (between k x (omega arith)), F.fits k r (omega (arith, top)) small)))

      below : r < level_at g i → NotAbove o (price o error g i d) (run_tally o error g i d r)
      below low = closer (level_at g i) (λ k x y. inr (omega arith, x)) (omega arith) ordered

      above : level_at g (i + d - 1) < r → NotAbove o (price o error g i d) (run_tally o error g i d r)
      above high = closer (level_at g (i + d - 1)) (λ k x y. inl (y, omega arith)) ordered (omega arith)

  -- the same by places
  pub price_le_places : (i d r : ℕ) → 0 < d → i + d ≤ counted_levels g → r < 1024 → NotAbove o (price o error g i d) (spent o (pixels_of g) (λ k. error (level_at g k) r) i d)
  price_le_places i d r pos h small = to_le o L _ _ _ (run_by_places o L g S (λ k. error k r) i d pos h) (price_le i d r pos h small)

  -- two runs have no higher tally than the run that they make
  pub split_le : (i d e : ℕ) → 0 < d → 0 < e → i + (d + e) ≤ counted_levels g → NotAbove o (o.join (price o error g (i + d) e) (price o error g i d)) (price o error g i (d + e))
  split_le i d e pd pe h =
      let r = representative o error g i (d + e) in
      let small : r < 1024 = representative_low o error g S i (d + e) (omega arith) h in
      to_le o L _ _ _ (sym (price_by_places o L error g S i (d + e) (omega arith) h ∙ spent_split o L (pixels_of g) (λ k. error (level_at g k) r) i d e))
      (join_le o L _ _ _ _ (price_le_places (i + d) e r pe (omega arith) small) (price_le_places i d r pd (omega arith) small))

  -- a run of one level costs nothing
  pub single_free : (i : ℕ) → i < counted_levels g → price o error g i 1 ≡ o.neutral
  unfolding spent
  single_free i h =
      let here : i + 0 ≡ i = omega arith in
      let free : spent o (pixels_of g) (λ k. error (level_at g k) (level_at g i)) i 1 ≡ o.neutral =
      L.neutral_joins _
      ∙ ap (λ (k : ℕ). o.charge (pixels_of g k) (error (level_at g k) (level_at g i))) here
      ∙ ap (λ (e : ℕ). o.charge (pixels_of g i) e) (F.own (level_at g i) (at g S i h).low)
      ∙ L.no_error (pixels_of g i) (few_pixels g S (level_at g i)) in
      L.antisymmetric _ _ (to_le o L _ _ _ free (price_le_places i 1 (level_at g i) (omega arith) (omega arith) (at g S i h).low)) (L.neutral_lowest _)
