-- Errors that agree at every level give the same representatives, prices, tallies, best divisions and tables.
use Rattle.std.proofs.Common.{◌≡◌, ℕ, ◌+◌, ◌-◌, ◌<◌, ◌≤◌, List, [], ◌∷◌, ◌++◌, refl, ap, ◌∙◌, ap₂, arith}
use Rattle.counting.specs.Ledger.{Ledger, counted_levels}
use Rattle.pricing.specs.Tallies.{Ops}
use Rattle.pricing.specs.Errors.{SameErrors}
use Rattle.pricing.specs.Prices.{Counted, range_tally, map_tally, InSpan, PricedAt}
use Rattle.counting.specs.Sound.{Sound}
use Rattle.divisions.specs.Divisions.{level_at, run_tally, representative, price, Divides, divided, BestOf}
use Rattle.divisions.specs.Tables.{bins_below, table_to}
use Rattle.divisions.proofs.Order.{least_ext}
use Rattle.divisions.proofs.Divisions.{divided_same, best_same}
use Rattle.divisions.proofs.Places.{at}
use Rattle.divisions.proofs.Costs.{costs_ext}
use Rattle.divisions.proofs.Prices.{representative_low}

module _ {C : Type 0} (o : Ops C) (e e' : ℕ → ℕ → ℕ) (same : SameErrors e e') (g : Ledger) (S : Sound g) where
  pub range_tally_same : (a b r : ℕ) → b < g.levels → r < 1024 → range_tally o e g a b r ≡ range_tally o e' g a b r
  range_tally_same a b r h low = costs_ext o g _ _ a _ (λ k x y _. same k r (omega (arith, S.range.1)) low)

  -- what a pricer answers
  pub priced_at_same : (a b r : ℕ) (t : C) → PricedAt o e g a b r t → PricedAt o e' g a b r t
  priced_at_same a b r t P = record {
    within = P.within;
    spans = P.spans;
    tally = P.tally ∙ range_tally_same a b r P.within (low r P.spans);
    least = (λ q s. let f = range_tally_same a b q P.within (low q s) in rw (← f) (P.least q s));
    highest = (λ q s l f. P.highest q s l (range_tally_same a b q P.within (low q s) ∙ f));
  }
    where
      low : (q : ℕ) → InSpan g a b q → q < 1024
      low q s = omega (arith, s.1.1, s.1.2, P.within, S.range.1)

  pub run_tally_same : (i d r : ℕ) → 0 < d → i + d ≤ counted_levels g → r < 1024 → run_tally o e g i d r ≡ run_tally o e' g i d r
  run_tally_same i d r pos h low =
      let b = (at g S (i + d - 1) (omega arith)).low in
      costs_ext o g _ _ (level_at g i) _ (λ k x y _. same k r (omega arith) low)

  pub representative_same : (i d : ℕ) → 0 < d → i + d ≤ counted_levels g → representative o e g i d ≡ representative o e' g i d
  unfolding representative
  representative_same i d pos h =
      let a = (at g S i (omega arith)).low in
      let b = (at g S (i + d - 1) (omega arith)).low in
      least_ext o (run_tally o e g i d) (run_tally o e' g i d) (level_at g i) (level_at g (i + d - 1) - level_at g i) (λ k x y. run_tally_same i d k pos h (omega arith))

  pub price_same : (i d : ℕ) → 0 < d → i + d ≤ counted_levels g → price o e g i d ≡ price o e' g i d
  unfolding price
  price_same i d pos h =
      run_tally_same i d (representative o e g i d) pos h (representative_low o e g S i d pos h)
      ∙ ap (run_tally o e' g i d) (representative_same i d pos h)

  pub tally_same : (ks : List ℕ) (n : ℕ) → n ≤ counted_levels g → Divides ks n → divided o (price o e g) ks n ≡ divided o (price o e' g) ks n
  tally_same ks n h v = divided_same o (price o e g) (price o e' g) ks n (λ i d a b. price_same i d a (omega arith)) v

  pub best_of_same : (most : ℕ) (runs : List ℕ) → BestOf o e g most runs → BestOf o e' g most runs
  best_of_same most runs B = record {
    number = B.number;
    best = best_same o (price o e g) (price o e' g) runs (counted_levels g) price_same B.best;
  }

  bins_same : (ks : List ℕ) (n : ℕ) → n ≤ counted_levels g → Divides ks n → bins_below o e g ks n ≡ bins_below o e' g ks n
  unfolding bins_below
  bins_same [] n h v = refl
  bins_same (k ∷ ks) n h v =
      ap₂ (λ (xs : List (ℕ × ℕ)) (r : ℕ). xs ++ (level_at g (n - 1), r) ∷ []) (bins_same ks (n - k) (omega arith) v.2) (representative_same (n - k) k v.0 (omega arith))

  pub table_same : (ks : List ℕ) (n : ℕ) → n ≤ counted_levels g → Divides ks n → table_to o e g ks n ≡ table_to o e' g ks n
  unfolding table_to
  table_same [] n h v = refl
  table_same (k ∷ ks) n h v =
      ap₂ (λ (xs : List (ℕ × ℕ)) (r : ℕ). xs ++ (g.levels - 1, r) ∷ []) (bins_same ks (n - k) (omega arith) v.2) (representative_same (n - k) k v.0 (omega arith))

  pub map_tally_same : (f : ℕ → ℕ) → ((l : ℕ) → l < g.levels → Counted g l → f l < 1024) → map_tally o e g f ≡ map_tally o e' g f
  map_tally_same f low = costs_ext o g _ _ 0 g.levels (λ k x y c. same k (f k) (omega (arith, S.range.1)) (low k (omega arith) c))
