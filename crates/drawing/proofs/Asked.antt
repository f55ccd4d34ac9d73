-- The counted levels as they are listed, and what a pricer answers for a run of them: never nothing, and nothing but the run's
-- representative and price.
use Rattle.std.proofs.Common.{◌≡◌, ℕ, suc, ◌+◌, ◌-◌, ◌<◌, ◌≤◌, ltb, List, [], ◌∷◌, ◌++◌, length, get_or, get_or-drop, drop, drop-drop, Some, None, Option, IsSome, refl, sym, ap, ◌∙◌, subst, subst₂, arith}
use Rattle.std.proofs.lemmas.List.{append-nil}
use Rattle.std.proofs.lemmas.Bool.{cond-true, cond-false, lt-ltb, le-ltb}
use Rattle.std.specs.List.{range_with_len}
use Rattle.std.proofs.lemmas.List.Sums.{length-filter, count_by-le-length}
use Rattle.std.proofs.lemmas.List.FromFn.{length-range_with_len}
use Rattle.counting.specs.Ledger.{Ledger, counted_levels, pixels_at}
use Rattle.counting.specs.Sound.{Sound}
use Rattle.pricing.specs.Tallies.{Ops, Laws}
use Rattle.pricing.specs.Errors.{SameErrors}
use Rattle.pricing.specs.Prices.{Priceless, PricedAt, Priced}
use Rattle.divisions.specs.Divisions.{levels_of, level_at, representative, price}
use Rattle.divisions.proofs.Places.{rank, front, front_more, rank_all}
use Rattle.divisions.proofs.Prices.{never_priceless, priced_is}
use Rattle.divisions.proofs.Same.{price_same}

module _ (g : Ledger) where
  -- no more levels are listed than have been looked at
  pub front_few : (level : ℕ) → length (front g level) ≤ level
  front_few level = let e = length-filter (λ k. ltb 0 (pixels_at g k)) (range_with_len 0 level) in
      omega (arith, count_by-le-length (λ k. ltb 0 (pixels_at g k)) (range_with_len 0 level), length-range_with_len 0 level)

  -- one level more has been looked at
  pub front_one : (level : ℕ) → 0 < pixels_at g level → front g (level + 1) ≡ front g level ++ level ∷ []
  front_one level some =
      let e : level + 1 ≡ suc level = omega arith in
      ap (front g) e ∙ front_more g level ∙ ap (λ (xs : List ℕ). front g level ++ xs) (cond-true _ (level ∷ []) [] (lt-ltb 0 (pixels_at g level) some))

  pub front_none : (level : ℕ) → pixels_at g level ≤ 0 → front g (level + 1) ≡ front g level
  front_none level none =
      let e : level + 1 ≡ suc level = omega arith in
      ap (front g) e ∙ front_more g level ∙ ap (λ (xs : List ℕ). front g level ++ xs) (cond-false _ (level ∷ []) [] (le-ltb 0 (pixels_at g level) none)) ∙ append-nil (front g level)

  -- the pixels of a level, and those of the levels above it, where the pixels from that level on are left
  pub next_pixels : (level pixels : ℕ) (rest : List ℕ) → drop level g.at ≡ pixels ∷ rest → (pixels ≡ pixels_at g level) × (rest ≡ drop (level + 1) g.at)
  next_pixels level pixels rest e =
      let none : level + 0 ≡ level = omega arith in
      let one : level + 1 ≡ 1 + level = omega arith in (
        ap (λ (xs : List ℕ). get_or xs 0 0) (sym e) ∙ get_or-drop level g.at 0 0 ∙ ap (λ (n : ℕ). get_or g.at n 0) none,
        ap (λ (xs : List ℕ). drop 1 xs) (sym e) ∙ drop-drop 1 level g.at,
      )

  pub number_listed : Sound g → (levels : List ℕ) → levels ≡ levels_of g → length levels ≡ counted_levels g
  unfolding rank
  number_listed S levels listed = ap length listed ∙ rank_all g S

  pub level_listed : (levels : List ℕ) → levels ≡ levels_of g → (place : ℕ) → get_or levels place 0 ≡ level_at g place
  unfolding level_at
  level_listed levels listed place = ap (λ (xs : List ℕ). get_or xs place 0) listed

module _ {C : Type 0} (o : Ops C) (L : Laws o) (error : ℕ → ℕ → ℕ) (g : Ledger) (S : Sound g) (start end : ℕ) (order : start ≤ end) (inside : end < counted_levels g)
    (low high : ℕ) (low_is : low ≡ level_at g start) (high_is : high ≡ level_at g end) where
  last : high ≡ level_at g (start + (end + 1 - start) - 1)
  last = high_is ∙ ap (level_at g) (omega arith)

  pub always_priced : (answer : Option (ℕ × C)) → Priced o error g low high answer → IsSome answer
  always_priced None none = absurd (never_priceless o error g S start (end + 1 - start) (omega arith) (omega arith) (subst₂ (λ (a b : ℕ). Priceless g a b) low_is last none))
  always_priced (Some answer) priced = refl

  pub answer_is : (answer : Option (ℕ × C)) → Priced o error g low high answer → (given : ℕ × C) → answer ≡ Some given →
      (given.0 ≡ representative o error g start (end + 1 - start)) × (given.1 ≡ price o error g start (end + 1 - start))
  answer_is answer priced given e =
      let here : PricedAt o error g low high given.0 given.1 = subst (Priced o error g low high) e priced in
      priced_is o L error g S start (end + 1 - start) given.0 given.1 (omega arith) (omega arith) (subst₂ (λ (a b : ℕ). PricedAt o error g a b given.0 given.1) low_is last here)

-- the price of a run by errors that agree
pub price_agrees : {C : Type 0} (o : Ops C) (asked then error : ℕ → ℕ → ℕ) → SameErrors asked then → SameErrors then error → (g : Ledger) → Sound g → (start end : ℕ) → start ≤ end → end < counted_levels g →
    (paid : C) → paid ≡ price o asked g start (end + 1 - start) → paid ≡ price o error g start (end + 1 - start)
price_agrees o asked then error kept same g S start end order inside paid is =
    is ∙ price_same o asked error (λ k r a b. kept k r a b ∙ same k r a b) g S start (end + 1 - start) (omega arith) (omega arith)
