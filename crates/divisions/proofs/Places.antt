-- The counted levels of a ledger by their places: each place has a counted level, each counted level a place, in rising order.
use Rattle.std.proofs.Common.{◌≡◌, ℕ, zero, suc, ◌+◌, ◌-◌, ◌^◌, ◌<◌, ◌≤◌, Bool, true, false, cond, ltb, List, [], ◌∷◌, ◌++◌, map, length, get_or, filter, sym, refl, ap, ◌∙◌, inl, inr, arith, length-append}
use Rattle.std.specs.List.{range_with_len}
use Rattle.std.proofs.lemmas.List.FromFn.{fill_by_all}
use Rattle.std.proofs.lemmas.List.Elements.{filter-append}
use Rattle.std.proofs.lemmas.List.{get_or_at, get_or_past}
use Rattle.std.proofs.lemmas.List.Sums.{get_or-le-sum_by, length-filter}
use Rattle.std.proofs.lemmas.Bool.{cases_eq, cases_lt, cases_Bool, cond-true, cond-false, lt-ltb, ltb-true}
use Rattle.counting.specs.Ledger.{Ledger, pixels_at, counted_levels}
use Rattle.pricing.specs.Prices.{Counted}
use Rattle.counting.specs.Sound.{Sound}
use Rattle.divisions.specs.Divisions.{levels_of, level_at}

pub counting_append : (a m n : ℕ) → range_with_len a (m + n) ≡ range_with_len a m ++ range_with_len (a + m) n
counting_append a zero n = let e : 0 + n ≡ n = omega arith in let f : a + 0 ≡ a = omega arith in rw (e, f) refl
counting_append a (suc m) n =
    let e : suc m + n ≡ suc (m + n) = omega arith in
    let f : a + 1 + m ≡ a + suc m = omega arith in
    ap (range_with_len a) e ∙ ap (λ (xs : List ℕ). a ∷ xs) (counting_append (a + 1) m n ∙ ap (λ (x : ℕ). range_with_len (a + 1) m ++ range_with_len x n) f)

kept_map : (p : ℕ → Bool) (f : ℕ → ℕ) (xs : List ℕ) → length (filter p (map f xs)) ≡ length (filter (λ x. p (f x)) xs)
kept_map p f [] = refl
kept_map p f (x ∷ xs) =
    elim (p (f x)) as (λ b. length (cond b (f x ∷ filter p (map f xs)) (filter p (map f xs))) ≡ length (cond b (x ∷ filter (λ y. p (f y)) xs) (filter (λ y. p (f y)) xs))) [
      | true ↦ ap suc (kept_map p f xs)
      | false ↦ kept_map p f xs
    ]

-- the counted levels below l, and their number
abbrev pub front : Ledger → ℕ → List ℕ
front g l = filter (λ k. ltb 0 (pixels_at g k)) (range_with_len 0 l)

unfoldable pub rank : Ledger → ℕ → ℕ
rank g l = length (front g l)

module _ (g : Ledger) where
  pub front_more : (l : ℕ) → front g (suc l) ≡ front g l ++ cond (ltb 0 (pixels_at g l)) (l ∷ []) []
  front_more l =
      let e : suc l ≡ l + 1 = omega arith in
      let z : 0 + l ≡ l = omega arith in
      ap (front g) e
      ∙ ap (filter (λ k. ltb 0 (pixels_at g k))) (counting_append 0 l 1)
      ∙ filter-append (λ k. ltb 0 (pixels_at g k)) (range_with_len 0 l) (range_with_len (0 + l) 1)
      ∙ ap (λ (x : ℕ). front g l ++ cond (ltb 0 (pixels_at g x)) (x ∷ []) []) z

  pub rank_none : rank g 0 ≡ 0
  unfolding rank
  rank_none = refl

  rank_by : (l : ℕ) → rank g (suc l) ≡ rank g l + length (cond (ltb 0 (pixels_at g l)) (l ∷ []) [])
  unfolding rank
  rank_by l = ap length (front_more l) ∙ length-append (front g l) (cond (ltb 0 (pixels_at g l)) (l ∷ []) [])

  pub rank_yes : (l : ℕ) → ltb 0 (pixels_at g l) ≡ true → rank g (suc l) ≡ suc (rank g l)
  rank_yes l e = rank_by l ∙ ap (λ (xs : List ℕ). rank g l + length xs) (cond-true _ (l ∷ []) [] e) ∙ omega arith

  pub rank_no : (l : ℕ) → ltb 0 (pixels_at g l) ≡ false → rank g (suc l) ≡ rank g l
  rank_no l e = rank_by l ∙ ap (λ (xs : List ℕ). rank g l + length xs) (cond-false _ (l ∷ []) [] e) ∙ omega arith

  pub rank_mono : (l d : ℕ) → rank g l ≤ rank g (l + d)
  rank_mono l zero = let e : l + 0 ≡ l = omega arith in rw e (omega arith)
  rank_mono l (suc d) =
      let e : l + suc d ≡ suc (l + d) = omega arith in
      let ih = rank_mono l d in
      rw e (elim (cases_Bool (ltb 0 (pixels_at g (l + d)))) [ inl t ↦ omega (arith, rank_yes (l + d) t) | inr f ↦ omega (arith, rank_no (l + d) f) ])

  -- the place of a counted level
  pub level_at_rank : (l : ℕ) → l < g.levels → ltb 0 (pixels_at g l) ≡ true → level_at g (rank g l) ≡ l
  unfolding level_at rank
  level_at_rank l h t =
      let e : g.levels ≡ l + suc (g.levels - 1 - l) = omega arith in
      let z : 0 + l ≡ l = omega arith in
      let rest = filter (λ k. ltb 0 (pixels_at g k)) (range_with_len (l + 1) (g.levels - 1 - l)) in
      let whole : levels_of g ≡ front g l ++ l ∷ rest =
      ap (front g) e
      ∙ ap (filter (λ k. ltb 0 (pixels_at g k))) (counting_append 0 l (suc (g.levels - 1 - l)))
      ∙ filter-append (λ k. ltb 0 (pixels_at g k)) (range_with_len 0 l) (range_with_len (0 + l) (suc (g.levels - 1 - l)))
      ∙ ap (λ (x : ℕ). front g l ++ filter (λ k. ltb 0 (pixels_at g k)) (range_with_len x (suc (g.levels - 1 - l)))) z
      ∙ ap (λ (xs : List ℕ). front g l ++ xs) (cond-true _ (l ∷ rest) rest t) in
      ap (λ (xs : List ℕ). get_or xs (length (front g l)) 0) whole ∙ get_or_at (front g l) l rest 0 (length (front g l)) refl

  -- the counted level of a place
  placed : (l : ℕ) → l ≤ g.levels → (i : ℕ) → i < rank g l → (level_at g i < l) × Counted g (level_at g i) × (rank g (level_at g i) ≡ i)
  placed zero h i k = absurd (omega (arith, rank_none))
  placed (suc l) h i k =
      elim (cases_lt i (rank g l)) [
        | inl b ↦ let p = placed l (omega arith) i b in (omega (arith, p.0), p.1, p.2)
        | inr b ↦ elim (cases_Bool (ltb 0 (pixels_at g l))) [
          | inl t ↦ last t (omega (arith, rank_yes l t))
          | inr f ↦ absurd (omega (arith, rank_no l f))
        ]
      ]
    where
      last : ltb 0 (pixels_at g l) ≡ true → i ≡ rank g l → (level_at g i < suc l) × Counted g (level_at g i) × (rank g (level_at g i) ≡ i)
      last t e = let here : level_at g i ≡ l = ap (level_at g) e ∙ level_at_rank l h t in rw here (omega arith, ltb-true 0 (pixels_at g l) t, sym e)

module _ (g : Ledger) (S : Sound g) where
  -- all counted levels
  pub rank_all : rank g g.levels ≡ counted_levels g
  unfolding rank
  rank_all =
      let p : ℕ → Bool = λ n. ltb 0 n in
      let e : g.at ≡ map (pixels_at g) (range_with_len 0 g.levels) = fill_by_all (pixels_at g) g.at g.levels 0 S.width (λ k _. refl) in
      sym (kept_map p (pixels_at g) (range_with_len 0 g.levels)) ∙ ap (λ (xs : List ℕ). length (filter p xs)) (sym e) ∙ length-filter p g.at

  pub few_pixels : (l : ℕ) → pixels_at g l < 2 ^ 32
  few_pixels l = elim (cases_lt l (length g.at)) [
    | inl h ↦ omega (arith, get_or-le-sum_by (λ x. x) g.at l 0 h, S.fits)
    | inr h ↦ omega (arith, get_or_past g.at l 0 h)
  ]

  -- what holds of the counted level at a place
  pub record At (i : ℕ) : Type 0 where
    pub level : level_at g i < g.levels
    pub low : level_at g i < 1024
    pub counted : Counted g (level_at g i)
    pub back : rank g (level_at g i) ≡ i

  pub at : (i : ℕ) → i < counted_levels g → At i
  at i h =
      let p = placed g g.levels (omega arith) i (omega (arith, rank_all)) in
      record { level = p.0; low = omega (arith, p.0, S.range.1); counted = p.1; back = p.2 }

  pub rising : (i k : ℕ) → i < k → k < counted_levels g → level_at g i < level_at g k
  rising i k h l =
      elim (cases_lt (level_at g i) (level_at g k)) [
        | inl a ↦ a
        | inr a ↦
            let e : level_at g k + (level_at g i - level_at g k) ≡ level_at g i = omega arith in
            let m = rank_mono g (level_at g k) (level_at g i - level_at g k) in
            absurd (omega (arith, rw e at m, (at i (omega arith)).back, (at k l).back))
      ]

  pub not_falling : (i k : ℕ) → i ≤ k → k < counted_levels g → level_at g i ≤ level_at g k
  not_falling i k h l = elim (cases_eq i k) [ inl e ↦ rw e (omega arith) | inr e ↦ omega (arith, rising i k (omega arith) l) ]

  -- the places up to a level and past it
  pub rank_past : (i : ℕ) → i < counted_levels g → rank g (suc (level_at g i)) ≡ suc i
  rank_past i h = rank_yes g (level_at g i) (lt-ltb 0 _ (at i h).counted) ∙ ap suc (at i h).back

  -- each counted level has a place
  pub place_of : (l : ℕ) → l < g.levels → Counted g l → (rank g l < counted_levels g) × (level_at g (rank g l) ≡ l)
  place_of l h k =
      let t = lt-ltb 0 (pixels_at g l) k in
      let e : suc l + (g.levels - suc l) ≡ g.levels = omega arith in
      let m = rank_mono g (suc l) (g.levels - suc l) in
      (omega (arith, rank_yes g l t, rw e at m, rank_all), level_at_rank g l h t)
