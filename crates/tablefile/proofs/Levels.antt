-- What the entries of section 1 put at each level, where their levels rise: each its own pixels, and nothing elsewhere.
use Rattle.std.proofs.Common.{◌≡◌, ℕ, zero, suc, ◌<◌, ◌≤◌, Bool, true, false, ltb, ◌≢◌, List, [], ◌∷◌, ◌++◌, map, length, get_or, take, set, sum, filter, sym, refl, ap, ◌∙◌, subst, inl, inr, add-one, arith, length-set}
use Rattle.std.specs.List.{range_with_len}
use Rattle.std.proofs.lemmas.Bool.{cases_lt, lt-ltb, le-ltb}
use Rattle.std.proofs.lemmas.List.{get_or-set_same, get_or-set_other, get_or-take, length-replicate}
use Rattle.std.proofs.lemmas.List.Sums.{sum_by-set, sum_by-take-le}
use Rattle.std.proofs.lemmas.List.FromFn.{map-range_with_len_more}
use Rattle.counting.proofs.Rows.{zeros_at, zeros_sum}
use Rattle.tablefile.specs.Fields.{level_in, pixels_in}
use Rattle.tablefile.specs.Faults.{least_next, pixels_before}
use Rattle.tablefile.specs.Parts.{pixels_upto}
use Rattle.tablefile.proofs.Kept.{kept_yes, kept_gap}

-- an entry's level rises and is one of the levels, and the entry has pixels
pub record Entry (file : List ℕ) (levels i : ℕ) : Type 0 where
  pub rises : least_next (level_in file) i ≤ level_in file i
  pub level : level_in file i < levels
  pub pixels : 0 < pixels_in file i

module _ (file : List ℕ) (levels n : ℕ) (few : levels ≤ 1024) (entry : (i : ℕ) → i < n → Entry file levels i) where
  abbrev lv : ℕ → ℕ
  lv i = level_in file i

  pub rising : (j i : ℕ) → j < i → i < n → lv j < lv i
  rising j zero h in' = absurd (omega arith)
  rising j (suc i) h in' =
      let up = (entry (suc i) in').rises in
      elim (cases_lt j i) [
        | inl lt ↦ (let before = rising j i lt (omega arith) in omega arith)
        | inr ge ↦ (let e : j ≡ i = omega arith in let f = ap lv e in omega arith)
      ]

  pub upto_wide : (i : ℕ) → length (pixels_upto file i) ≡ 1024
  unfolding pixels_upto
  upto_wide zero = length-replicate {A = ℕ} 1024 0
  upto_wide (suc i) = length-set (pixels_upto file i) (lv i) (pixels_in file i) ∙ upto_wide i

  pub at_entry : (i j : ℕ) → j < i → i ≤ n → get_or (pixels_upto file i) (lv j) 0 ≡ pixels_in file j
  unfolding pixels_upto
  at_entry zero j h le = absurd (omega arith)
  at_entry (suc i) j h le = elim (cases_lt j i) [
    | inl lt ↦ (
        let up = rising j i lt (omega arith) in
        let ne : lv j ≢ lv i = λ e. omega arith in
        get_or-set_other (pixels_upto file i) (lv i) (lv j) (pixels_in file i) 0 ne ∙ at_entry i j lt (omega arith))
    | inr ge ↦ (
        let e : i ≡ j = omega arith in
        let wide = upto_wide i in
        let small = (entry i (omega arith)).level in
        let P : ℕ → Type 0 = λ k. get_or (set (pixels_upto file i) (lv i) (pixels_in file i)) (lv k) 0 ≡ pixels_in file k in
        subst P e (get_or-set_same (pixels_upto file i) (lv i) (pixels_in file i) 0 (omega arith)))
  ]

  pub elsewhere : (i l : ℕ) → i ≤ n → ((j : ℕ) → j < i → lv j ≡ l → ⊥) → get_or (pixels_upto file i) l 0 ≡ 0
  unfolding pixels_upto
  elsewhere zero l le apart = zeros_at 1024 l
  elsewhere (suc i) l le apart =
      get_or-set_other (pixels_upto file i) (lv i) l (pixels_in file i) 0 (λ e. apart i (omega arith) (sym e)) ∙ elsewhere i l (omega arith) (λ j h. apart j (omega arith))

  pub upto_sum : (i : ℕ) → i ≤ n → sum (pixels_upto file i) ≡ pixels_before file i
  unfolding pixels_upto
  upto_sum zero le = zeros_sum 1024 1024
  upto_sum (suc i) le =
      let old = pixels_upto file i in
      let wide = upto_wide i in
      let small = (entry i (omega arith)).level in
      let none : get_or old (lv i) 0 ≡ 0 = elsewhere i (lv i) (omega arith) (λ j h e. let up = rising j i h (omega arith) in omega arith) in
      let changed = sum_by-set (λ x. x) old (lv i) (pixels_in file i) 0 (omega arith) in
      let before = upto_sum i (omega arith) in omega arith

  pub before_grows : (j i : ℕ) → j ≤ i → pixels_before file j ≤ pixels_before file i
  before_grows j zero h = let e : j ≡ 0 = omega arith in rw e (omega arith)
  before_grows j (suc i) h = elim (cases_lt i j) [
    | inl last ↦ (let e : j ≡ suc i = omega arith in rw e (omega arith))
    | inr before ↦ (let rest = before_grows j i before in omega arith)
  ]

  -- the levels with pixels are those of the entries
  abbrev pub laid : List ℕ
  laid = take levels (pixels_upto file n)

  abbrev passes : ℕ → Bool
  passes l = ltb 0 (get_or laid l 0)

  pub laid_at : (l : ℕ) → l < levels → get_or laid l 0 ≡ get_or (pixels_upto file n) l 0
  laid_at l h = get_or-take levels (pixels_upto file n) l 0 h

  entry_passes : (i : ℕ) → i < n → passes (lv i) ≡ true
  entry_passes i h =
      let e = laid_at (lv i) (entry i h).level in
      let f = at_entry n i h (omega arith) in
      let more = (entry i h).pixels in lt-ltb 0 (get_or laid (lv i) 0) (omega arith)

  between_fails : (i l : ℕ) → i ≤ n → least_next lv i ≤ l → (i < n → l < lv i) → l < levels → passes l ≡ false
  between_fails i l le above below inside =
      let none : get_or (pixels_upto file n) l 0 ≡ 0 = elsewhere n l (omega arith) (λ j h e. elim (cases_lt j i) [
        | inl before ↦ last_before i j le before above e
        | inr after ↦ (let lt = below (omega arith) in elim (cases_lt i j) [
          | inl later ↦ (let up = rising i j later h in omega arith)
          | inr same ↦ (let k : i ≡ j = omega arith in let f = ap lv k in omega arith)
        ])
      ]) in
      let e = laid_at l inside in le-ltb 0 (get_or laid l 0) (omega arith)
    where
      last_before : (i j : ℕ) → i ≤ n → j < i → least_next lv i ≤ l → lv j ≡ l → ⊥
      last_before zero j le h above e = omega arith
      last_before (suc i) j le h above e = elim (cases_lt j i) [
        | inl lt ↦ (let up = rising j i lt (omega arith) in omega arith)
        | inr ge ↦ (let k : j ≡ i = omega arith in let f = ap lv k in omega arith)
      ]

  next_inside : (i : ℕ) → i ≤ n → least_next lv i ≤ levels
  next_inside zero le = omega arith
  next_inside (suc i) le = let small = (entry i (omega arith)).level in omega arith

  kept_upto : (i : ℕ) → i ≤ n → filter passes (range_with_len 0 (least_next lv i)) ≡ map lv (range_with_len 0 i)
  kept_upto zero le = refl
  kept_upto (suc i) le =
      let within : i < n = omega arith in
      let small = (entry i within).level in
      let gap = kept_gap passes (least_next lv i) (lv i) (entry i within).rises (λ l above lt. between_fails i l (omega arith) above (λ _. lt) (omega arith)) in
      let more : map lv (range_with_len 0 (suc i)) ≡ map lv (range_with_len 0 i) ++ lv i ∷ [] = subst (λ (k : ℕ). map lv (range_with_len 0 k) ≡ map lv (range_with_len 0 i) ++ lv i ∷ []) (add-one i) (map-range_with_len_more lv 0 i i (omega arith)) in
      kept_yes passes (lv i) (entry_passes i within) ∙ ap (λ (xs : List ℕ). xs ++ lv i ∷ []) (gap ∙ kept_upto i (omega arith)) ∙ sym more

  pub counted_are : filter passes (range_with_len 0 levels) ≡ map lv (range_with_len 0 n)
  counted_are =
      kept_gap passes (least_next lv n) levels (next_inside n (omega arith)) (λ l above lt. between_fails n l (omega arith) above (λ h. absurd (omega arith)) lt) ∙ kept_upto n (omega arith)

  -- the sum is what the entries have
  pub laid_sum : sum laid ≤ pixels_before file n
  laid_sum = let part = sum_by-take-le (λ x. x) (pixels_upto file n) levels in let all = upto_sum n (omega arith) in omega arith
