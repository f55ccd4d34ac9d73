-- The numbers below a limit that pass a test, in order: one more, none in a gap, and which place each has.
use Rattle.std.proofs.Common.{◌≡◌, ℕ, zero, suc, ◌+◌, ◌-◌, ◌<◌, ◌≤◌, Bool, true, false, cond, List, [], ◌∷◌, ◌++◌, length, get_or, filter, sym, refl, ap, ◌∙◌, subst, inl, inr, append-nil, add-one, arith}
use Rattle.std.specs.List.{range_with_len}
use Rattle.std.proofs.lemmas.Bool.{cases_lt, cases_eq, cases_Bool, both_ways}
use Rattle.std.proofs.lemmas.List.{map-id, length_push, get_or_push, get_or_append_left}
use Rattle.std.proofs.lemmas.List.Elements.{filter-append}
use Rattle.std.proofs.lemmas.List.FromFn.{map-range_with_len_more}

pub counting_more : (n : ℕ) → range_with_len 0 (n + 1) ≡ range_with_len 0 n ++ n ∷ []
counting_more n = sym (map-id (range_with_len 0 (n + 1))) ∙ map-range_with_len_more (λ (x : ℕ). x) 0 n n (omega arith) ∙ ap (λ (xs : List ℕ). xs ++ n ∷ []) (map-id (range_with_len 0 n))

module _ (p : ℕ → Bool) where
  abbrev pub kept_below : ℕ → List ℕ
  kept_below k = filter p (range_with_len 0 k)

  kept_more : (k : ℕ) → kept_below (k + 1) ≡ kept_below k ++ cond (p k) (k ∷ []) []
  kept_more k = ap (filter p) (counting_more k) ∙ filter-append p (range_with_len 0 k) (k ∷ [])

  pub kept_yes : (k : ℕ) → p k ≡ true → kept_below (k + 1) ≡ kept_below k ++ k ∷ []
  kept_yes k e = kept_more k ∙ ap (λ (b : Bool). kept_below k ++ cond b (k ∷ []) []) e

  pub kept_no : (k : ℕ) → p k ≡ false → kept_below (k + 1) ≡ kept_below k
  kept_no k e = kept_more k ∙ ap (λ (b : Bool). kept_below k ++ cond b (k ∷ []) []) e ∙ append-nil (kept_below k)

  -- where none of a stretch of numbers passes
  kept_stretch : (a d : ℕ) → ((l : ℕ) → a ≤ l → l < a + d → p l ≡ false) → kept_below (a + d) ≡ kept_below a
  kept_stretch a zero none = let e : a + 0 ≡ a = omega arith in ap kept_below e
  kept_stretch a (suc d) none =
      let e : a + suc d ≡ a + d + 1 = omega arith in
      ap kept_below e ∙ kept_no (a + d) (none (a + d) (omega arith) (omega arith)) ∙ kept_stretch a d (λ l h lt. none l h (omega arith))

  pub kept_gap : (a b : ℕ) → a ≤ b → ((l : ℕ) → a ≤ l → l < b → p l ≡ false) → kept_below b ≡ kept_below a
  kept_gap a b h none =
      let d = b - a in
      let e : a + d ≡ b = omega arith in
      sym (ap kept_below e) ∙ kept_stretch a d (λ l le lt. none l le (omega arith))

  -- as many pass below a limit as below a higher one, or fewer
  pub kept_grows : (j k : ℕ) → j ≤ k → length (kept_below j) ≤ length (kept_below k)
  kept_grows j zero h = let e : j ≡ 0 = omega arith in rw e (omega arith)
  kept_grows j (suc k) h = elim (cases_lt k j) [
    | inl last ↦ (let e : j ≡ suc k = omega arith in rw e (omega arith))
    | inr before ↦ (
        let rest = kept_grows j k before in
        let more : length (kept_below k) ≤ length (kept_below (k + 1)) = elim (cases_Bool (p k)) [
          | inl e ↦ omega (arith, ap length (kept_yes k e), length_push (kept_below k) k)
          | inr e ↦ omega (arith, ap length (kept_no k e))
        ] in
        let P : ℕ → Type 0 = λ n. length (kept_below j) ≤ length (kept_below n) in subst P (add-one k) (omega arith))
  ]

  -- a number that passes stands at the place that says how many pass below it
  pub kept_place : (k l : ℕ) → l < k → p l ≡ true → (length (kept_below l) < length (kept_below k)) × (get_or (kept_below k) (length (kept_below l)) 0 ≡ l)
  kept_place zero l h e = absurd (omega arith)
  kept_place (suc k) l h e =
      let P : ℕ → Type 0 = λ n. (length (kept_below l) < length (kept_below n)) × (get_or (kept_below n) (length (kept_below l)) 0 ≡ l) in
      subst P (add-one k) (elim (cases_Bool (p k)) [
        | inl here ↦ (
            let grown = kept_yes k here in
            let longer = ap length grown ∙ length_push (kept_below k) k in
            elim (cases_eq l k) [
              | inl same ↦ rw same (omega arith, ap (λ (xs : List ℕ). get_or xs (length (kept_below k)) 0) grown ∙ get_or_push (kept_below k) k 0 (length (kept_below k)) refl)
              | inr other ↦ (
                  let before = kept_place k l (omega arith) e in
                  (omega arith, ap (λ (xs : List ℕ). get_or xs (length (kept_below l)) 0) grown ∙ get_or_append_left (kept_below k) (k ∷ []) 0 (length (kept_below l)) before.0 ∙ before.1))
            ])
        | inr none ↦ (
            let same = kept_no k none in
            elim (cases_eq l k) [
              | inl at ↦ absurd (both_ways (p k) none (rw at at e))
              | inr other ↦ (
                  let before = kept_place k l (omega arith) e in
                  (omega (arith, ap length same), ap (λ (xs : List ℕ). get_or xs (length (kept_below l)) 0) same ∙ before.1))
            ])
      ])

  -- each that is kept passes and is below the limit, and is above the one before it
  pub record Keeps (xs : List ℕ) (k : ℕ) : Type 0 where
    pub passes : (i : ℕ) → i < length xs → p (get_or xs i 0) ≡ true
    pub below : (i : ℕ) → i < length xs → get_or xs i 0 < k
    pub rises : (i : ℕ) → i + 1 < length xs → get_or xs i 0 < get_or xs (i + 1) 0

  keeps_push : (xs : List ℕ) (k : ℕ) → Keeps xs k → p k ≡ true → Keeps (xs ++ k ∷ []) (k + 1)
  keeps_push xs k keep e =
      let longer = length_push xs k in
      let last = get_or_push xs k 0 (length xs) refl in
      let old : (i : ℕ) → i < length xs → get_or (xs ++ k ∷ []) i 0 ≡ get_or xs i 0 = λ i h. get_or_append_left xs (k ∷ []) 0 i h in
      let at_last : (i : ℕ) → i < length (xs ++ k ∷ []) → length xs ≤ i → get_or (xs ++ k ∷ []) i 0 ≡ k = λ i h le. (let j : i ≡ length xs = omega arith in rw j last) in
      record {
        passes = λ i h. elim (cases_lt i (length xs)) [
          | inl lt ↦ rw (old i lt) (keep.passes i lt)
          | inr le ↦ rw (at_last i h le) e
        ];
        below = λ i h. elim (cases_lt i (length xs)) [
          | inl lt ↦ (let b = keep.below i lt in rw (old i lt) (omega arith))
          | inr le ↦ rw (at_last i h le) (omega arith)
        ];
        rises = λ i h. elim (cases_lt (i + 1) (length xs)) [
          | inl lt ↦ (let inside : i < length xs = omega arith in let up = keep.rises i lt in rw (old i inside, old (i + 1) lt) up)
          | inr le ↦ (let inside : i < length xs = omega arith in let b = keep.below i inside in rw (old i inside, at_last (i + 1) h le) b)
        ];
      }

  pub kept_keeps : (k : ℕ) → Keeps (kept_below k) k
  kept_keeps zero = record { passes = λ i h. absurd (omega arith); below = λ i h. absurd (omega arith); rises = λ i h. absurd (omega arith) }
  kept_keeps (suc k) = elim (cases_Bool (p k)) [
    | inl here ↦ (let P : ℕ → Type 0 = λ n. Keeps (kept_below n) n in subst P (add-one k) (rw (kept_yes k here) (keeps_push (kept_below k) k (kept_keeps k) here)))
    | inr none ↦ (
        let keep = kept_keeps k in
        let P : ℕ → Type 0 = λ n. Keeps (kept_below n) n in
        subst P (add-one k) (rw (kept_no k none) record { passes = keep.passes; below = (λ i h. let b = keep.below i h in omega arith); rises = keep.rises }))
  ]
