-- Divisions, whatever a run's price is: the best division exists, is found from the best ones of fewer levels, and is the only one;
-- and where cutting a run in two does not raise the tally, more runs have no higher tally.
use Rattle.std.proofs.Common.{◌≡◌, ℕ, zero, suc, ◌+◌, ◌-◌, ◌<◌, ◌≤◌, ◌⊎◌, List, [], ◌∷◌, length, replicate, sym, refl, ap, ◌∙◌, ap₂, inl, inr, arith}
use Rattle.std.proofs.lemmas.Bool.{cases_eq, cases_lt}
use Rattle.pricing.specs.Tallies.{Ops, Laws, NotAbove}
use Rattle.divisions.specs.Divisions.{highest_least, Divides, divided, Best}
use Rattle.divisions.specs.Recurrence.{onward, best_division, least_tally}
use Rattle.divisions.proofs.Order.{same_le, from_le, to_le, join_le, least_in, least_le, least_highest}

-- each run has a level at least
pub runs_le : (ks : List ℕ) (n : ℕ) → Divides ks n → length ks ≤ n
runs_le [] n v = omega arith
runs_le (k ∷ ks) n v = let ih = runs_le ks (n - k) v.2 in omega arith

-- a run for each level
pub singles : (n : ℕ) → Divides (replicate n 1) n
singles zero = refl
singles (suc n) = let e : suc n - 1 ≡ n = omega arith in (omega arith, omega arith, rw e (singles n))

pub best_divides : {C : Type 0} (o : Ops C) (price : ℕ → ℕ → C) (ks : List ℕ) (n : ℕ) → Best o price ks n → Divides ks n
best_divides o price [] n b = b
best_divides o price (k ∷ ks) n b = b.0.divides

-- the recurrence, as a program that fills a table meets it
pub best_division_more : {C : Type 0} (o : Ops C) (price : ℕ → ℕ → C) (q n i : ℕ) → 0 < q → i ≡ highest_least o (onward o price (best_division o price q) n) q (n - 1 - q) →
    best_division o price (suc q) n ≡ (n - i) ∷ best_division o price q i
unfolding best_division
best_division_more o price zero n i h e = absurd (omega arith)
best_division_more o price (suc q) n i h e =
    let f : n - 1 - suc q ≡ n - 2 - q = omega arith in
    let e2 : i ≡ highest_least o (onward o price (best_division o price (suc q)) n) (suc q) (n - 2 - q) = e ∙ ap (highest_least o (onward o price (best_division o price (suc q)) n) (suc q)) f in
    ap (λ (x : ℕ). (n - x) ∷ best_division o price (suc q) x) (sym e2)

pub divided_cons : {C : Type 0} (o : Ops C) (price : ℕ → ℕ → C) (k : ℕ) (ks : List ℕ) (n : ℕ) → divided o price (k ∷ ks) n ≡ o.join (price (n - k) k) (divided o price ks (n - k))
unfolding divided
divided_cons o price k ks n = refl

pub divided_at : {C : Type 0} (o : Ops C) (price : ℕ → ℕ → C) (ks : List ℕ) (n i : ℕ) → i < n → divided o price ((n - i) ∷ ks) n ≡ o.join (price i (n - i)) (divided o price ks i)
divided_at o price ks n i h =
    let back : n - (n - i) ≡ i = omega arith in
    divided_cons o price (n - i) ks n ∙ ap (λ (x : ℕ). o.join (price x (n - i)) (divided o price ks x)) back

-- prices that agree on the runs of n levels give the same tallies and the same best divisions
module _ {C : Type 0} (o : Ops C) (p p' : ℕ → ℕ → C) where
  pub divided_same : (ks : List ℕ) (n : ℕ) → ((i d : ℕ) → 0 < d → i + d ≤ n → p i d ≡ p' i d) → Divides ks n → divided o p ks n ≡ divided o p' ks n
  unfolding divided
  divided_same [] n e v = refl
  divided_same (k ∷ ks) n e v = ap₂ (λ (a b : C). o.join a b) (e (n - k) k v.0 (omega arith)) (divided_same ks (n - k) (λ i d a b. e i d a (omega arith)) v.2)

  pub best_same : (ks : List ℕ) (n : ℕ) → ((i d : ℕ) → 0 < d → i + d ≤ n → p i d ≡ p' i d) → Best o p ks n → Best o p' ks n
  best_same [] n e b = b
  best_same (k ∷ ks) n e b =
      let v = b.0.divides in
      let here = divided_same (k ∷ ks) n e v in (
        record {
          divides = v;
          lowest = (λ others w l. let there = divided_same others n e w in rw (← here, ← there) (b.0.lowest others w l));
          shortest = (λ last others w l s. let there = divided_same (last ∷ others) n e w in b.0.shortest last others w l (cc));
        },
        best_same ks (n - k) (λ i d a c. e i d a (omega arith)) b.1,
      )

module _ {C : Type 0} (o : Ops C) (L : Laws o) (price : ℕ → ℕ → C) where
  -- The recurrence: a last run after the best division of what stands before it is the best of all,
  -- if no other last run gives a lower tally, and none that is shorter gives the same.
  pub best_step : (before : ℕ → List ℕ) (q n i : ℕ) → 0 < q → q ≤ i → i < n →
      ((j : ℕ) → q ≤ j → j < n → Best o price (before j) j × (length (before j) ≡ q)) →
      ((j : ℕ) → q ≤ j → j < n → NotAbove o (onward o price before n i) (onward o price before n j)) →
      ((j : ℕ) → i < j → j < n → NotAbove o (onward o price before n j) (onward o price before n i) → ⊥) →
      Best o price ((n - i) ∷ before i) n
  best_step before q n i pos a b bests low high =
      (record { divides = whole; lowest = lowest; shortest = shortest }, rw back (bests i a b).0)
    where
      back : n - (n - i) ≡ i
      back = omega arith

      whole : Divides ((n - i) ∷ before i) n
      whole = (omega arith, omega arith, rw back (best_divides o price (before i) i (bests i a b).0))

      -- any division into as many runs: what stands before its last run has no lower tally than the best has
      tail : (ks js : List ℕ) (j : ℕ) → Best o price ks j → length ks ≡ q → Divides js j → length js ≡ q → NotAbove o (divided o price ks j) (divided o price js j)
      tail [] js j _ e v l = absurd (omega arith)
      tail (k ∷ ks) js j u e v l = u.0.lowest js v (l ∙ sym e)

      under : (last : ℕ) (others : List ℕ) → Divides (last ∷ others) n → length others ≡ q → NotAbove o (onward o price before n (n - last)) (divided o price (last ∷ others) n)
      under last others v l =
          let some = runs_le others (n - last) v.2 in
          let u = bests (n - last) (omega arith) (omega arith) in
          let e : n - (n - last) ≡ last = omega arith in
          to_le o L _ _ _ (sym (divided_cons o price last others n))
          (join_le o L _ _ _ _ (rw e (same_le o L _)) (tail (before (n - last)) others (n - last) u.0 u.1 v.2 l))

      lowest : (others : List ℕ) → Divides others n → length others ≡ suc (length (before i)) → NotAbove o (divided o price ((n - i) ∷ before i) n) (divided o price others n)
      lowest [] v l = absurd (omega arith)
      lowest (last ∷ others) v l =
          let few : length others ≡ q = omega (arith, (bests i a b).1) in
          let some = runs_le others (n - last) v.2 in
          from_le o L _ _ _ (divided_at o price (before i) n i b)
          (L.transitive _ _ _ (low (n - last) (omega arith) (omega arith)) (under last others v few))

      shortest : (last : ℕ) (others : List ℕ) → Divides (last ∷ others) n → length others ≡ length (before i) → divided o price (last ∷ others) n ≡ divided o price ((n - i) ∷ before i) n → n - i ≤ last
      shortest last others v l s =
          let few : length others ≡ q = omega (arith, (bests i a b).1) in
          elim (cases_lt i (n - last)) [
            | inl h ↦ absurd (high (n - last) h (omega arith) (to_le o L _ _ _ (s ∙ divided_at o price (before i) n i b) (under last others v few)))
            | inr h ↦ omega arith
          ]

  best_one : (n : ℕ) → 0 < n → Best o price (n ∷ []) n
  best_one n h =
      let none : n - n ≡ 0 = omega arith in (
        record {
          divides = (h, omega arith, none);
          lowest = (λ others v l. only others v (omega arith));
          shortest = (λ last others v l s. all last others v (omega arith));
        },
        none,
      )
    where
      all : (last : ℕ) (others : List ℕ) → Divides (last ∷ others) n → length others ≡ 0 → n ≤ last
      all last [] v l = omega arith
      all last (k ∷ ks) v l = absurd (omega arith)

      only : (others : List ℕ) → Divides others n → length others ≡ 1 → NotAbove o (divided o price (n ∷ []) n) (divided o price others n)
      only [] v l = absurd (omega arith)
      only (k ∷ []) v l = let e : k ≡ n = omega arith in rw e (same_le o L _)
      only (k ∷ k' ∷ ks) v l = absurd (omega arith)

  -- it exists
  pub best_division_best : (q n : ℕ) → q ≤ n → (n ≡ 0) ⊎ (0 < q) → Best o price (best_division o price q n) n × (length (best_division o price q n) ≡ q)
  unfolding best_division
  best_division_best zero n h s = elim s [ inl e ↦ (e, refl) | inr e ↦ absurd (omega arith) ]
  best_division_best (suc zero) n h s = (best_one n h, refl)
  best_division_best (suc (suc q)) n h s =
      let before = best_division o price (suc q) in
      let t : ℕ → C = onward o price before n in
      let i = highest_least o t (suc q) (n - 2 - q) in
      let w = least_in o t (suc q) (n - 2 - q) in
      let ih : (j : ℕ) → suc q ≤ j → j < n → Best o price (before j) j × (length (before j) ≡ suc q) = (λ j a b. best_division_best (suc q) j a (inr (omega arith))) in (
        best_step before (suc q) n i (omega arith) w.0 (omega arith) ih
            (λ j a b. least_le o L t (suc q) (n - 2 - q) j a (omega arith))
            (λ j a b u. omega (arith, least_highest o L t (suc q) (n - 2 - q) j (omega arith) (omega arith) u)),
        ap suc (ih i w.0 (omega arith)).1,
      )

  -- and there is no other
  pub best_unique : (ks js : List ℕ) (n : ℕ) → length ks ≡ length js → Best o price ks n → Best o price js n → ks ≡ js
  best_unique [] [] n e a b = refl
  best_unique [] (j ∷ js) n e a b = absurd (omega arith)
  best_unique (k ∷ ks) [] n e a b = absurd (omega arith)
  best_unique (k ∷ ks) (j ∷ js) n e a b =
      let same = L.antisymmetric _ _ (a.0.lowest (j ∷ js) b.0.divides (sym e)) (b.0.lowest (k ∷ ks) a.0.divides e) in
      let f : length ks ≡ length js = omega arith in
      let up = a.0.shortest j js b.0.divides (sym f) (sym same) in
      let down = b.0.shortest k ks a.0.divides f same in
      let h : k ≡ j = omega arith in
      ap₂ (λ (x : ℕ) (xs : List ℕ). x ∷ xs) h (best_unique ks js (n - k) f a.1 (rw (← h) at b.1))

  -- so it is the one that is found from the best ones of fewer levels
  pub best_is : (ks : List ℕ) (n : ℕ) → Best o price ks n → ks ≡ best_division o price (length ks) n
  best_is ks n b =
      let v = best_divides o price ks n b in
      let f = best_division_best (length ks) n (runs_le ks n v) (some ks v) in
      best_unique ks _ n (sym f.1) b f.0
    where
      some : (ks : List ℕ) → Divides ks n → (n ≡ 0) ⊎ (0 < length ks)
      some [] v = inl v
      some (k ∷ ks) v = inr (omega arith)

  -- the least tally is not above that of any division into as many runs
  pub best_lowest : (ks js : List ℕ) (n : ℕ) → Best o price ks n → Divides js n → length js ≡ length ks → NotAbove o (divided o price ks n) (divided o price js n)
  best_lowest [] [] n a v e = same_le o L _
  best_lowest [] (j ∷ js) n a v e = absurd (omega arith)
  best_lowest (k ∷ ks) js n a v e = a.0.lowest js v e

-- a division into q runs whose tally is no higher
abbrev pub Better : {C : Type 0} → Ops C → (ℕ → ℕ → C) → List ℕ → ℕ → ℕ → Type 0
Better o price ks n q = (ks' : List ℕ) × Divides ks' n × (length ks' ≡ q) × NotAbove o (divided o price ks' n) (divided o price ks n)

module _ {C : Type 0} (o : Ops C) (L : Laws o) (price : ℕ → ℕ → C) (c : ℕ)
    (split : (i d e : ℕ) → 0 < d → 0 < e → i + (d + e) ≤ c → NotAbove o (o.join (price (i + d) e) (price i d)) (price i (d + e))) where
  split_first : (k : ℕ) (ks : List ℕ) (n : ℕ) → 1 < k → k ≤ n → n ≤ c → NotAbove o (divided o price (1 ∷ (k - 1) ∷ ks) n) (divided o price (k ∷ ks) n)
  unfolding divided
  split_first k ks n two h l =
      let e1 : n - k + (k - 1) ≡ n - 1 = omega arith in
      let e2 : n - 1 - (k - 1) ≡ n - k = omega arith in
      let e3 : k - 1 + 1 ≡ k = omega arith in
      let s = split (n - k) (k - 1) 1 (omega arith) (omega arith) (omega arith) in
      from_le o L _ _ _
      (ap (λ (x : ℕ). o.join (price (n - 1) 1) (o.join (price x (k - 1)) (divided o price ks x))) e2 ∙ sym (L.associative _ _ _))
      (L.monotone _ _ _ (rw (e1, e3) at s))

  -- one run more
  one_more : (ks : List ℕ) (n : ℕ) → Divides ks n → length ks < n → n ≤ c → Better o price ks n (suc (length ks))
  unfolding divided
  one_more [] n v h l = absurd (omega arith)
  one_more (k ∷ ks) n v h l = elim (cases_eq k 1) [ inl e ↦ single (one_more ks (n - k) v.2 (omega arith) (omega arith)) | inr e ↦ double e ]
    where
      single : Better o price ks (n - k) (suc (length ks)) → Better o price (k ∷ ks) n (suc (suc (length ks)))
      single b = (k ∷ b.0, (v.0, v.1, b.1), ap suc b.2, join_le o L _ _ _ _ (same_le o L _) b.3)

      double : (k ≡ 1 → ⊥) → Better o price (k ∷ ks) n (suc (suc (length ks)))
      double e =
          let e2 : n - 1 - (k - 1) ≡ n - k = omega arith in
          (1 ∷ (k - 1) ∷ ks, (omega arith, omega arith, (omega arith, omega arith, rw e2 v.2)), refl, split_first k ks n (omega arith) v.1 l)

  -- as many runs as there is room for
  pub refined : (d : ℕ) (ks : List ℕ) (n : ℕ) → Divides ks n → length ks + d ≤ n → n ≤ c → Better o price ks n (length ks + d)
  refined zero ks n v h l = (ks, v, omega arith, same_le o L _)
  refined (suc d) ks n v h l =
      let b = one_more ks n v (omega arith) l in
      let r = refined d b.0 n b.1 (omega arith) l in
      (r.0, r.1, omega arith, L.transitive _ _ _ r.3 b.3)

  -- the best division into as many runs or more is not above any division
  pub best_among : (ks js : List ℕ) (n : ℕ) → n ≤ c → Best o price ks n → Divides js n → length js ≤ length ks → NotAbove o (divided o price ks n) (divided o price js n)
  best_among ks js n l b v h =
      let most = runs_le ks n (best_divides o price ks n b) in
      let r = refined (length ks - length js) js n v (omega arith) l in
      L.transitive _ _ _ (best_lowest o L price ks r.0 n b r.1 (omega (arith, r.2))) r.3

module _ {C : Type 0} (o : Ops C) (L : Laws o) (price : ℕ → ℕ → C) where
  -- one run
  pub least_one : (n : ℕ) → 0 < n → least_tally o price 1 n ≡ price 0 n
  unfolding best_division divided
  least_one n h = let none : n - n ≡ 0 = omega arith in L.neutral_joins _ ∙ ap (λ (x : ℕ). price x n) none

  -- one run more: the least, over the last run, of the least before it joined with its price; of equals the shortest last run
  pub least_more : (q n i : ℕ) → 0 < q → q < n → i ≡ highest_least o (λ j. o.join (price j (n - j)) (least_tally o price q j)) q (n - 1 - q) →
      least_tally o price (suc q) n ≡ o.join (price i (n - i)) (least_tally o price q i)
  least_more q n i h l e =
      let w = least_in o (λ j. o.join (price j (n - j)) (least_tally o price q j)) q (n - 1 - q) in
      let in' : i < n = omega arith in
      ap (λ (ks : List ℕ). divided o price ks n) (best_division_more o price q n i h e) ∙ divided_at o price (best_division o price q i) n i in'
