-- What a range of levels costs, by the places of its counted levels: the levels between them cost nothing.
use Rattle.std.proofs.Common.{◌≡◌, ℕ, zero, suc, ◌+◌, ◌-◌, ◌^◌, ◌<◌, ◌≤◌, true, false, cond, ltb, sym, refl, ap, ◌∙◌, ap₂, inl, inr, add-zero, add-suc, arith}
use Rattle.std.proofs.lemmas.Bool.{cases_Bool, cond-true, cond-false, ltb-true}
use Rattle.counting.specs.Ledger.{Ledger, pixels_at, counted_levels}
use Rattle.pricing.specs.Tallies.{Ops, Laws, NotAbove}
use Rattle.pricing.specs.Prices.{Counted, charged, costs}
use Rattle.counting.specs.Sound.{Sound}
use Rattle.divisions.specs.Divisions.{level_at}
use Rattle.divisions.proofs.Order.{same_le, join_le, joins_neutral, regroup}
use Rattle.divisions.proofs.Places.{rank, rank_none, rank_yes, rank_no, rank_mono, rank_all, rank_past, level_at_rank, few_pixels, at, not_falling}

-- the join of the charges of the d places from i, where `px k` pixels stand at the place k and their error is `e k`
unfoldable pub spent : {C : Type 0} → Ops C → (ℕ → ℕ) → (ℕ → ℕ) → ℕ → ℕ → C
spent o px e i zero = o.neutral
spent o px e i (suc d) = o.join (o.charge (px (i + d)) (e (i + d))) (spent o px e i d)

pub spent_ext : {C : Type 0} (o : Ops C) (px e e' : ℕ → ℕ) (i d : ℕ) → ((k : ℕ) → i ≤ k → k < i + d → e k ≡ e' k) → spent o px e i d ≡ spent o px e' i d
unfolding spent
spent_ext o px e e' i zero h = refl
spent_ext o px e e' i (suc d) h =
    ap₂ (λ (x : ℕ) (y : _). o.join (o.charge (px (i + d)) x) y) (h (i + d) (omega arith) (omega arith)) (spent_ext o px e e' i d (λ k a b. h k a (omega arith)))

module _ {C : Type 0} (o : Ops C) (L : Laws o) where
  -- a run in two parts
  pub spent_split : (px e : ℕ → ℕ) (i d f : ℕ) → spent o px e i (d + f) ≡ o.join (spent o px e (i + d) f) (spent o px e i d)
  unfolding spent
  spent_split px e i d zero = rw add-zero (sym (joins_neutral o L _))
  spent_split px e i d (suc f) =
      let same : i + (d + f) ≡ i + d + f = omega arith in
      rw add-suc (regroup o L _ _ _ _ _ (ap (λ (k : ℕ). o.charge (px k) (e k)) same) (spent_split px e i d f))

  pub spent_le : (px e e' : ℕ → ℕ) (i d : ℕ) → ((k : ℕ) → i ≤ k → k < i + d → (px k < 2 ^ 32) × (e k ≤ e' k) × (e' k < 2 ^ 32)) → NotAbove o (spent o px e i d) (spent o px e' i d)
  unfolding spent
  spent_le px e e' i zero p = same_le o L _
  spent_le px e e' i (suc d) p =
      let here = p (i + d) (omega arith) (omega arith) in
      join_le o L _ _ _ _
      (L.rising _ _ _ here.0 here.1 here.2)
      (spent_le px e e' i d (λ k a b. p k a (omega arith)))

  charged_le : (n d e : ℕ) → n < 2 ^ 32 → d ≤ e → e < 2 ^ 32 → NotAbove o (charged o n d) (charged o n e)
  charged_le n d e a b c = elim (ltb 0 n) as (λ t. NotAbove o (cond t (o.charge n d) o.neutral) (cond t (o.charge n e) o.neutral)) [
    | true ↦ L.rising n d e a b c
    | false ↦ same_le o L _
  ]

  -- the same over levels
  pub costs_le : (g : Ledger) → Sound g → (e e' : ℕ → ℕ) (a d : ℕ) → ((k : ℕ) → a ≤ k → k < a + d → (e k ≤ e' k) × (e' k < 2 ^ 32)) → NotAbove o (costs o g e a d) (costs o g e' a d)
  unfolding costs
  costs_le g S e e' a zero p = same_le o L _
  costs_le g S e e' a (suc d) p =
      let here = p (a + d) (omega arith) (omega arith) in
      join_le o L _ _ _ _
      (charged_le _ _ _ (few_pixels g S (a + d)) here.0 here.1)
      (costs_le g S e e' a d (λ k x y. p k x (omega arith)))

charged_ext : {C : Type 0} (o : Ops C) (n d e : ℕ) → (0 < n → d ≡ e) → charged o n d ≡ charged o n e
charged_ext o n d e h = elim (cases_Bool (ltb 0 n)) [
  | inl t ↦ ap (charged o n) (h (ltb-true 0 n t))
  | inr f ↦ cond-false _ (o.charge n d) o.neutral f ∙ sym (cond-false _ (o.charge n e) o.neutral f)
]

-- only the errors at counted levels matter
pub costs_ext : {C : Type 0} (o : Ops C) (g : Ledger) (e e' : ℕ → ℕ) (a d : ℕ) → ((k : ℕ) → a ≤ k → k < a + d → Counted g k → e k ≡ e' k) → costs o g e a d ≡ costs o g e' a d
unfolding costs
costs_ext o g e e' a zero h = refl
costs_ext {C} o g e e' a (suc d) h =
    ap₂ (λ (x y : C). o.join x y)
    (charged_ext o (pixels_at g (a + d)) (e (a + d)) (e' (a + d)) (h (a + d) (omega arith) (omega arith)))
    (costs_ext o g e e' a d (λ k x y. h k x (omega arith)))

-- the pixels at a place
abbrev pub pixels_of : Ledger → ℕ → ℕ
pixels_of g i = pixels_at g (level_at g i)

module _ {C : Type 0} (o : Ops C) (L : Laws o) (g : Ledger) where
  -- the d levels from a are the places from that of a
  pub by_places : (e : ℕ → ℕ) (a d : ℕ) → a + d ≤ g.levels → costs o g e a d ≡ spent o (pixels_of g) (λ i. e (level_at g i)) (rank g a) (rank g (a + d) - rank g a)
  unfolding costs spent
  by_places e a zero h =
      let z : a + 0 ≡ a = omega arith in
      let n : rank g (a + 0) - rank g a ≡ 0 = omega (arith, ap (rank g) z) in
      sym (ap (spent o (pixels_of g) (λ i. e (level_at g i)) (rank g a)) n)
  by_places e a (suc d) h =
      let ih = by_places e a d (omega arith) in
      elim (cases_Bool (ltb 0 (pixels_at g (a + d)))) [ inl t ↦ some ih t | inr f ↦ none ih f ]
    where
      s : a + suc d ≡ suc (a + d)
      s = omega arith

      up : rank g a ≤ rank g (a + d)
      up = rank_mono g a d

      Before : Type 0
      Before = costs o g e a d ≡ spent o (pixels_of g) (λ i. e (level_at g i)) (rank g a) (rank g (a + d) - rank g a)

      some : Before → ltb 0 (pixels_at g (a + d)) ≡ true → o.join (charged o (pixels_at g (a + d)) (e (a + d))) (costs o g e a d) ≡ spent o (pixels_of g) (λ i. e (level_at g i)) (rank g a) (rank g (a + suc d) - rank g a)
      some ih t =
          let n : rank g (a + suc d) - rank g a ≡ suc (rank g (a + d) - rank g a) = omega (arith, up, ap (rank g) s, rank_yes g (a + d) t) in
          let k : rank g a + (rank g (a + d) - rank g a) ≡ rank g (a + d) = omega (arith, up) in
          let l : level_at g (rank g a + (rank g (a + d) - rank g a)) ≡ a + d = ap (level_at g) k ∙ level_at_rank g (a + d) (omega arith) t in
          ap₂ (λ (x y : C). o.join x y)
          (cond-true _ (o.charge (pixels_at g (a + d)) (e (a + d))) o.neutral t ∙ ap (λ (x : ℕ). o.charge (pixels_at g x) (e x)) (sym l))
          ih
          ∙ sym (ap (spent o (pixels_of g) (λ i. e (level_at g i)) (rank g a)) n)

      none : Before → ltb 0 (pixels_at g (a + d)) ≡ false → o.join (charged o (pixels_at g (a + d)) (e (a + d))) (costs o g e a d) ≡ spent o (pixels_of g) (λ i. e (level_at g i)) (rank g a) (rank g (a + suc d) - rank g a)
      none ih f =
          let n : rank g (a + suc d) - rank g a ≡ rank g (a + d) - rank g a = omega (arith, up, ap (rank g) s, rank_no g (a + d) f) in
          ap₂ (λ (x y : C). o.join x y) (cond-false _ (o.charge (pixels_at g (a + d)) (e (a + d))) o.neutral f) ih
          ∙ joins_neutral o L _
          ∙ sym (ap (spent o (pixels_of g) (λ i. e (level_at g i)) (rank g a)) n)

  -- a run, and all levels
  pub run_by_places : Sound g → (e : ℕ → ℕ) (i d : ℕ) → 0 < d → i + d ≤ counted_levels g →
      costs o g e (level_at g i) (suc (level_at g (i + d - 1)) - level_at g i) ≡ spent o (pixels_of g) (λ k. e (level_at g k)) i d
  run_by_places S e i d pos h =
      let a = at g S i (omega arith) in
      let b = at g S (i + d - 1) (omega arith) in
      let up = not_falling g S i (i + d - 1) (omega arith) (omega arith) in
      let whole : level_at g i + (suc (level_at g (i + d - 1)) - level_at g i) ≡ suc (level_at g (i + d - 1)) = omega arith in
      let past = rank_past g S (i + d - 1) (omega arith) in
      let n : rank g (level_at g i + (suc (level_at g (i + d - 1)) - level_at g i)) - rank g (level_at g i) ≡ d = omega (arith, ap (rank g) whole, past, a.back) in
      by_places e (level_at g i) (suc (level_at g (i + d - 1)) - level_at g i) (omega (arith, b.level))
      ∙ ap₂ (λ (x y : ℕ). spent o (pixels_of g) (λ k. e (level_at g k)) x y) a.back n

  pub all_by_places : Sound g → (e : ℕ → ℕ) → costs o g e 0 g.levels ≡ spent o (pixels_of g) (λ k. e (level_at g k)) 0 (counted_levels g)
  all_by_places S e =
      let z : 0 + g.levels ≡ g.levels = omega arith in
      let n : rank g (0 + g.levels) - rank g 0 ≡ counted_levels g = omega (arith, ap (rank g) z, rank_none g, rank_all g S) in
      by_places e 0 g.levels (omega arith)
      ∙ ap₂ (λ (x y : ℕ). spent o (pixels_of g) (λ k. e (level_at g k)) x y) (rank_none g) n
