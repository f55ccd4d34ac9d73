-- The cost of a range of levels, one level at a time, and what it depends on.
use Rattle.std.proofs.Common.{◌≡◌, ℕ, zero, suc, ◌+◌, ◌-◌, ◌<◌, ◌≤◌, min, ltb, sym, refl, ap, ◌∙◌, ap₂, add-one, arith}
use Rattle.std.proofs.lemmas.Bool.{lt-ltb, le-ltb, cond-true, cond-false}
use Rattle.counting.specs.Ledger.{Ledger, pixels_at}
use Rattle.pricing.specs.Tallies.{Ops, Laws}
use Rattle.pricing.specs.Errors.{SameErrors}
use Rattle.pricing.specs.Prices.{charged, costs, range_tally}

-- no levels cost nothing
pub costs_none : {C : Type 0} (o : Ops C) (g : Ledger) (e : ℕ → ℕ) (a : ℕ) → costs o g e a 0 ≡ o.neutral
unfolding costs
costs_none o g e a = refl

-- one level more
costs_next : {C : Type 0} (o : Ops C) (g : Ledger) (e : ℕ → ℕ) (a d : ℕ) → costs o g e a (d + 1) ≡ o.join (charged o (pixels_at g (a + d)) (e (a + d))) (costs o g e a d)
unfolding costs
costs_next o g e a d = rw add-one refl

-- one level more that has pixels
pub costs_counted : {C : Type 0} (o : Ops C) (g : Ledger) (e : ℕ → ℕ) (a d n x : ℕ) (c t u : C) →
    n ≡ pixels_at g (a + d) → 0 < n → x ≡ e (a + d) → c ≡ o.charge n x → t ≡ costs o g e a d → u ≡ o.join c t → u ≡ costs o g e a (d + 1)
costs_counted {C} o g e a d n x c t u is some ex ch so joined =
    joined
    ∙ ap₂ (λ (p q : C). o.join p q) (ch ∙ ap₂ (λ (m y : ℕ). o.charge m y) is ex ∙ sym (cond-true (ltb 0 (pixels_at g (a + d))) _ _ (lt-ltb 0 (pixels_at g (a + d)) (omega arith)))) so
    ∙ sym (costs_next o g e a d)

-- one level more that has none
pub costs_uncounted : {C : Type 0} (o : Ops C) → Laws o → (g : Ledger) (e : ℕ → ℕ) (a d n : ℕ) (t : C) →
    n ≡ pixels_at g (a + d) → n ≤ 0 → t ≡ costs o g e a d → t ≡ costs o g e a (d + 1)
costs_uncounted {C} o L g e a d n t is none so =
    so
    ∙ sym (L.commutative o.neutral (costs o g e a d) ∙ L.neutral_joins (costs o g e a d))
    ∙ ap (λ (p : C). o.join p (costs o g e a d)) (sym (cond-false (ltb 0 (pixels_at g (a + d))) _ _ (le-ltb 0 (pixels_at g (a + d)) (omega arith))))
    ∙ sym (costs_next o g e a d)

-- costs depend on no more than the errors of the levels of the range
pub costs_same : {C : Type 0} (o : Ops C) (g : Ledger) (e f : ℕ → ℕ) (a d : ℕ) → ((k : ℕ) → k < a + d → e k ≡ f k) → costs o g e a d ≡ costs o g f a d
unfolding costs
costs_same o g e f a zero same = refl
costs_same {C} o g e f a (suc d) same =
    ap₂ (λ (x : ℕ) (y : C). o.join (charged o (pixels_at g (a + d)) x) y) (same (a + d) (omega arith)) (costs_same o g e f a d (λ k h. same k (omega arith)))

pub range_same : {C : Type 0} (o : Ops C) (error other : ℕ → ℕ → ℕ) (g : Ledger) (a b r : ℕ) → SameErrors error other → a ≤ b → b < 1024 → r < 1024 →
    range_tally o error g a b r ≡ range_tally o other g a b r
range_same o error other g a b r same h w v = costs_same o g (λ k. error k r) (λ k. other k r) a (suc b - a) (λ k l. same k r (omega arith) v)

-- the answer of a measure that was asked before, at levels
pub asked_is : (error other : ℕ → ℕ → ℕ) (k r x : ℕ) → SameErrors error other → k < 1024 → r < 1024 → x ≡ error (min k 1023) (min r 1023) → x ≡ other k r
asked_is error other k r x same h l e =
    let at_k : min k 1023 ≡ k = omega arith in
    let at_r : min r 1023 ≡ r = omega arith in
    e ∙ ap₂ error at_k at_r ∙ same k r h l

pub same_again : (error other third : ℕ → ℕ → ℕ) → SameErrors error other → SameErrors other third → SameErrors error third
same_again error other third p q k r h l = p k r h l ∙ q k r h l
