-- The first place at which something holds, how many numbers pass a test, and that no more pass than a list has, where the test is to be in it.
use Rattle.std.proofs.Common.{◌≡◌, ℕ, zero, suc, ◌<◌, ◌≤◌, Bool, true, false, cond, ◌||◌, eqb, ◌⊎◌, List, [], ◌∷◌, length, get_or, sym, refl, inl, inr, arith}
use Rattle.std.specs.List.{ContainsAt}
use Rattle.std.proofs.lemmas.Bool.{cases_eq, cond_both, eqb-true, true≢false, eq-eqb, ne_eqb, or_left, or_right}

module _ (A B : ℕ → Type 0) where
  abbrev pub First : ℕ → Type 0
  First j = ((k : ℕ) → k < j → A k) ⊎ ((i : ℕ) × (i < j) × B i × ((k : ℕ) → k < i → A k))

  pub first_or_all : ((k : ℕ) → A k ⊎ B k) → (j : ℕ) → First j
  first_or_all dec zero = inl (λ k h. absurd (omega arith))
  first_or_all dec (suc j) = elim (first_or_all dec j) [ inl all ↦ elim (dec j) [ inl a ↦ inl (λ k h. elim (cases_eq k j) [ inl e ↦ rw e a | inr e ↦ all k (omega arith) ]) | inr b ↦ inr (j, omega arith, b, all) ] | inr p ↦ inr (p.0, omega arith, p.2, p.3) ]

-- how many numbers below b pass the test
abbrev pub passing : (ℕ → Bool) → ℕ → ℕ
passing s zero = 0
passing s (suc b) = cond (s b) (suc (passing s b)) (passing s b)

abbrev pub member : List ℕ → ℕ → Bool
member [] r = false
member (x ∷ xs) r = eqb r x || member xs r

pub member_true : (xs : List ℕ) (r : ℕ) → ContainsAt xs r → member xs r ≡ true
member_true xs r h = go xs h.0 h.1 (h.2 0)
  where
    go : (xs : List ℕ) (k : ℕ) → k < length xs → get_or xs k 0 ≡ r → member xs r ≡ true
    go [] k l e = absurd (omega arith)
    go (x ∷ xs) zero l e = or_left _ _ (eq-eqb r x (sym e))
    go (x ∷ xs) (suc k) l e = or_right _ _ (go xs k (omega arith) e)

pub passing_le : (s : ℕ → Bool) (b : ℕ) → passing s b ≤ passing s (suc b)
passing_le s b = cond_both (s b) (suc (passing s b)) (passing s b) (λ x. passing s b ≤ x) (λ _. omega arith) (λ _. omega arith)

-- one more number passes at most, and none below it
step_at : (t u : Bool) (a c : ℕ) → (t ≡ true → a ≤ c) → a ≤ suc c → cond (t || u) (suc a) a ≤ suc (cond u (suc c) c)
step_at true true a c h k = omega (arith, h refl)
step_at true false a c h k = omega (arith, h refl)
step_at false true a c h k = omega arith
step_at false false a c h k = k

step_below : (t u : Bool) (a c : ℕ) → t ≡ false → a ≤ c → cond (t || u) (suc a) a ≤ cond u (suc c) c
step_below true u a c h k = absurd (true≢false h)
step_below false true a c h k = omega arith
step_below false false a c h k = k

one_passing : (s : ℕ → Bool) (x b : ℕ) → (b ≤ x → passing (λ r. eqb r x || s r) b ≤ passing s b) × (passing (λ r. eqb r x || s r) b ≤ suc (passing s b))
one_passing s x zero = omega arith
one_passing s x (suc b) =
    let ih = one_passing s x b in (
      λ h. step_below (eqb b x) (s b) _ _ (ne_eqb b x (λ e. omega arith)) (ih.0 (omega arith)),
      step_at (eqb b x) (s b) _ _ (λ e. ih.0 (omega (arith, eqb-true b x e))) ih.1,
    )

none_passing : (b : ℕ) → passing (λ _. false) b ≤ 0
none_passing zero = omega arith
none_passing (suc b) = none_passing b

pub passing_members : (xs : List ℕ) (b : ℕ) → passing (member xs) b ≤ length xs
passing_members [] b = none_passing b
passing_members (x ∷ xs) b = omega (arith, (one_passing (member xs) x b).1, passing_members xs b)
