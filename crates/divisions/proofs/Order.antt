-- The order of tallies, and the highest number of a range at which something is least: that there is one, and only one.
use Rattle.std.proofs.Common.{◌≡◌, ℕ, zero, suc, ◌+◌, ◌<◌, ◌≤◌, Bool, true, false, cond, sym, refl, ◌∙◌, inl, inr, arith}
use Rattle.std.proofs.lemmas.Bool.{cond_both, cases_eq, cases_lt, both_ways}
use Rattle.pricing.specs.Tallies.{Ops, Laws, NotAbove}
use Rattle.divisions.specs.Divisions.{highest_least}

-- the number lies in its range, and depends on t only there
pub least_in : {C : Type 0} (o : Ops C) (t : ℕ → C) (lo d : ℕ) → (lo ≤ highest_least o t lo d) × (highest_least o t lo d ≤ lo + d)
unfolding highest_least
least_in o t lo zero = omega arith
least_in o t lo (suc d) =
    let ih = least_in o t lo d in
    cond_both (o.not_above (t (lo + suc d)) (t (highest_least o t lo d))) (lo + suc d) (highest_least o t lo d)
    (λ b. (lo ≤ b) × (b ≤ lo + suc d)) (λ _. omega arith) (λ _. omega arith)

pub least_ext : {C : Type 0} (o : Ops C) (t u : ℕ → C) (lo d : ℕ) → ((k : ℕ) → lo ≤ k → k ≤ lo + d → t k ≡ u k) → highest_least o t lo d ≡ highest_least o u lo d
unfolding highest_least
least_ext o t u lo zero e = refl
least_ext o t u lo (suc d) e =
    let w = least_in o t lo d in
    let ih = least_ext o t u lo d (λ k a b. e k a (omega arith)) in
    let top = e (lo + suc d) (omega arith) (omega arith) in
    let low = e (highest_least o t lo d) w.0 (omega arith) in
    cc

module _ {C : Type 0} (o : Ops C) (L : Laws o) where
  pub same_le : (p : C) → NotAbove o p p
  same_le p = elim (L.total p p) [ inl h ↦ h | inr h ↦ h ]

  pub join_le : (p p' q q' : C) → NotAbove o p p' → NotAbove o q q' → NotAbove o (o.join p q) (o.join p' q')
  join_le p p' q q' h k =
      L.transitive _ _ _ (L.monotone p p' q h)
      (rw (L.commutative p' q, L.commutative p' q') (L.monotone q q' p' k))

  pub joins_neutral : (p : C) → o.join o.neutral p ≡ p
  joins_neutral p = L.commutative o.neutral p ∙ L.neutral_joins p

  pub regroup : (a a' x y w : C) → a ≡ a' → x ≡ o.join y w → o.join a x ≡ o.join (o.join a' y) w
  regroup a a' x y w p q = cc (L.associative a' y w)

  pub from_le : (p p' q : C) → p ≡ p' → NotAbove o p' q → NotAbove o p q
  from_le p p' q e h = rw e h

  pub to_le : (p q q' : C) → q' ≡ q → NotAbove o p q' → NotAbove o p q
  to_le p q q' e h = rw (← e) h

  -- the test failed: the order is the other way
  pub other_way : (p q : C) → o.not_above p q ≡ false → NotAbove o q p
  other_way p q e = elim (L.total p q) [ inl h ↦ absurd (both_ways _ e h) | inr h ↦ h ]

  pub least_le : (t : ℕ → C) (lo d r : ℕ) → lo ≤ r → r ≤ lo + d → NotAbove o (t (highest_least o t lo d)) (t r)
  unfolding highest_least
  least_le t lo zero r h k = let e : r ≡ lo = omega arith in rw e (same_le (t lo))
  least_le t lo (suc d) r h k =
      cond_both (o.not_above (t (lo + suc d)) (t (highest_least o t lo d))) (lo + suc d) (highest_least o t lo d)
      (λ b. NotAbove o (t b) (t r))
      (λ e. elim (cases_eq r (lo + suc d)) [ inl q ↦ rw q (same_le _) | inr q ↦ L.transitive _ _ _ e (least_le t lo d r h (omega arith)) ])
      (λ e. elim (cases_eq r (lo + suc d)) [ inl q ↦ rw q (other_way _ _ e) | inr q ↦ least_le t lo d r h (omega arith) ])

  -- the highest of those at which t is least
  pub least_highest : (t : ℕ → C) (lo d r : ℕ) → lo ≤ r → r ≤ lo + d → NotAbove o (t r) (t (highest_least o t lo d)) → r ≤ highest_least o t lo d
  unfolding highest_least
  least_highest t lo zero r a b h = omega arith
  least_highest t lo (suc d) r a b h =
      cond_both (o.not_above (t (lo + suc d)) (t (highest_least o t lo d))) (lo + suc d) (highest_least o t lo d)
      (λ x. NotAbove o (t r) (t x) → r ≤ x)
      (λ e _. b)
      (λ e q. elim (cases_eq r (lo + suc d)) [ inl same ↦ absurd (both_ways _ e (rw same at q)) | inr apart ↦ least_highest t lo d r a (omega arith) q ])
      h

  -- what is as low as any of the range, with all above it higher, is that number
  pub least_unique : (t : ℕ → C) (lo d r : ℕ) → lo ≤ r → r ≤ lo + d →
      ((k : ℕ) → lo ≤ k → k ≤ lo + d → NotAbove o (t r) (t k)) → ((k : ℕ) → r < k → k ≤ lo + d → NotAbove o (t k) (t r) → ⊥) → r ≡ highest_least o t lo d
  least_unique t lo d r a b low high =
      let w = least_in o t lo d in
      let up = least_highest t lo d r a b (low _ w.0 w.1) in
      elim (cases_lt r (highest_least o t lo d)) [
        | inl l ↦ absurd (high _ l w.1 (least_le t lo d r a b))
        | inr l ↦ omega arith
      ]

  -- the same found from above: one more number below the range is taken only where it is lower
  pub least_from_above : (t : ℕ → C) (lo d : ℕ) →
      highest_least o t lo (suc d) ≡ cond (o.not_above (t (highest_least o t (suc lo) d)) (t lo)) (highest_least o t (suc lo) d) lo
  least_from_above t lo d =
      let b = highest_least o t (suc lo) d in
      let w = least_in o t (suc lo) d in
      cond_both (o.not_above (t b) (t lo)) b lo (λ x. highest_least o t lo (suc d) ≡ x)
      (λ e. sym (least_unique t lo (suc d) b (omega arith) (omega arith)
      (λ k p q. elim (cases_eq k lo) [ inl s ↦ rw s e | inr s ↦ least_le t (suc lo) d k (omega arith) (omega arith) ])
      (λ k p q n. absurd (omega (arith, least_highest t (suc lo) d k (omega arith) (omega arith) n)))))
      (λ e. sym (least_unique t lo (suc d) lo (omega arith) (omega arith)
      (λ k p q. elim (cases_eq k lo) [ inl s ↦ rw s (same_le _) | inr s ↦ L.transitive _ _ _ (other_way _ _ e) (least_le t (suc lo) d k (omega arith) (omega arith)) ])
      (λ k p q n. both_ways _ e (L.transitive _ _ _ (least_le t (suc lo) d k (omega arith) (omega arith)) n))))

  -- The turn of a loop that goes down and keeps the lowest so far, its value in a cell and its place in a link:
  -- only what is strictly lower replaces it.
  pub kept_lowest : (t : ℕ → C) (i d link link' : ℕ) (cell cell' x : C) (r : Bool) → link ≡ highest_least o t (suc i) d → cell ≡ t link → x ≡ t i → r ≡ o.not_above cell x →
      link' ≡ cond r link i → cell' ≡ cond r cell x → (link' ≡ highest_least o t i (suc d)) × (cell' ≡ t link')
  kept_lowest t i d link link' cell cell' x r e1 e2 e3 e4 e5 e6 =
      let step = least_from_above t i d in
      (cc, both r e5 e6)
    where
      both : (r : Bool) → link' ≡ cond r link i → cell' ≡ cond r cell x → cell' ≡ t link'
      both true p q = cc (e2)
      both false p q = cc (e3)
