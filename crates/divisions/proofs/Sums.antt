-- Under Total the tally of a map is the plain sum of pixels times error.
use Rattle.std.proofs.Common.{◌≡◌, ℕ, zero, suc, ◌+◌, ◌*◌, ◌^◌, ◌<◌, ◌≤◌, cond, ltb, sym, refl, ap, ◌∙◌, ap₂, inl, inr, zero-mul, arith}
use Rattle.std.proofs.lemmas.Bool.{cases_lt, cond-true, cond_both, lt-ltb, ltb-true}
use Rattle.counting.specs.Ledger.{Ledger, pixels_at}
use Rattle.pricing.specs.Errors.{Fair}
use Rattle.pricing.specs.Kinds.{total_ops}
use Rattle.pricing.specs.Plain.{plain}
use Rattle.pricing.specs.Prices.{Counted, map_tally}
use Rattle.pricing.specs.declared.tallies.total.Total.{Total}
use Rattle.pricing.proofs.PlainSums.{costs_plain}
use Rattle.counting.specs.Sound.{Sound}
use Rattle.divisions.proofs.Costs.{costs_ext}

-- only the numbers at counted levels matter
plain_ext : (g : Ledger) (e e' : ℕ → ℕ) (a d : ℕ) → ((k : ℕ) → a ≤ k → k < a + d → Counted g k → e k ≡ e' k) → plain g e a d ≡ plain g e' a d
unfolding plain
plain_ext g e e' a zero h = refl
plain_ext g e e' a (suc d) h =
    ap₂ (λ (x y : ℕ). x + y)
    (elim (cases_lt 0 (pixels_at g (a + d))) [
      | inl some ↦ ap (λ (x : ℕ). pixels_at g (a + d) * x) (h (a + d) (omega arith) (omega arith) some)
      | inr none ↦ (let z : pixels_at g (a + d) ≡ 0 = omega arith in rw z (zero-mul _ ∙ sym (zero-mul _)))
    ])
    (plain_ext g e e' a d (λ k x y. h k x (omega arith)))

-- By an error that is 0 at levels without pixels, whatever the map does there.
pub plain_sums : (error : ℕ → ℕ → ℕ) (g : Ledger) → Fair error → Sound g → (f : ℕ → ℕ) → ((l : ℕ) → l < g.levels → Counted g l → f l < 1024) →
    (map_tally total_ops error g f).sum ≡ plain g (λ k. error k (f k)) 0 g.levels
plain_sums error g F S f low =
    ap (λ (t : Total). t.sum) (costs_ext total_ops g _ e 0 g.levels (λ k _ _ c. same k c))
    ∙ costs_plain g e 0 g.levels (omega (arith, S.fits)) (λ k _ h. small k (omega arith))
    ∙ sym (plain_ext g _ e 0 g.levels (λ k _ _ c. same k c))
  where
    e : ℕ → ℕ
    e k = cond (ltb 0 (pixels_at g k)) (error k (f k)) 0

    same : (k : ℕ) → Counted g k → error k (f k) ≡ e k
    same k c = sym (cond-true _ (error k (f k)) 0 (lt-ltb 0 (pixels_at g k) c))

    small : (k : ℕ) → k < g.levels → e k < 2 ^ 32
    small k h = cond_both (ltb 0 (pixels_at g k)) (error k (f k)) 0 (λ x. x < 2 ^ 32)
        (λ t. F.fits k (f k) (omega (arith, S.range.1)) (low k h (ltb-true 0 (pixels_at g k) t))) (λ _. omega arith)
