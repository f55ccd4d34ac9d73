-- A range has one price, and under Total it is a plain sum.
use Rattle.std.proofs.Common.{◌≡◌, ℕ, suc, ◌-◌, ◌<◌, ◌≤◌, Some, None, Option, sym, refl, ap, ◌∙◌, ap₂, inl, inr, arith}
use Rattle.std.proofs.lemmas.Bool.{cases_order}
use Rattle.counting.specs.Ledger.{Ledger}
use Rattle.pricing.specs.Tallies.{Ops, Laws}
use Rattle.pricing.specs.Errors.{SameErrors}
use Rattle.pricing.specs.Prices.{InSpan, Priceless, Priced, PricedAt, range_tally}
use Rattle.pricing.specs.Statements.{PricesArePlain}
use Rattle.pricing.specs.declared.tallies.total.Total.{Total}
use Rattle.pricing.proofs.Costs.{range_same}
use Rattle.pricing.proofs.PlainSums.{costs_plain}

-- a range with a price is no range without one
never_both : {C : Type 0} (o : Ops C) (error : ℕ → ℕ → ℕ) (g : Ledger) (a b r : ℕ) (t : C) → PricedAt o error g a b r t → Priceless g a b → ⊥
never_both o error g a b r t P (inl h) = omega (arith, P.spans.0.1, P.spans.0.2, P.spans.1.1, P.spans.1.2)
never_both o error g a b r t P (inr (inl h)) = omega (arith, P.within)
never_both o error g a b r t P (inr (inr none)) =
    none P.spans.0.0 P.spans.0.1 (omega (arith, P.spans.0.2, P.spans.1.1, P.spans.1.2)) P.spans.0.3

module _ {C : Type 0} (o : Ops C) (L : Laws o) (error other : ℕ → ℕ → ℕ) (g : Ledger) (a b : ℕ) (same : SameErrors error other) (kept : g.levels ≤ 1024) where
  ordered : (q : ℕ) → InSpan g a b q → (a ≤ b) × (q ≤ b)
  ordered q Q = omega (arith, Q.0.1, Q.0.2, Q.1.1, Q.1.2)

  -- the tally of a representative under the other error
  tally_same : (q : ℕ) → b < g.levels → InSpan g a b q → range_tally o error g a b q ≡ range_tally o other g a b q
  tally_same q w Q = range_same o error other g a b q same (ordered q Q).0 (omega arith) (omega (arith, (ordered q Q).1))

  module _ (r s : ℕ) (t u : C) (P : PricedAt o error g a b r t) (Q : PricedAt o other g a b s u) where
    same_tally : t ≡ u
    same_tally = L.antisymmetric t u
        (rw (Q.tally ∙ sym (tally_same s P.within Q.spans)) (P.least s Q.spans))
        (rw (P.tally ∙ tally_same r P.within P.spans) (Q.least r P.spans))

    same_level : r ≡ s
    same_level = elim (cases_order r s) [
      | inl e ↦ e
      | inr f ↦ elim f [
        | inl h ↦ absurd (P.highest s Q.spans h (tally_same s P.within Q.spans ∙ sym Q.tally ∙ sym same_tally))
        | inr h ↦ absurd (Q.highest r P.spans h (sym (tally_same r P.within P.spans) ∙ sym P.tally ∙ same_tally))
      ]
    ]

  pub one_price : (p q : Option (ℕ × C)) → Priced o error g a b p → Priced o other g a b q → p ≡ q
  one_price None None P Q = refl
  one_price None (Some y) P Q = absurd (never_both o other g a b y.0 y.1 Q P)
  one_price (Some x) None P Q = absurd (never_both o error g a b x.0 x.1 P Q)
  one_price (Some x) (Some y) P Q =
      ap₂ (λ (r : ℕ) (t : C). Some (r, t)) (same_level x.0 y.0 x.1 y.1 P Q) (same_tally x.0 y.0 x.1 y.1 P Q)

pub plain_price : PricesArePlain
plain_price error g a b r t F kept few P =
    ap (λ (x : Total). x.sum) P.tally
    ∙ costs_plain g (λ k. error k r) a (suc b - a) few (λ k f h.
    F.fits k r (omega (arith, P.within)) (omega (arith, P.within, P.spans.1.1, P.spans.1.2)))
