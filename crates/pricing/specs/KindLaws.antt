-- The laws of the kinds of tally.
use Rattle.std.specs.Prelude.{◌≡◌, ℕ, ◌*◌, ◌^◌, ◌<◌}
use Rattle.std.proofs.Common.{ap₂, ◌∙◌, inl, inr, arith, rules, mul-le-mul_left}
use mathlib.Core.HLevel.{is_prop→PathP}
use Rattle.std.proofs.Math.Bridge.{le_prop}
use Rattle.std.proofs.lemmas.Bool.{leb-true, le-leb, cases_lt}
use Rattle.pricing.specs.Tallies.{Laws}
use Rattle.pricing.specs.Kinds.{held, total_ops, worst_ops}
use Rattle.pricing.specs.declared.tallies.total.Total.{Total}

-- two totals are equal when their sums are: the bound has one proof
pub same_total : (p q : Total) → p.sum ≡ q.sum → p ≡ q
same_total p q e = λ i. record { sum = e i; fits = is_prop→PathP (λ j. e j < 2 ^ 64) (λ j. le_prop) p.fits q.fits i }

-- a number that fits is held as it is
pub held_is : (p : Total) (n : ℕ) → p.sum ≡ n → p ≡ held n
held_is p n e = same_total p (held n) (omega (arith, p.fits))

pub product_is : (p : Total) (m n x y : ℕ) → p.sum ≡ x * y → x ≡ m → y ≡ n → p ≡ held (m * n)
product_is p m n x y e a b = held_is p (m * n) (e ∙ ap₂ (λ (u v : ℕ). u * v) a b)

pub total_laws : Laws total_ops
total_laws = record {
  total = (λ p q. elim (cases_lt p.sum q.sum) [ inl h ↦ inl (le-leb _ _ (omega arith)) | inr h ↦ inr (le-leb _ _ h) ]);
  antisymmetric = (λ p q h k. same_total p q (omega (arith, leb-true p.sum q.sum h, leb-true q.sum p.sum k)));
  transitive = (λ p q r h k. le-leb _ _ (omega (arith, leb-true p.sum q.sum h, leb-true q.sum r.sum k)));
  associative = (λ p q r. same_total _ _ (omega arith));
  commutative = (λ p q. same_total _ _ (omega arith));
  neutral_joins = (λ p. same_total _ _ (omega (arith, p.fits)));
  neutral_lowest = (λ p. le-leb _ _ (omega arith));
  monotone = (λ p q t h. le-leb _ _ (omega (arith, leb-true p.sum q.sum h)));
  no_pixels = (λ e _. same_total _ _ (omega arith));
  no_error = (λ n _. same_total _ _ (omega arith));
  additive = (λ m n e _ _. same_total _ _ (omega arith));
  rising = (λ n d e _ h _. le-leb _ _ (omega (arith, mul-le-mul_left n h)));
}

pub worst_laws : Laws worst_ops
worst_laws = search rules
