-- A layer keeps the laws of the measure below it: shown once, of any change of the error that rises with
-- the error, leaves none where there was none, and fits.
use Rattle.std.specs.Prelude.{◌≡◌, ℕ, ◌-◌, ◌*◌, ◌^◌, ◌<◌, ◌≤◌, min, List}
use Rattle.std.proofs.Common.{ap, ap₂, ◌∙◌, inl, inr, arith, mul-le-mul_left}
use Rattle.std.proofs.lemmas.Bool.{cases_lt}
use Rattle.pricing.specs.Errors.{Fair, SameErrors}
use Rattle.pricing.specs.Measures.{weight_at, weighed, allowed, capped}

-- what a layer makes of the error e of showing the level k
pub record Change (φ : ℕ → ℕ → ℕ) : Type 0 where
  pub rises : (k d e : ℕ) → d ≤ e → φ k d ≤ φ k e
  pub none : (k : ℕ) → φ k 0 ≡ 0
  pub fits : (k e : ℕ) → e < 2 ^ 32 → φ k e < 2 ^ 32

pub layer_fair : (φ : ℕ → ℕ → ℕ) (error : ℕ → ℕ → ℕ) → Change φ → Fair error → Fair (λ k r. φ k (error k r))
layer_fair φ error C F = record {
  fits = (λ k r a b. C.fits k _ (F.fits k r a b));
  own = (λ k a. ap (φ k) (F.own k a) ∙ C.none k);
  away = (λ k r s a b h. C.rises k _ _ (F.away k r s a b h));
  crossing = (λ k j r s a b h l better. C.rises j _ _ (F.crossing k j r s a b h l (lower k s r better)));
}
  where
    lower : (k s r : ℕ) → φ k (error k s) < φ k (error k r) → error k s < error k r
    lower k s r h = elim (cases_lt (error k s) (error k r)) [ inl l ↦ l | inr l ↦ absurd (omega (arith, C.rises k _ _ l)) ]

-- a layer's meaning changes no more than that of the measure below it
pub layer_same : (φ : ℕ → ℕ → ℕ) (error other : ℕ → ℕ → ℕ) → SameErrors error other → SameErrors (λ k r. φ k (error k r)) (λ k r. φ k (other k r))
layer_same φ error other S k r a b = ap (φ k) (S k r a b)

weigh : List ℕ → ℕ → ℕ → ℕ
weigh weights k e = min (weight_at weights k * e) 4294967295

weigh_change : (weights : List ℕ) → Change (weigh weights)
unfolding weigh
weigh_change weights = record {
  rises = (λ k d e h. omega (arith, mul-le-mul_left (weight_at weights k) h));
  none = (λ k. omega arith);
  fits = (λ k e h. omega arith);
}

pub weighed_fair : (weights : List ℕ) (error : ℕ → ℕ → ℕ) → Fair error → Fair (weighed weights error)
unfolding weigh
weighed_fair weights error F = layer_fair (weigh weights) error (weigh_change weights) F

pub weighed_same : (weights : List ℕ) (error other : ℕ → ℕ → ℕ) → SameErrors error other → SameErrors (weighed weights error) (weighed weights other)
unfolding weigh
weighed_same weights error other S = layer_same (weigh weights) error other S

pub allowed_fair : (t : ℕ) (error : ℕ → ℕ → ℕ) → Fair error → Fair (allowed t error)
allowed_fair t error F = layer_fair (λ _ e. e - t) error (record { rises = (λ k d e h. omega arith); none = (λ k. omega arith); fits = (λ k e h. omega arith) }) F

pub capped_fair : (t : ℕ) (error : ℕ → ℕ → ℕ) → Fair error → Fair (capped t error)
capped_fair t error F = layer_fair (λ _ e. min e t) error (record { rises = (λ k d e h. omega arith); none = (λ k. omega arith); fits = (λ k e h. omega arith) }) F

-- the product of a weight and an error that were read
pub weighed_is : (weights : List ℕ) (error : ℕ → ℕ → ℕ) (k r j w x e v : ℕ) →
    j ≡ k → w ≡ weight_at weights j → x ≡ w → e ≡ error k r → v ≡ min (x * e) 4294967295 → v ≡ weighed weights error k r
weighed_is weights error k r j w x e v p q s t u = u ∙ ap₂ (λ (a b : ℕ). min (a * b) 4294967295) (s ∙ q ∙ ap (weight_at weights) p) t
