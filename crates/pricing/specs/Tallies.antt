-- What a kind of tally is: four operations, and the laws that they keep.
use Rattle.std.specs.Prelude.{◌≡◌, ℕ, ◌+◌, ◌^◌, ◌<◌, ◌≤◌, Bool, true, ◌⊎◌}

-- the value of no pixels, two values put together, the order, and what n pixels cost that are each shown with the error e
pub record Ops (C : Type 0) : Type 0 where
  pub neutral : C
  pub join : C → C → C
  pub not_above : C → C → Bool
  pub charge : ℕ → ℕ → C

abbrev pub NotAbove : {C : Type 0} → Ops C → C → C → Type 0
NotAbove o p q = o.not_above p q ≡ true

-- Charges are asked about only for numbers of pixels and errors below 2 ^ 32.
pub record Laws {C : Type 0} (o : Ops C) : Type 0 where
  pub total : (p q : C) → NotAbove o p q ⊎ NotAbove o q p
  pub antisymmetric : (p q : C) → NotAbove o p q → NotAbove o q p → p ≡ q
  pub transitive : (p q r : C) → NotAbove o p q → NotAbove o q r → NotAbove o p r
  pub associative : (p q r : C) → o.join (o.join p q) r ≡ o.join p (o.join q r)
  pub commutative : (p q : C) → o.join p q ≡ o.join q p
  pub neutral_joins : (p : C) → o.join p o.neutral ≡ p
  pub neutral_lowest : (p : C) → NotAbove o o.neutral p
  pub monotone : (p q t : C) → NotAbove o p q → NotAbove o (o.join p t) (o.join q t)
  pub no_pixels : (e : ℕ) → e < 2 ^ 32 → o.charge 0 e ≡ o.neutral
  pub no_error : (n : ℕ) → n < 2 ^ 32 → o.charge n 0 ≡ o.neutral
  pub additive : (m n e : ℕ) → m + n < 2 ^ 32 → e < 2 ^ 32 → o.charge (m + n) e ≡ o.join (o.charge m e) (o.charge n e)
  pub rising : (n d e : ℕ) → n < 2 ^ 32 → d ≤ e → e < 2 ^ 32 → NotAbove o (o.charge n d) (o.charge n e)
