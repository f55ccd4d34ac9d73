-- The laws of the difference and of its square.
use Rattle.std.specs.Prelude.{◌≡◌, ℕ, ◌*◌, ◌<◌, ◌≤◌, refl}
use Rattle.std.proofs.Common.{inl, inr, arith, rules}
use Rattle.std.proofs.lemmas.Nat.{mul-le, mul-lt}
use Rattle.std.proofs.lemmas.Bool.{cases_lt}
use Rattle.pricing.specs.Errors.{Fair}
use Rattle.pricing.specs.Measures.{distance, squared}

pub distance_fair : Fair distance
distance_fair = search rules

nearer : (a b : ℕ) → a * a < b * b → a < b
nearer a b h = elim (cases_lt a b) [ inl l ↦ l | inr l ↦ absurd (omega (arith, mul-le b b a a l l)) ]

square_le : (k r j s : ℕ) → distance k r ≤ distance j s → squared k r ≤ squared j s
square_le k r j s h = mul-le (distance k r) (distance k r) (distance j s) (distance j s) h h

pub squared_fair : Fair squared
squared_fair = record {
  fits = (λ k r a b. omega (arith, mul-lt (distance k r) (distance k r) 1024 1024 (omega arith) (omega arith)));
  own = (λ k _. let e : distance k k ≡ 0 = omega arith in rw e refl);
  away = (λ k r s _ _ h. square_le k s k r (elim h [ inl b ↦ omega arith | inr b ↦ omega arith ]));
  crossing = (λ k j r s _ _ a b h.
      let l = nearer (distance k s) (distance k r) h in
      square_le j s j r (omega arith));
}
