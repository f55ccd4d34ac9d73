-- The level nearest to the mean of a range of pixels, the half taken upwards, has the least sum of squared errors,
-- every higher level has a larger one, and it lies between two counted levels.
use Rattle.std.proofs.Common.{◌≡◌, ℕ, zero, suc, ◌+◌, ◌-◌, ◌*◌, ◌/◌, ◌<◌, ◌≤◌, ◌⊎◌, ap, ap₂, inl, inr, mul-le-mul_left, arith}
use Rattle.std.proofs.lemmas.Bool.{cases_lt}
use Rattle.counting.specs.Ledger.{Ledger, pixels_at}
use Rattle.pricing.specs.Measures.{distance, squared}
use Rattle.pricing.specs.Plain.{plain, pixel_sum, level_sum, square_sum}
use Rattle.pricing.specs.Prices.{Counted}

-- the square of a difference, multiplied out
square_apart : (k r : ℕ) → squared k r + 2 * (k * r) ≡ k * k + r * r
square_apart k r = elim (cases_lt k r) [
  | inl h ↦ (let d : distance k r ≡ r - k = omega arith in let e : k + (r - k) ≡ r = omega arith in expand k (r - k) r (squared k r) (ap₂ (λ (x y : ℕ). x * y) d d) e)
  | inr h ↦ (let d : distance k r ≡ k - r = omega arith in let e : r + (k - r) ≡ k = omega arith in omega (arith, expand r (k - r) k (squared k r) (ap₂ (λ (x y : ℕ). x * y) d d) e))
]
  where
    expand : (low y high x : ℕ) → x ≡ y * y → low + y ≡ high → x + 2 * (low * high) ≡ low * low + high * high
    expand low y high x e f = rw (e, ← f) (omega arith)

module _ (g : Ledger) (a : ℕ) where
  abbrev cost : ℕ → ℕ → ℕ
  cost d r = plain g (λ k. squared k r) a d

  level_cost : (p k r x : ℕ) → x + 2 * (k * r) ≡ k * k + r * r → p * x + 2 * (r * (p * k)) ≡ p * (k * k) + p * 1 * (r * r)
  level_cost p k r x e = omega (arith, ap (λ (y : ℕ). p * y) e)

  -- the cost from the three sums
  pub cost_is : (d r : ℕ) → cost d r + 2 * (r * level_sum g a d) ≡ square_sum g a d + pixel_sum g a d * (r * r)
  unfolding plain
  cost_is zero r = omega arith
  cost_is (suc d) r =
      let k = a + d in
      let here = level_cost (pixels_at g k) k r (squared k r) (square_apart k r) in
      let ih = cost_is d r in
      omega (arith, here, ih)

  -- a counted level from the range that is at most r, or all lie above it
  some_low : (d r : ℕ) → ((k : ℕ) × (a ≤ k) × (k < a + d) × (k ≤ r) × Counted g k) ⊎ ((r + 1) * pixel_sum g a d ≤ level_sum g a d)
  unfolding plain
  some_low zero r = inr (omega arith)
  some_low (suc d) r = elim (some_low d r) [
    | inl f ↦ inl (f.0, f.1, omega (arith, f.2), f.3, f.4)
    | inr h ↦ elim (cases_lt r (a + d)) [
      | inl l ↦ inr (omega (arith, mul-le-mul_left (pixels_at g (a + d)) l))
      | inr l ↦ elim (cases_lt 0 (pixels_at g (a + d))) [
        | inl c ↦ inl (a + d, omega arith, omega arith, l, c)
        | inr c ↦ inr (let z : pixels_at g (a + d) ≡ 0 = omega arith in rw z (omega arith))
      ]
    ]
  ]

  -- a counted level from the range that is at least r, or all lie below it
  some_high : (d r : ℕ) → ((k : ℕ) × (r ≤ k) × (k < a + d) × Counted g k) ⊎ (level_sum g a d + pixel_sum g a d ≤ r * pixel_sum g a d)
  unfolding plain
  some_high zero r = inr (omega arith)
  some_high (suc d) r = elim (some_high d r) [
    | inl f ↦ inl (f.0, f.1, omega (arith, f.2), f.3)
    | inr h ↦ elim (cases_lt (a + d) r) [
      | inl l ↦ inr (omega (arith, mul-le-mul_left (pixels_at g (a + d)) l))
      | inr l ↦ elim (cases_lt 0 (pixels_at g (a + d))) [
        | inl c ↦ inl (a + d, l, omega arith, c)
        | inr c ↦ inr (let z : pixels_at g (a + d) ≡ 0 = omega arith in rw z (omega arith))
      ]
    ]
  ]

  -- no pixels, no counted level
  pub none_counted : (d k : ℕ) → pixel_sum g a d ≡ 0 → a ≤ k → k < a + d → Counted g k → ⊥
  unfolding plain
  none_counted zero k z h l c = omega arith
  none_counted (suc d) k z h l c = elim (cases_lt k (a + d)) [
    | inl m ↦ none_counted d k (omega arith) h m c
    | inr m ↦ (let e : k ≡ a + d = omega arith in let c2 : 0 < pixels_at g (a + d) = rw e at c in omega arith)
  ]

-- r is (2 s + n) / 2 n, rounded down
abbrev pub Nearest : (n s r : ℕ) → Type 0
Nearest n s r = (2 * n * r ≤ 2 * s + n) × (2 * s + n < 2 * n * r + 2 * n)

pub nearest_is : (n s : ℕ) → 0 < n → Nearest n s ((2 * s + n) / (2 * n))
nearest_is n s h = omega arith

-- n pixels whose levels add up to s: the cost at the level nearest to the mean, against the cost at any other
higher_costs : (n s c x q r y : ℕ) → Nearest n s r → 0 < y → c + 2 * (r * s) ≡ q + n * (r * r) → x + 2 * ((r + y) * s) ≡ q + n * ((r + y) * (r + y)) → c < x
higher_costs n s c x q r y N pos e f =
    let ny : n * 1 ≤ n * y = mul-le-mul_left n pos in
    let bound : 2 * s + 1 ≤ 2 * (n * r) + n * y = omega (arith, N.1) in
    omega (arith, mul-le-mul_left y bound)

lower_costs : (n s c x q t y : ℕ) → Nearest n s (t + y) → 0 < y → c + 2 * ((t + y) * s) ≡ q + n * ((t + y) * (t + y)) → x + 2 * (t * s) ≡ q + n * (t * t) → c ≤ x
lower_costs n s c x q t y N pos e f =
    let ny : n * 1 ≤ n * y = mul-le-mul_left n pos in
    let bound : 2 * (n * t) + n * y ≤ 2 * s = omega (arith, N.0) in
    omega (arith, mul-le-mul_left y bound)

module _ (g : Ledger) (a d r : ℕ) (N : Nearest (pixel_sum g a d) (level_sum g a d) r) where
  pub higher : (q : ℕ) → r < q → plain g (λ k. squared k r) a d < plain g (λ k. squared k q) a d
  higher q h =
      let e : r + (q - r) ≡ q = omega arith in
      higher_costs (pixel_sum g a d) (level_sum g a d) _ _ (square_sum g a d) r (q - r) N (omega arith) (cost_is g a d r) (rw e (cost_is g a d q))

  lower : (q : ℕ) → q < r → plain g (λ k. squared k r) a d ≤ plain g (λ k. squared k q) a d
  lower q h =
      let e : q + (r - q) ≡ r = omega arith in
      lower_costs (pixel_sum g a d) (level_sum g a d) _ _ (square_sum g a d) q (r - q) (rw e N) (omega arith) (rw e (cost_is g a d r)) (cost_is g a d q)

  pub least : (q : ℕ) → plain g (λ k. squared k r) a d ≤ plain g (λ k. squared k q) a d
  least q = elim (cases_lt r q) [ inl h ↦ omega (arith, higher q h) | inr h ↦ elim (cases_lt q r) [ inl l ↦ lower q l | inr l ↦ (let e : q ≡ r = omega arith in rw e (omega arith)) ] ]

  pub from_low : 0 < pixel_sum g a d → (k : ℕ) × (a ≤ k) × (k ≤ r) × Counted g k
  from_low some = elim (some_low g a d r) [ inl f ↦ (f.0, f.1, f.3, f.4) | inr h ↦ absurd (omega arith) ]

  pub to_high : 0 < pixel_sum g a d → (k : ℕ) × (r ≤ k) × (k < a + d) × Counted g k
  to_high some = elim (some_high g a d r) [ inl f ↦ f | inr h ↦ absurd (omega arith) ]
