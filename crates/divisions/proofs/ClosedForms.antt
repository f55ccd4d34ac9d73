-- The closed forms of the two figures, from what they count.
use Rattle.std.proofs.Common.{◌≡◌, ℕ, zero, suc, ◌+◌, ◌-◌, ◌*◌, ◌/◌, ◌<◌, ◌≤◌, min, max, Bool, true, cond, eqb, leb, sum_by, count_by, sym, refl, ap, ◌∙◌, ap₂, inl, inr, mul_assoc, mul_comm, add-mul, zero-mul, mul-one, mul-add, arith}
use Rattle.std.specs.List.{range_with_len}
use Rattle.std.proofs.lemmas.List.Sums.{sum_by-cons, sum_by-append}
use Rattle.std.proofs.lemmas.Bool.{cases_eq, cases_lt, cases_Bool, and_parts, and_from, leb-true, le-leb, cond-true, cond-false, eq-eqb, ne_eqb, both_ways}
use Rattle.divisions.specs.Figures.{longest, candidate, candidates, path_step, path_steps, priced_figure, compared_figure}
use Rattle.divisions.proofs.Places.{counting_append}
use Rattle.divisions.proofs.Cuts.{Steps, step_true, step_from}

sum_none : (f : ℕ → ℕ) (a : ℕ) → sum_by f (range_with_len a 0) ≡ 0
sum_none f a = refl

sum_last : (f : ℕ → ℕ) (a n : ℕ) → sum_by f (range_with_len a (suc n)) ≡ sum_by f (range_with_len a n) + f (a + n)
sum_last f a n =
    let e : suc n ≡ n + 1 = omega arith in
    let z : 0 + f (a + n) ≡ f (a + n) = omega arith in
    ap (λ (x : ℕ). sum_by f (range_with_len a x)) e ∙ ap (sum_by f) (counting_append a n 1) ∙ sum_by-append f (range_with_len a n) (range_with_len (a + n) 1) ∙ ap (λ (x : ℕ). sum_by f (range_with_len a n) + x) z

sum_ext : (f f' : ℕ → ℕ) (a n : ℕ) → ((x : ℕ) → a ≤ x → x < a + n → f x ≡ f' x) → sum_by f (range_with_len a n) ≡ sum_by f' (range_with_len a n)
sum_ext f f' a zero h = refl
sum_ext f f' a (suc n) h =
    sum_last f a n ∙ ap₂ (λ (x y : ℕ). x + y) (sum_ext f f' a n (λ x p q. h x p (omega arith))) (h (a + n) (omega arith) (omega arith)) ∙ sym (sum_last f' a n)

sum_same : (f : ℕ → ℕ) (k a n : ℕ) → ((x : ℕ) → a ≤ x → x < a + n → f x ≡ k) → sum_by f (range_with_len a n) ≡ n * k
sum_same f k a zero h = sym (zero-mul k)
sum_same f k a (suc n) h =
    let e : suc n * k ≡ n * k + k = (let o : suc n ≡ n + 1 = omega arith in rw o (omega (arith, add-mul n 1 k))) in
    sum_last f a n ∙ ap₂ (λ (x y : ℕ). x + y) (sum_same f k a n (λ x p q. h x p (omega arith))) (h (a + n) (omega arith) (omega arith)) ∙ sym e

-- only the first h of n numbers count
sum_front : (f : ℕ → ℕ) (a h n : ℕ) → h ≤ n → ((x : ℕ) → a + h ≤ x → x < a + n → f x ≡ 0) → sum_by f (range_with_len a n) ≡ sum_by f (range_with_len a h)
sum_front f a h zero l z = let e : h ≡ 0 = omega arith in rw e refl
sum_front f a h (suc n) l z =
    elim (cases_eq h (suc n)) [
      | inl e ↦ rw e refl
      | inr e ↦ sum_last f a n ∙ omega (arith, z (a + n) (omega arith) (omega arith), sum_front f a h n (omega arith) (λ x p q. z x p (omega arith)))
    ]

-- how many of the n numbers from a lie from lo to below hi
count_between : (t : ℕ → Bool) (a n lo hi : ℕ) → ((x : ℕ) → a ≤ x → x < a + n → t x ≡ true → (lo ≤ x) × (x < hi)) → ((x : ℕ) → a ≤ x → x < a + n → lo ≤ x → x < hi → t x ≡ true) →
    count_by t (range_with_len a n) ≡ min hi (a + n) - max lo a
count_between t a zero lo hi only all = omega arith
count_between t a (suc n) lo hi only all =
    let ih = count_between t a n lo hi (λ x p q. only x p (omega arith)) (λ x p q. all x p (omega arith)) in
    let last = sum_last (λ x. cond (t x) 1 0) a n in
    elim (cases_Bool (t (a + n))) [
      | inl y ↦ let w = only (a + n) (omega arith) (omega arith) y in omega (arith, w, ih, last, cond-true {A = ℕ} (t (a + n)) 1 0 y)
      | inr f ↦
          let out : lo ≤ a + n → a + n < hi → ⊥ = (λ p q. both_ways (t (a + n)) f (all (a + n) (omega arith) (omega arith) p q)) in
          elim (cases_lt (a + n) lo) [
            | inl u ↦ omega (arith, ih, last, cond-false {A = ℕ} (t (a + n)) 1 0 f)
            | inr u ↦ elim (cases_lt (a + n) hi) [ inl v ↦ absurd (out u v) | inr v ↦ omega (arith, ih, last, cond-false {A = ℕ} (t (a + n)) 1 0 f) ]
          ]
    ]

-- c + (c - 1) + .. , n of them
stairs : (c n : ℕ) → n ≤ c → 2 * sum_by (λ d. c + 1 - d) (range_with_len 1 n) + n * n ≡ 2 * (n * c) + n
stairs c zero h = omega (arith, zero-mul c)
stairs c (suc n) h =
    let ih = stairs c n (omega arith) in
    let last = sum_last (λ d. c + 1 - d) 1 n in
    let o : suc n ≡ n + 1 = omega arith in
    let e : suc n * suc n ≡ n * n + 2 * n + 1 = rw o (omega (arith, add-mul n 1 (n + 1), mul-add n n 1)) in
    let f : suc n * c ≡ n * c + c = rw o (omega (arith, add-mul n 1 c)) in
    omega (arith, ih, last, e, f)

-- the candidates of one length
candidates_of : (c b d : ℕ) → 1 ≤ d → d ≤ c → d ≤ longest c b → count_by (λ i. candidate c b i d) (range_with_len 0 c) ≡ c + 1 - d
candidates_of c b d l m s =
    count_between (λ i. candidate c b i d) 0 c 0 (c + 1 - d)
    (λ i _ _ t. (omega arith, omega (arith, leb-true (i + d) c (and_parts (leb d (longest c b)) (leb (i + d) c) t).1)))
    (λ i _ _ _ u. and_from (leb d (longest c b)) _ (le-leb d (longest c b) s) (le-leb (i + d) c (omega arith)))
    ∙ omega arith

too_long : (c b d : ℕ) → longest c b < d → count_by (λ i. candidate c b i d) (range_with_len 0 c) ≡ 0
too_long c b d s =
    count_between (λ i. candidate c b i d) 0 c 0 0
    (λ i _ _ t. absurd (omega (arith, leb-true d (longest c b) (and_parts (leb d (longest c b)) (leb (i + d) c) t).0)))
    (λ i _ _ _ u. absurd (omega arith))
    ∙ omega arith

pub priced_counts : (c b : ℕ) → b ≤ c → candidates c b ≡ priced_figure c b
priced_counts c b h =
    let n = min (longest c b) c in
    let f : ℕ → ℕ = λ d. count_by (λ i. candidate c b i d) (range_with_len 0 c) in
    let front : candidates c b ≡ sum_by f (range_with_len 1 n) = sum_front f 1 n c (omega arith) (λ d p q. too_long c b d (omega arith)) in
    let each : sum_by f (range_with_len 1 n) ≡ sum_by (λ d. c + 1 - d) (range_with_len 1 n) = sum_ext f (λ d. c + 1 - d) 1 n (λ d p q. candidates_of c b d p (omega arith) (omega arith)) in
    let s = stairs c n (omega arith) in
    front ∙ each ∙ elim (cases_eq b 0) [ inl e ↦ none e s | inr e ↦ some e s ]
  where
    T : ℕ → ℕ
    T n = sum_by (λ d. c + 1 - d) (range_with_len 1 n)

    none : b ≡ 0 → 2 * T (min (longest c b) c) + min (longest c b) c * min (longest c b) c ≡ 2 * (min (longest c b) c * c) + min (longest c b) c → T (min (longest c b) c) ≡ priced_figure c b
    none e s =
        let n : min (longest c b) c ≡ c = omega arith in
        let s2 : 2 * T c + c * c ≡ 2 * (c * c) + c = rw n at s in
        let z : b * b ≡ 0 = rw e refl in
        rw n (omega (arith, s2, z))

    some : (b ≡ 0 → ⊥) → 2 * T (min (longest c b) c) + min (longest c b) c * min (longest c b) c ≡ 2 * (min (longest c b) c * c) + min (longest c b) c → T (min (longest c b) c) ≡ priced_figure c b
    some e s =
        let n : min (longest c b) c ≡ c - b + 1 = omega arith in
        let s2 : 2 * T (c - b + 1) + (c - b + 1) * (c - b + 1) ≡ 2 * ((c - b + 1) * c) + (c - b + 1) = rw n at s in
        let x = c - b in
        let w : c ≡ b + x = omega arith in
        let hh : (x + 1) * (x + 1) ≡ x * x + 2 * x + 1 = omega (arith, add-mul x 1 (x + 1), mul-add x x 1) in
        let hc : (x + 1) * c ≡ x * c + c = omega (arith, add-mul x 1 c) in
        let xc : x * c ≡ x * b + x * x = ap (λ (y : ℕ). x * y) w ∙ mul-add x b x in
        let bc : b * c ≡ b * b + b * x = ap (λ (y : ℕ). b * y) w ∙ mul-add b b x in
        let cc2 : c * c ≡ b * c + x * c = ap (λ (y : ℕ). y * c) w ∙ add-mul b x c in
        let bx = mul_comm b x in
        rw n (omega (arith, s2, hh, hc, xc, bc, cc2, bx, w))

-- the path steps of one length at one bin number lie at the places from lo to below hi
steps_of : (c b d m lo hi : ℕ) → lo ≤ hi → hi ≤ c → ((i : ℕ) → i < c → Steps c b i d m → (lo ≤ i) × (i < hi)) → ((i : ℕ) → lo ≤ i → i < hi → Steps c b i d m) →
    count_by (λ i. path_step c b i d m) (range_with_len 0 c) ≡ hi - lo
steps_of c b d m lo hi l h only all =
    count_between (λ i. path_step c b i d m) 0 c lo hi
    (λ i _ q t. only i (omega arith) (step_true c b i d m t))
    (λ i _ _ p q. step_from c b i d m (all i p q))
    ∙ omega arith

-- all path steps of one bin number
at_bin : ℕ → ℕ → ℕ → ℕ
at_bin c b m = sum_by (λ d. count_by (λ i. path_step c b i d m) (range_with_len 0 c)) (range_with_len 1 c)

module _ (c b : ℕ) (pos : 1 ≤ b) (room : b ≤ c) where
  -- no step is longer than c - b + 1
  long_steps : (d m : ℕ) → longest c b < d → count_by (λ i. path_step c b i d m) (range_with_len 0 c) ≡ 0
  long_steps d m h =
      steps_of c b d m 0 0 (omega arith) (omega arith)
      (λ i _ s. absurd (omega (arith, s.fits, s.bin, s.under.0, s.over.0)))
      (λ i _ q. absurd (omega arith))

  -- where each length up to that has F d steps
  by_lengths : (m : ℕ) (F : ℕ → ℕ) → ((d : ℕ) → 1 ≤ d → d ≤ longest c b → count_by (λ i. path_step c b i d m) (range_with_len 0 c) ≡ F d) → at_bin c b m ≡ sum_by F (range_with_len 1 (longest c b))
  unfolding at_bin
  by_lengths m F h =
      let f : ℕ → ℕ = λ d. count_by (λ i. path_step c b i d m) (range_with_len 0 c) in
      sum_front f 1 (longest c b) c (omega arith) (λ d p q. long_steps d m (omega arith))
      ∙ sum_ext f F 1 (longest c b) (λ d p q. h d p (omega arith))

  ones : sum_by (λ _. 1) (range_with_len 1 (longest c b)) ≡ longest c b
  ones = sum_same (λ _. 1) 1 1 (longest c b) (λ x _ _. refl) ∙ mul-one (longest c b)

  -- the first of several bins begins at the lowest level
  first_bin : 2 ≤ b → at_bin c b 0 ≡ longest c b
  first_bin two =
      by_lengths 0 (λ _. 1) (λ d p q. steps_of c b d 0 0 1 (omega arith) (omega arith)
      (λ i _ s. elim s.under.1 [ inl a ↦ absurd (omega arith) | inr e ↦ omega arith ])
      (λ i u v.
      let e : i ≡ 0 = omega arith in
      record { some = p; fits = omega arith; bin = omega arith; under = (omega arith, inr e); over = (omega arith, inl (omega arith)) }))
      ∙ ones

  -- the last ends at the highest
  last_bin : 2 ≤ b → at_bin c b (b - 1) ≡ longest c b
  last_bin two =
      by_lengths (b - 1) (λ _. 1) (λ d p q. steps_of c b d (b - 1) (c - d) (c - d + 1) (omega arith) (omega arith)
      (λ i _ s. elim s.over.1 [ inl a ↦ absurd (omega arith) | inr e ↦ omega (arith, s.fits) ])
      (λ i u v. record { some = p; fits = omega arith; bin = omega arith; under = (omega arith, inl (omega arith)); over = (omega arith, inr (omega arith)) })
      ∙ omega arith)
      ∙ ones

  -- a bin between the two has places to move
  mid_bin : (m : ℕ) → 1 ≤ m → m < b - 1 → at_bin c b m ≡ sum_by (λ d. longest c b + 1 - d) (range_with_len 1 (longest c b))
  mid_bin m l h =
      by_lengths m (λ d. longest c b + 1 - d) (λ d p q. steps_of c b d m m (c - d - (b - 1 - m) + 1) (omega arith) (omega arith)
      (λ i _ s. omega (arith, s.under.0, s.over.0, s.fits))
      (λ i u v. record { some = p; fits = omega arith; bin = omega arith; under = (u, inl l); over = (omega arith, inl (omega arith)) })
      ∙ omega arith)

  -- the one bin of all levels
  only_bin : b ≡ 1 → at_bin c b 0 ≡ 1
  unfolding at_bin
  only_bin e =
      let f : ℕ → ℕ = λ d. count_by (λ i. path_step c b i d 0) (range_with_len 0 c) in
      let k : c ≡ suc (c - 1) = omega arith in
      let j : 1 + (c - 1) ≡ c = omega arith in
      let short : sum_by f (range_with_len 1 (c - 1)) ≡ 0 = sum_front f 1 0 (c - 1) (omega arith) (λ d p q. steps_of c b d 0 0 0 (omega arith) (omega arith)
      (λ i _ s. elim s.over.1 [ inl a ↦ absurd (omega arith) | inr o ↦ elim s.under.1 [ inl a ↦ absurd (omega arith) | inr u ↦ absurd (omega (arith, s.fits)) ] ])
      (λ i _ q. absurd (omega arith))) in
      let whole : f c ≡ 1 = steps_of c b c 0 0 1 (omega arith) (omega arith)
      (λ i _ s. elim s.under.1 [ inl a ↦ absurd (omega arith) | inr u ↦ omega arith ])
      (λ i u v. record { some = omega arith; fits = omega arith; bin = omega arith; under = (omega arith, inr (omega arith)); over = (omega arith, inr (omega arith)) }) in
      ap (λ (x : ℕ). sum_by f (range_with_len 1 x)) k ∙ sum_last f 1 (c - 1) ∙ ap₂ (λ (x y : ℕ). x + f y) short j ∙ omega (arith, whole)

  one_bin : b ≡ 1 → sum_by (at_bin c b) (range_with_len 0 b) ≡ compared_figure c b
  one_bin e =
      ap (λ (x : ℕ). sum_by (at_bin c b) (range_with_len 0 x)) e
      ∙ omega (arith, only_bin e)
      ∙ sym (cond-true (eqb b 1) 1 ((b - 2) * longest c b * (longest c b + 1) / 2 + 2 * longest c b) (eq-eqb b 1 e))

  more_bins : 2 ≤ b → sum_by (at_bin c b) (range_with_len 0 b) ≡ compared_figure c b
  more_bins two =
      let h = longest c b in
      let q = b - 2 in
      let f = at_bin c b in
      let mid = sum_by (λ d. h + 1 - d) (range_with_len 1 h) in
      let k : b ≡ suc (suc q) = omega arith in
      let l : 1 + q ≡ b - 1 = omega arith in
      let cut : sum_by f (range_with_len 0 b) ≡ f 0 + (sum_by f (range_with_len 1 q) + f (b - 1)) =
      ap (λ (x : ℕ). sum_by f (range_with_len 0 x)) k ∙ sum_by-cons f 0 (range_with_len 1 (suc q)) ∙ ap (λ (x : ℕ). f 0 + x) (sum_last f 1 q ∙ ap (λ (x : ℕ). sum_by f (range_with_len 1 q) + f x) l) in
      let mids : sum_by f (range_with_len 1 q) ≡ q * mid = sum_same f mid 1 q (λ m p r. mid_bin m p (omega arith)) in
      let twice : 2 * mid ≡ h * h + h = omega (arith, stairs h h (omega arith)) in
      let square : h * (h + 1) ≡ mid + mid = omega (arith, mul-add h h 1, twice) in
      let product : q * h * (h + 1) ≡ 2 * (q * mid) = mul_assoc q h (h + 1) ∙ ap (λ (x : ℕ). q * x) square ∙ mul-add q mid mid ∙ omega arith in
      cut
      ∙ omega (arith, mids, first_bin two, last_bin two, product)
      ∙ sym (cond-false (eqb b 1) 1 (q * h * (h + 1) / 2 + 2 * h) (ne_eqb b 1 (λ e. omega arith)))

  pub compared_counts : path_steps c b ≡ compared_figure c b
  unfolding at_bin
  compared_counts = elim (cases_eq b 1) [ inl e ↦ one_bin e | inr e ↦ more_bins (omega arith) ]

pub compared_small : (c b : ℕ) → b ≤ c → b < 2 → path_steps c b ≡ b
compared_small c b h l = elim (cases_eq b 0) [
  | inl e ↦ ap (path_steps c) e ∙ sym e
  | inr e ↦
      let one : b ≡ 1 = omega arith in
      compared_counts c b (omega arith) h ∙ cond-true (eqb b 1) 1 ((b - 2) * longest c b * (longest c b + 1) / 2 + 2 * longest c b) (eq-eqb b 1 one) ∙ sym one
]

pub compared_large : (c b : ℕ) → b ≤ c → 2 ≤ b → path_steps c b ≡ (b - 2) * longest c b * (longest c b + 1) / 2 + 2 * longest c b
compared_large c b h l =
    compared_counts c b (omega arith) h ∙ cond-false (eqb b 1) 1 ((b - 2) * longest c b * (longest c b + 1) / 2 + 2 * longest c b) (ne_eqb b 1 (λ e. omega arith))
