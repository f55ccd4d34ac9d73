-- Levels cut into a number of runs, divisions joined and taken apart, and that the test for a path step is right.
use Rattle.std.proofs.Common.{◌≡◌, ℕ, zero, suc, ◌+◌, ◌-◌, ◌<◌, ◌≤◌, true, ◌&&◌, ◌||◌, eqb, ltb, leb, ◌⊎◌, List, [], ◌∷◌, ◌++◌, length, replicate, refl, ap, ◌∙◌, inl, inr, arith, length-append}
use lib.ListN.{length-replicate}
use Rattle.std.proofs.lemmas.Bool.{and_parts, and_from, or_cases, or_left, or_right, ltb-true, leb-true, eqb-true, lt-ltb, le-leb, eq-eqb}
use Rattle.divisions.specs.Divisions.{Divides}
use Rattle.divisions.specs.Figures.{PathStep, can_cut, path_step}
use Rattle.divisions.proofs.Divisions.{runs_le, singles}

-- n levels can be cut into q runs where there are as many levels, and a run if there is a level
abbrev pub Cut : ℕ → ℕ → Type 0
Cut q n = (q ≤ n) × ((0 < q) ⊎ (n ≡ 0))

pub cut_true : (q n : ℕ) → can_cut q n ≡ true → Cut q n
cut_true q n t =
    let p = and_parts (leb q n) (ltb 0 q || eqb n 0) t in
    (leb-true q n p.0, elim (or_cases (ltb 0 q) (eqb n 0) p.1) [ inl a ↦ inl (ltb-true 0 q a) | inr b ↦ inr (eqb-true n 0 b) ])

pub cut_from : (q n : ℕ) → Cut q n → can_cut q n ≡ true
cut_from q n c =
    and_from (leb q n) (ltb 0 q || eqb n 0) (le-leb q n c.0)
    (elim c.1 [ inl a ↦ or_left _ (eqb n 0) (lt-ltb 0 q a) | inr b ↦ or_right (ltb 0 q) _ (eq-eqb n 0 b) ])

-- some division
some_cut : (q n : ℕ) → Cut q n → (ks : List ℕ) × Divides ks n × (length ks ≡ q)
some_cut zero n c = ([], elim c.1 [ inl a ↦ absurd (omega arith) | inr e ↦ e ], refl)
some_cut (suc q) n c =
    let back : n - (n - q) ≡ q = omega (arith, c.0) in
    ((n - q) ∷ replicate q 1, (omega (arith, c.0), omega arith, rw back (singles q)), ap suc (length-replicate {A = ℕ} q 1))

cut_of : (ks : List ℕ) (n : ℕ) → Divides ks n → Cut (length ks) n
cut_of [] n v = (omega arith, inr v)
cut_of (k ∷ ks) n v = (runs_le (k ∷ ks) n v, inl (omega arith))

-- divisions joined and taken apart
joined : (xs ys : List ℕ) (n m : ℕ) → Divides xs n → Divides ys m → Divides (xs ++ ys) (n + m)
joined [] ys n m v w = let e : n + m ≡ m = omega arith in rw e w
joined (x ∷ xs) ys n m v w = let e : n + m - x ≡ n - x + m = omega arith in (v.0, omega arith, rw e (joined xs ys (n - x) m v.2 w))

apart : (xs ys : List ℕ) (c : ℕ) → Divides (xs ++ ys) c → (n : ℕ) × (n ≤ c) × Divides xs n × Divides ys (c - n)
apart [] ys c v = let e : c - 0 ≡ c = omega arith in (0, omega arith, refl, rw e v)
apart (x ∷ xs) ys c v =
    let u = apart xs ys (c - x) v.2 in
    let e : x + u.0 - x ≡ u.0 = omega arith in
    let f : c - (x + u.0) ≡ c - x - u.0 = omega arith in
    (x + u.0, omega (arith, u.1), (v.0, omega arith, rw e u.2), rw f u.3)

-- a division says how many levels it has
divides_once : (ks : List ℕ) (n m : ℕ) → Divides ks n → Divides ks m → n ≡ m
divides_once [] n m v w = omega arith
divides_once (k ∷ ks) n m v w = omega (arith, divides_once ks (n - k) (m - k) v.2 w.2, v.1, w.1)

-- what a path step is, in numbers
pub record Steps (c b i d m : ℕ) : Type 0 where
  pub some : 0 < d
  pub fits : i + d ≤ c
  pub bin : m < b
  pub under : Cut m i
  pub over : Cut (b - 1 - m) (c - (i + d))

pub step_true : (c b i d m : ℕ) → path_step c b i d m ≡ true → Steps c b i d m
step_true c b i d m t =
    let p = and_parts (ltb 0 d && leb (i + d) c && ltb m b && can_cut m i) (can_cut (b - 1 - m) (c - (i + d))) t in
    let q = and_parts (ltb 0 d && leb (i + d) c && ltb m b) (can_cut m i) p.0 in
    let r = and_parts (ltb 0 d && leb (i + d) c) (ltb m b) q.0 in
    let s = and_parts (ltb 0 d) (leb (i + d) c) r.0 in
    record { some = ltb-true 0 d s.0; fits = leb-true (i + d) c s.1; bin = ltb-true m b r.1; under = cut_true m i q.1; over = cut_true (b - 1 - m) (c - (i + d)) p.1 }

pub step_from : (c b i d m : ℕ) → Steps c b i d m → path_step c b i d m ≡ true
step_from c b i d m S =
    and_from (ltb 0 d && leb (i + d) c && ltb m b && can_cut m i) _
    (and_from (ltb 0 d && leb (i + d) c && ltb m b) _
    (and_from (ltb 0 d && leb (i + d) c) _
    (and_from (ltb 0 d) _ (lt-ltb 0 d S.some) (le-leb (i + d) c S.fits))
    (lt-ltb m b S.bin))
    (cut_from m i S.under))
    (cut_from (b - 1 - m) (c - (i + d)) S.over)

-- the test passes exactly where some division has the run at that bin
pub stands : (c b i d m : ℕ) → path_step c b i d m ≡ true → PathStep c b i d m
stands c b i d m t =
    let S = step_true c b i d m t in
    let u = some_cut m i S.under in
    let v = some_cut (b - 1 - m) (c - (i + d)) S.over in
    let e : c - (i + d) + (i + d) ≡ c = omega (arith, S.fits) in
    let back : i + d - d ≡ i = omega arith in
    let w : Divides (d ∷ u.0) (i + d) = (S.some, omega arith, rw back u.1) in
    let whole = joined v.0 (d ∷ u.0) (c - (i + d)) (i + d) v.1 w in
    record {
      after = v.0;
      before = u.0;
      divides = rw e at whole;
      number = length-append v.0 (d ∷ u.0) ∙ omega (arith, u.2, v.2, S.bin);
      start = u.1;
      bin = u.2;
    }

pub tested : (c b i d m : ℕ) → PathStep c b i d m → path_step c b i d m ≡ true
tested c b i d m P =
    let a = apart P.after (d ∷ P.before) c P.divides in
    let v = a.3 in
    let e = divides_once P.before i (c - a.0 - d) P.start v.2 in
    let n = length-append P.after (d ∷ P.before) in
    let k : b - 1 - m ≡ length P.after = omega (arith, P.number, P.bin, n) in
    let h : c - (i + d) ≡ a.0 = omega (arith, a.1, v.1) in
    step_from c b i d m (record {
      some = v.0;
      fits = omega (arith, a.1, v.1);
      bin = omega (arith, P.number, P.bin, n);
      under = (let u = cut_of P.before i P.start in rw (← P.bin) u);
      over = rw (k, h) (cut_of P.after a.0 a.2);
    })
