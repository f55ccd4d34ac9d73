-- No way of showing the levels in at most so many greys has a lower tally than the best division, and more bins never raise it.
use Rattle.std.proofs.Common.{◌≡◌, ℕ, zero, suc, ◌+◌, ◌-◌, ◌^◌, ◌<◌, ◌≤◌, min, Bool, true, ◌⊎◌, List, [], ◌∷◌, length, replicate, sym, refl, ap, ◌∙◌, ap₂, inl, inr, arith}
use lib.ListN.{length-replicate}
use Rattle.std.specs.List.{ContainsAt, AllByRecursion}
use Rattle.std.proofs.ByRecursion.{all-has}
use Rattle.std.proofs.lemmas.Bool.{cond-true, both_ways, cases_lt, cases_eq, cases_Bool}
use Rattle.counting.specs.Ledger.{Ledger, counted_levels}
use Rattle.pricing.specs.Tallies.{Ops, Laws, NotAbove}
use Rattle.pricing.specs.Errors.{Fair}
use Rattle.pricing.specs.Prices.{Counted, map_tally}
use Rattle.counting.specs.Sound.{Sound}
use Rattle.divisions.specs.Divisions.{level_at, price, Divides, divided, Best, BestOf, tally_of}
use Rattle.divisions.proofs.Order.{from_le, to_le, join_le}
use Rattle.divisions.proofs.Divisions.{runs_le, singles, best_divides, best_among}
use Rattle.divisions.proofs.Places.{at, rising, few_pixels}
use Rattle.divisions.proofs.Costs.{spent, spent_split, spent_le, pixels_of, all_by_places}
use Rattle.divisions.proofs.Prices.{price_le_places, split_le, single_free}
use Rattle.divisions.proofs.Search.{first_or_all, passing, passing_le, member, member_true, passing_members}

-- a shown grey below b has an error of at most e at the level l
abbrev Reached : (ℕ → ℕ → ℕ) → (ℕ → Bool) → ℕ → ℕ → ℕ → Type 0
Reached error s b l e = (r : ℕ) × (r < b) × (s r ≡ true) × (error l r ≤ e)

abbrev Missed : (ℕ → ℕ → ℕ) → (ℕ → Bool) → ℕ → ℕ → ℕ → Type 0
Missed error s b l e = (r : ℕ) → r < b → s r ≡ true → e < error l r

reached_or_missed : (error : ℕ → ℕ → ℕ) (s : ℕ → Bool) (b l e : ℕ) → Reached error s b l e ⊎ Missed error s b l e
reached_or_missed error s zero l e = inr (λ r h _. absurd (omega arith))
reached_or_missed error s (suc b) l e = elim (reached_or_missed error s b l e) [ inl w ↦ inl (w.0, omega arith, w.2, w.3) | inr none ↦ at_b none ]
  where
    at_b : Missed error s b l e → Reached error s (suc b) l e ⊎ Missed error s (suc b) l e
    at_b none = elim (cases_Bool (s b)) [
      | inl t ↦ elim (cases_lt e (error l b)) [
        | inl high ↦ inr (λ r h p. elim (cases_eq r b) [ inl q ↦ rw q high | inr q ↦ none r (omega arith) p ])
        | inr low ↦ inl (b, omega arith, t, low)
      ]
      | inr f ↦ inr (λ r h p. elim (cases_eq r b) [ inl q ↦ absurd (both_ways (s b) f (rw q at p)) | inr q ↦ none r (omega arith) p ])
    ]

module _ {C : Type 0} (o : Ops C) (L : Laws o) (error : ℕ → ℕ → ℕ) (F : Fair error) (g : Ledger) (S : Sound g) where
  -- a division of the first n levels into no more runs than there are shown greys below b, whose tally is not above the charges at c
  abbrev Answer : (ℕ → Bool) → ℕ → ℕ → (ℕ → ℕ) → Type 0
  Answer s b n c = (ks : List ℕ) × Divides ks n × (length ks ≤ passing s b) × NotAbove o (divided o (price o error g) ks n) (spent o (pixels_of g) c 0 n)

  -- The step: where i is the first place that no lower grey reaches, the grey v is good enough from i on, by crossing.
  last_run : (s : ℕ → Bool) (v n : ℕ) (c : ℕ → ℕ) → v < 1024 → n ≤ counted_levels g → ((k : ℕ) → k < n → c k < 2 ^ 32) → ((k : ℕ) → k < n → Reached error s (suc v) (level_at g k) (c k)) →
      (i : ℕ) → i < n → Missed error s v (level_at g i) (c i) → Answer s v i c → Answer s (suc v) n c
  unfolding divided
  last_run s v n c hv hn small reach i hi miss ih =
      ((n - i) ∷ ih.0, (omega arith, omega arith, rw back ih.1), rw (cond-true (s v) (suc (passing s v)) (passing s v) here.0) (omega (arith, ih.2)), bound)
    where
      back : n - (n - i) ≡ i
      back = omega arith

      -- v is shown, and is the one that reaches i
      here : (s v ≡ true) × (error (level_at g i) v ≤ c i)
      here =
          let w = reach i hi in
          elim (cases_eq w.0 v) [ inl e ↦ (rw e at w.2, rw e at w.3) | inr e ↦ absurd (omega (arith, miss w.0 (omega arith) w.2, w.3)) ]

      good : (k : ℕ) → i ≤ k → k < n → error (level_at g k) v ≤ c k
      good k a b =
          let w = reach k b in
          elim (cases_eq w.0 v) [
            | inl e ↦ rw e at w.3
            | inr e ↦ elim (cases_eq i k) [
              | inl q ↦ rw q at here.1
              | inr q ↦
                  let less = miss w.0 (omega arith) w.2 in
                  let cross = F.crossing (level_at g i) (level_at g k) w.0 v (at g S k (omega arith)).low hv (omega arith) (rising g S i k (omega arith) (omega arith)) (omega (arith, less, here.1)) in
                  omega (arith, cross, w.3)
            ]
          ]

      cheap : NotAbove o (price o error g i (n - i)) (spent o (pixels_of g) c i (n - i))
      cheap =
          L.transitive _ _ _ (price_le_places o L error F g S i (n - i) v (omega arith) (omega arith) hv)
          (spent_le o L _ _ _ i (n - i) (λ k a b. (few_pixels g S (level_at g k), good k a (omega arith), small k (omega arith))))

      whole : o.join (spent o (pixels_of g) c i (n - i)) (spent o (pixels_of g) c 0 i) ≡ spent o (pixels_of g) c 0 n
      whole =
          let e : i + (n - i) ≡ n = omega arith in
          let none : 0 + i ≡ i = omega arith in
          sym (rw (e, none) at (spent_split o L (pixels_of g) c 0 i (n - i)))

      bound : NotAbove o (divided o (price o error g) ((n - i) ∷ ih.0) n) (spent o (pixels_of g) c 0 n)
      bound =
          from_le o L _ _ _ (ap (λ (x : ℕ). o.join (price o error g x (n - i)) (divided o (price o error g) ih.0 x)) back)
          (to_le o L _ _ _ whole (join_le o L _ _ _ _ cheap ih.3))

  claim : (s : ℕ → Bool) (b : ℕ) → b ≤ 1024 → (n : ℕ) → n ≤ counted_levels g → (c : ℕ → ℕ) → ((k : ℕ) → k < n → c k < 2 ^ 32) → ((k : ℕ) → k < n → Reached error s b (level_at g k) (c k)) → Answer s b n c
  unfolding divided
  claim s zero hb n hn c small reach = elim (cases_eq n 0) [ inl e ↦ ([], e, omega arith, L.neutral_lowest _) | inr e ↦ absurd (omega (arith, (reach 0 (omega arith)).1)) ]
  claim s (suc v) hb n hn c small reach =
      elim (first_or_all (λ k. Reached error s v (level_at g k) (c k)) (λ k. Missed error s v (level_at g k) (c k)) (λ k. reached_or_missed error s v (level_at g k) (c k)) n) [
        | inl all ↦ let a = claim s v (omega arith) n hn c small all in (a.0, a.1, omega (arith, a.2, passing_le s v), a.3)
        | inr w ↦ last_run s v n c (omega arith) hn small reach w.0 w.1 w.2 (claim s v (omega arith) w.0 (omega arith) c (λ k h. small k (omega arith)) w.3)
      ]

  -- the best division is not above any division into as many runs or fewer
  pub not_above_any : (runs ks : List ℕ) → Best o (price o error g) runs (counted_levels g) → Divides ks (counted_levels g) → length ks ≤ length runs → NotAbove o (tally_of o error g runs) (tally_of o error g ks)
  not_above_any runs ks b v h = best_among o L (price o error g) (counted_levels g) (split_le o L error F g S) runs ks (counted_levels g) (omega arith) b v h

  -- never beaten
  pub never_beaten : (most : ℕ) (runs : List ℕ) → BestOf o error g most runs → (f : ℕ → ℕ) (shown : List ℕ) → length shown ≤ most → AllByRecursion (λ r. r < g.levels) shown →
      ((l : ℕ) → l < g.levels → Counted g l → ContainsAt shown (f l)) → NotAbove o (tally_of o error g runs) (map_tally o error g f)
  never_beaten most runs B f shown few low maps =
      let n = counted_levels g in
      let has : (k : ℕ) → k < n → ContainsAt shown (f (level_at g k)) = (λ k h. maps (level_at g k) (at g S k h).level (at g S k h).counted) in
      let under : (k : ℕ) → k < n → f (level_at g k) < 1024 = (λ k h. omega (arith, all-has (λ r. r < g.levels) shown (f (level_at g k)) low (has k h), S.range.1)) in
      let a = claim (member shown) 1024 (omega arith) n (omega arith) (λ k. error (level_at g k) (f (level_at g k)))
      (λ k h. F.fits _ _ (at g S k h).low (under k h))
      (λ k h. (f (level_at g k), under k h, member_true _ _ (has k h), omega arith)) in
      let some = runs_le a.0 n a.1 in
      let greys = passing_members shown 1024 in
      L.transitive _ _ _
      (not_above_any runs a.0 B.best a.1 (omega (arith, a.2, B.number)))
      (to_le o L _ _ _ (sym (all_by_places o L g S (λ k. error k (f k)))) a.3)

  -- more bins never raise the least tally
  pub more_bins : (few many : ℕ) (runs others : List ℕ) → few ≤ many → BestOf o error g few runs → BestOf o error g many others → NotAbove o (tally_of o error g others) (tally_of o error g runs)
  more_bins few many runs others h A B = not_above_any others runs B.best (best_divides o (price o error g) runs (counted_levels g) A.best) (omega (arith, A.number, B.number))

  singles_free : (n : ℕ) → n ≤ counted_levels g → divided o (price o error g) (replicate n 1) n ≡ o.neutral
  unfolding divided
  singles_free zero h = refl
  singles_free (suc n) h =
      let e : suc n - 1 ≡ n = omega arith in
      ap (λ (x : ℕ). o.join (price o error g x 1) (divided o (price o error g) (replicate n 1) x)) e
      ∙ ap₂ (λ (a b : C). o.join a b) (single_free o L error F g S n h) (singles_free n (omega arith))
      ∙ L.neutral_joins _

  -- with a bin for each counted level the tally is neutral
  pub enough_bins : (most : ℕ) (runs : List ℕ) → counted_levels g ≤ most → BestOf o error g most runs → tally_of o error g runs ≡ o.neutral
  enough_bins most runs h B =
      let n = counted_levels g in
      let e : n ≡ min most n = omega arith in
      L.antisymmetric _ _
      (to_le o L _ _ _ (singles_free n (omega arith))
      (not_above_any runs (replicate n 1) B.best (singles n) (omega (arith, length-replicate {A = ℕ} n 1, B.number))))
      (L.neutral_lowest _)
