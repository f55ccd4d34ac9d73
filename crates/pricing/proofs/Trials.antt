-- The steps of a trial: the highest representative with the lowest tally so far.
use Rattle.std.proofs.Common.{◌≡◌, ℕ, ◌+◌, ◌-◌, ◌<◌, ◌≤◌, Bool, true, false, cond, sym, ap, ◌∙◌, ap₂, inl, inr, arith}
use Rattle.std.proofs.lemmas.Bool.{cases_eq, both_ways}
use Rattle.pricing.specs.Tallies.{Ops, Laws, NotAbove}
use Rattle.counting.specs.Ledger.{Ledger}
use Rattle.pricing.specs.Errors.{SameErrors}
use Rattle.pricing.specs.Prices.{range_tally}
use Rattle.pricing.specs.Spans.{LowestAt}
use Rattle.pricing.proofs.Costs.{range_same}

module _ {C : Type 0} (o : Ops C) (L : Laws o) (t : ℕ → C) where
  same_le : (p q : C) → p ≡ q → NotAbove o p q
  same_le p q e = rw e (elim (L.total q q) [ inl h ↦ h | inr h ↦ h ])

  other_way : (p q : C) → o.not_above p q ≡ false → NotAbove o q p
  other_way p q e = elim (L.total p q) [ inl h ↦ absurd (both_ways _ e h) | inr h ↦ h ]

  -- the first level is the best so far
  lowest_none : (low : ℕ) → LowestAt o t low (low + 1 - 1) low
  lowest_none low = record {
    from = omega arith;
    to = omega arith;
    least = (λ q a b. same_le _ _ (ap t (omega arith)));
    highest = (λ q a b _. omega arith);
  }

  -- a level that is not above the best so far takes its place
  lowest_takes : (low r best : ℕ) → low < r → LowestAt o t low (r - 1) best → o.not_above (t r) (t best) ≡ true → LowestAt o t low (r + 1 - 1) r
  lowest_takes low r best h B e = record {
    from = omega arith;
    to = omega arith;
    least = (λ q a b. elim (cases_eq q r) [ inl same ↦ same_le _ _ (ap t (sym same)) | inr apart ↦ L.transitive _ _ _ e (B.least q a (omega arith)) ]);
    highest = (λ q a b _. omega arith);
  }

  lowest_keeps : (low r best : ℕ) → low < r → LowestAt o t low (r - 1) best → o.not_above (t r) (t best) ≡ false → LowestAt o t low (r + 1 - 1) best
  lowest_keeps low r best h B e = record {
    from = B.from;
    to = omega (arith, B.to);
    least = (λ q a b. elim (cases_eq q r) [ inl same ↦ rw same (other_way (t r) (t best) e) | inr apart ↦ B.least q a (omega arith) ]);
    highest = (λ q a b k. elim (cases_eq q r) [ inl same ↦ both_ways _ e (rw same at k) | inr apart ↦ B.highest q a (omega arith) k ]);
  }

-- the best of the levels from `low` on that are below r, with its tally
pub record Best {C : Type 0} (o : Ops C) (t : ℕ → C) (low r : ℕ) (best : ℕ × C) : Type 0 where
  pub lowest : LowestAt o t low (r - 1) best.0
  pub tally : best.1 ≡ t best.0

best_more : {C : Type 0} (o : Ops C) → Laws o → (t : ℕ → C) (low r : ℕ) (best then : ℕ × C) (x : C) → low < r →
    Best o t low r best → x ≡ t r → then ≡ cond (o.not_above x best.1) (r, x) best → Best o t low (r + 1) then
best_more {C} o L t low r best then x h B e p = turn (o.not_above x best.1) test p
  where
    test : o.not_above x best.1 ≡ o.not_above (t r) (t best.0)
    test = ap₂ (λ (u v : C). o.not_above u v) e B.tally

    turn : (b : Bool) → b ≡ o.not_above (t r) (t best.0) → then ≡ cond b (r, x) best → Best o t low (r + 1) then
    turn true s p = rw p (record { lowest = lowest_takes o L t low r best.0 h B.lowest (sym s); tally = e })
    turn false s p = rw p (record { lowest = lowest_keeps o L t low r best.0 h B.lowest (sym s); tally = B.tally })

-- the first level tried
best_none : {C : Type 0} (o : Ops C) → Laws o → (t : ℕ → C) (low : ℕ) (x : C) → x ≡ t low → Best o t low (low + 1) (low, x)
best_none o L t low x e = record { lowest = lowest_none o L t low; tally = e }

-- the lowest of tallies that are equal
lowest_same : {C : Type 0} (o : Ops C) (t u : ℕ → C) (low high r : ℕ) → ((q : ℕ) → q ≤ high → t q ≡ u q) → LowestAt o t low high r → LowestAt o u low high r
lowest_same o t u low high r same B = record {
  from = B.from;
  to = B.to;
  least = (λ q a b. rw (← same r B.to, ← same q b) (B.least q a b));
  highest = (λ q a b h. B.highest q a b (rw (same q b, same r B.to) h));
}

-- every level tried
best_all : {C : Type 0} (o : Ops C) (t u : ℕ → C) (low high r : ℕ) (best : ℕ × C) → r ≡ high + 1 → ((q : ℕ) → q ≤ high → t q ≡ u q) → Best o t low r best →
    LowestAt o u low high best.0 × (best.1 ≡ u best.0)
best_all o t u low high r best e same B =
    let end : r - 1 ≡ high = omega arith in
    let L = lowest_same o t u low high best.0 same (rw end at B.lowest) in
    (L, B.tally ∙ same best.0 L.to)

-- the same over the tallies of a range, as a measure that may keep notes tells them: what it means stays
module _ {C : Type 0} (o : Ops C) (L : Laws o) (g : Ledger) (a b : ℕ) (h : a ≤ b) (w : b < 1024) where
  pub tried_none : (error later : ℕ → ℕ → ℕ) (low : ℕ) (x : C) → SameErrors later error → low < 1024 → x ≡ range_tally o error g a b low →
      Best o (range_tally o later g a b) low (low + 1) (low, x)
  tried_none error later low x same l e = best_none o L (range_tally o later g a b) low x (e ∙ sym (range_same o later error g a b low same h w l))

  pub tried_more : (error later : ℕ → ℕ → ℕ) (low r : ℕ) (best then : ℕ × C) (x : C) → low < r → r < 1024 → SameErrors later error →
      Best o (range_tally o error g a b) low r best → x ≡ range_tally o later g a b r → then ≡ cond (o.not_above x best.1) (r, x) best →
      Best o (range_tally o error g a b) low (r + 1) then
  tried_more error later low r best then x l m same B e p =
      best_more o L (range_tally o error g a b) low r best then x l B (e ∙ range_same o later error g a b r same h w m) p

  pub tried_all : (error later : ℕ → ℕ → ℕ) (low high r : ℕ) (best : ℕ × C) → high < 1024 → r ≡ high + 1 → SameErrors later error → Best o (range_tally o later g a b) low r best →
      LowestAt o (range_tally o error g a b) low high best.0 × (best.1 ≡ range_tally o error g a b best.0)
  tried_all error later low high r best l e same B =
      best_all o (range_tally o later g a b) (range_tally o error g a b) low high r best e (λ q m. range_same o later error g a b q same h w (omega arith)) B
