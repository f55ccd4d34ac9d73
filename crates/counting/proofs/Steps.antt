-- What the ledger makes of a row, case by case, and how a histogram's list of pixels follows it.
use Rattle.std.proofs.Common.{◌≡◌, ℕ, ◌+◌, ◌-◌, ◌<◌, ◌≤◌, true, false, ltb, List, map, length, get_or, take, drop, Some, None, sum, sym, refl, ap, ◌∙◌, inl, inr, zero-add, arith}
use Rattle.std.specs.List.{range_with_len}
use Rattle.std.proofs.lemmas.Bool.{lt-ltb, le-ltb, le-leb, lt-leb, ltb-true, cases_lt}
use Rattle.std.proofs.lemmas.List.FromFn.{length-range_with_len, get_or-range_with_len, fill_by_all}
use Rattle.std.proofs.lemmas.List.{length-take-le, get_or-take, get_or-drop, get_or_past}
use Rattle.std.proofs.lemmas.List.Sums.{sum_by-take-drop}
use Rattle.counting.specs.Ledger.{Ledger, Asked, Told, now_total, counted, withdrawn, step, refuses, accepts, each_level, total_of, pixels_at, occurs, first_no_level, lowest_short}
use Rattle.counting.specs.Meaning.{ledger_of}
use Rattle.counting.specs.Short.{LowestShort}
use Rattle.counting.specs.declared.histogram.Histogram.{Histogram}
use Rattle.std.proofs.lemmas.List.Sums.{prefix_len_is, prefix_len_passes}
use Rattle.counting.proofs.Rows.{occurs_none, sum_zeros, getD_take_past}

level_at : (k l : ℕ) → l < k → get_or (range_with_len 0 k) l 0 ≡ l
level_at k l h = get_or-range_with_len 0 k l 0 h ∙ zero-add l

module _ (g : Ledger) (row : List ℕ) where
  pub counted_no_level : (place : ℕ) → place ≡ first_no_level g.levels row → place < length row → step g (counted row) ≡ refuses g 2 place
  counted_no_level place e h = let t : ltb (first_no_level g.levels row) (length row) ≡ true = lt-ltb _ _ (rw e at h) in rw (t, ← e) refl

  pub withdrawn_no_level : (place : ℕ) → place ≡ first_no_level g.levels row → place < length row → step g (withdrawn row) ≡ refuses g 2 place
  withdrawn_no_level place e h = let t : ltb (first_no_level g.levels row) (length row) ≡ true = lt-ltb _ _ (rw e at h) in rw (t, ← e) refl

  module _ (levels : first_no_level g.levels row ≡ length row) where
    all_levels : ltb (first_no_level g.levels row) (length row) ≡ false
    all_levels = le-ltb _ _ (omega arith)

    -- each pixel of the row is a level
    pub pixel_is_level : (k : ℕ) → k < length row → get_or row k 0 < g.levels
    pixel_is_level k h = ltb-true _ _ (prefix_len_passes (λ p. ltb p g.levels) row k 0 (omega arith))

    pub counted_too_large : 4294967295 < total_of g + length row → step g (counted row) ≡ refuses g 3 (total_of g)
    counted_too_large h = let t = lt-ltb 4294967295 (total_of g + length row) h in rw (all_levels, t) refl

    pub counted_accepted : total_of g + length row ≤ 4294967295 → step g (counted row) ≡ accepts (each_level g ◌+◌ row)
    counted_accepted h = let t = le-ltb 4294967295 (total_of g + length row) h in rw (all_levels, t) refl

    pub withdrawn_short : (low : ℕ) → low ≡ lowest_short g row → low < g.levels → step g (withdrawn row) ≡ refuses g 4 low
    withdrawn_short low e h = let t : ltb (lowest_short g row) g.levels ≡ true = lt-ltb _ _ (rw e at h) in rw (all_levels, t, ← e) refl

    pub withdrawn_accepted : lowest_short g row ≡ g.levels → step g (withdrawn row) ≡ accepts (each_level g ◌-◌ row)
    withdrawn_accepted e = let t : ltb (lowest_short g row) g.levels ≡ false = le-ltb _ _ (omega arith) in rw (all_levels, t) refl

  lowest_short_is : (low : ℕ) → low < g.levels → pixels_at g low < occurs low row → ((l : ℕ) → l < low → occurs l row ≤ pixels_at g l) → low ≡ lowest_short g row
  lowest_short_is low h here before = sym (prefix_len_is _ (range_with_len 0 g.levels) low 0 (rw length-range_with_len (omega arith))
      (λ k l. let e = level_at g.levels k (omega arith) in rw e (le-leb _ _ (before k l)))
      (λ _. let e = level_at g.levels low h in rw e (lt-leb _ _ here)))

  none_short_is : ((l : ℕ) → l < g.levels → occurs l row ≤ pixels_at g l) → lowest_short g row ≡ g.levels
  none_short_is all = prefix_len_is _ (range_with_len 0 g.levels) g.levels 0 (rw length-range_with_len (omega arith))
      (λ k l. let e = level_at g.levels k l in rw e (le-leb _ _ (all k l)))
      (λ l. let h : g.levels < g.levels = rw length-range_with_len at l in absurd (omega arith))

-- the first `levels` of a list of pixels, each changed by how often it occurs in the row
pub each_level_is : (change : ℕ → ℕ → ℕ) (levels : ℕ) (old new row : List ℕ) → levels ≤ 1024 → length new ≡ 1024 →
    ((l : ℕ) → l < 1024 → get_or new l 0 ≡ change (get_or old l 0) (occurs l row)) →
    take levels new ≡ map (λ l. change (get_or (take levels old) l 0) (occurs l row)) (range_with_len 0 levels)
each_level_is change levels old new row few wide each =
    fill_by_all (λ l. change (get_or (take levels old) l 0) (occurs l row)) (take levels new) levels 0 (length-take-le levels new (omega arith))
    (λ k h. get_or-take levels new k 0 h ∙ each k (omega arith) ∙ ap (λ n. change n (occurs k row)) (sym (get_or-take levels old k 0 h)))

-- where nothing stands past the levels, the first `levels` of the list have it all
pub sum_of_levels : (levels : ℕ) (pixels : List ℕ) → ((l : ℕ) → levels ≤ l → get_or pixels l 0 ≡ 0) → sum (take levels pixels) ≡ sum pixels
sum_of_levels levels pixels past =
    let e : sum (drop levels pixels) ≡ 0 = sum_zeros (drop levels pixels) (λ l h. get_or-drop levels pixels l 0 ∙ past (levels + l) (omega arith)) in
    let s = sum_by-take-drop (λ x. x) pixels levels in
    omega arith

-- past the levels a change by the row leaves nothing
pub past_stays : (change : ℕ → ℕ → ℕ) → change 0 0 ≡ 0 → (levels : ℕ) (old new row : List ℕ) → length new ≡ 1024 →
    ((l : ℕ) → l < 1024 → get_or new l 0 ≡ change (get_or old l 0) (occurs l row)) →
    ((k : ℕ) → k < length row → get_or row k 0 < levels) →
    ((l : ℕ) → levels ≤ l → get_or old l 0 ≡ 0) → (l : ℕ) → levels ≤ l → get_or new l 0 ≡ 0
past_stays change none levels old new row wide each inside past l h = elim (cases_lt l 1024) [
  | inl within ↦ (
      let absent : occurs l row ≡ 0 = occurs_none row l (λ k lt e. let i = inside k lt in omega arith) in
      each l within ∙ rw (past l h, absent) none)
  | inr beyond ↦ get_or_past new l 0 (omega arith)
]

-- a list of pixels that has been changed by a row that the ledger accepts
module _ (g : Ledger) (call : Asked) (change : ℕ → ℕ → ℕ) (row new : List ℕ) (total : ℕ)
    (accepted : step g call ≡ accepts (each_level g change row))
    (changed : take g.levels new ≡ (each_level g change row).at)
    (balance : total ≡ sum (take g.levels new)) where
  abbrev with_pixels : List ℕ → Ledger
  with_pixels ps = record { levels = g.levels; at = ps }

  pub row_ledger : with_pixels (take g.levels new) ≡ (step g call).0
  row_ledger = ap with_pixels changed ∙ sym (ap (λ (s : Ledger × Told). s.0) accepted)

  pub row_answer : now_total total ≡ (step g call).1
  row_answer = ap now_total (balance ∙ ap sum changed) ∙ sym (ap (λ (s : Ledger × Told). s.1) accepted)

-- A histogram's list of pixels, changed by a row of its levels.
module _ (h : Histogram) (row : List ℕ) (levels : first_no_level h.levels row ≡ length row) where
  at_level : (l : ℕ) → l < h.levels → pixels_at (ledger_of h) l ≡ get_or h.pixels l 0
  at_level l within = get_or-take h.levels h.pixels l 0 within

  pub row_fits : (k : ℕ) → k < length row → get_or row k 0 < 1024
  row_fits k within = let i = pixel_is_level (ledger_of h) row levels k within in omega (arith, h.range)

  pub all_pixels : sum h.pixels ≡ h.total
  all_pixels = sym (h.balance ∙ sum_of_levels h.levels h.pixels h.past)

  pub short_level : (low : ℕ) → LowestShort h.pixels row (Some low) → step (ledger_of h) (withdrawn row) ≡ refuses (ledger_of h) 4 low
  short_level low short =
      let within : low < h.levels = elim (cases_lt low h.levels) [
        | inl lt ↦ lt
        | inr beyond ↦ (
            let absent : occurs low row ≡ 0 = occurs_none row low (λ k lt e. let i = pixel_is_level (ledger_of h) row levels k lt in omega arith) in
            absurd (omega (arith, short.1)))
      ] in
      let is = lowest_short_is (ledger_of h) row low within (rw (at_level low within) short.1) (λ l lt. let i : l < h.levels = omega arith in rw (at_level l i) (short.2 l lt)) in
      withdrawn_short (ledger_of h) row levels low is within

  pub none_short : LowestShort h.pixels row None → step (ledger_of h) (withdrawn row) ≡ accepts (each_level (ledger_of h) ◌-◌ row)
  none_short enough = withdrawn_accepted (ledger_of h) row levels
      (none_short_is (ledger_of h) row (λ l lt. rw (at_level l lt) (enough l (omega (arith, h.range)))))

  module _ (change : ℕ → ℕ → ℕ) (none : change 0 0 ≡ 0) (new : List ℕ) (wide : length new ≡ 1024)
      (each : (l : ℕ) → l < 1024 → get_or new l 0 ≡ change (get_or h.pixels l 0) (occurs l row)) where
    pub new_past : (l : ℕ) → h.levels ≤ l → get_or new l 0 ≡ 0
    new_past = past_stays change none h.levels h.pixels new row wide each (pixel_is_level (ledger_of h) row levels) h.past

    pub new_balance : (total : ℕ) → total ≡ sum new → total ≡ sum (take h.levels new)
    new_balance total e = e ∙ sym (sum_of_levels h.levels new new_past)

    pub new_levels : take h.levels new ≡ (each_level (ledger_of h) change row).at
    new_levels = each_level_is change h.levels h.pixels new row h.range.1 wide each

-- a number that is not a level has no pixels
pub no_level_none : (h : Histogram) (l : ℕ) → h.levels ≤ l → pixels_at (ledger_of h) l ≡ 0
no_level_none h l beyond = getD_take_past h.levels h.pixels l beyond
