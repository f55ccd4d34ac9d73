-- One more pixel taken off: which level is then the lowest that has not enough.
use Rattle.std.proofs.Common.{◌≡◌, ℕ, ◌+◌, ◌-◌, ◌<◌, ◌≤◌, min, ◌≢◌, ◌⊎◌, List, length, get_or, take, set, IfNone, Some, None, sum, Option, ◌∙◌, inl, inr, arith, length-set, MatchOption}
use Rattle.std.proofs.lemmas.Bool.{cases_eq, cases_lt}
use Rattle.std.proofs.lemmas.List.Sums.{sum_by-set}
use Rattle.std.proofs.lemmas.List.{set-get_or}
use Rattle.counting.specs.Ledger.{occurs}
use Rattle.counting.specs.Short.{Enough, LowestShort}
use Rattle.counting.proofs.Rows.{occurs_same, occurs_other, changed_more}

module _ (old row : List ℕ) (i : ℕ) (within : i < length row) where
  -- a level that is not the pixel's has enough if it had
  apart : (l : ℕ) → l ≢ get_or row i 0 → Enough old (take i row) l → Enough old (take (i + 1) row) l
  apart l ne e = rw (occurs_other row i l within ne) e

  -- the pixel's own level had one left
  own : occurs (get_or row i 0) (take i row) < get_or old (get_or row i 0) 0 → Enough old (take (i + 1) row) (get_or row i 0)
  own h = rw (occurs_same row i within) (omega arith)

  either : (l : ℕ) → occurs (get_or row i 0) (take i row) < get_or old (get_or row i 0) 0 → Enough old (take i row) l → Enough old (take (i + 1) row) l
  either l h e = elim (cases_eq l (get_or row i 0)) [ inl same ↦ rw same (own h) | inr ne ↦ apart l ne e ]

  -- what was short stays so
  short_stays : (l : ℕ) → get_or old l 0 < occurs l (take i row) → get_or old l 0 < occurs l (take (i + 1) row)
  short_stays l h = elim (cases_eq l (get_or row i 0)) [
    | inl same ↦ (let more = occurs_same row i within in rw same (let h' = rw same at h in omega arith))
    | inr ne ↦ rw (occurs_other row i l within ne) h
  ]

  -- a pixel of a level that had one left
  pub lowest_kept : (lowest : Option ℕ) → occurs (get_or row i 0) (take i row) < get_or old (get_or row i 0) 0 → LowestShort old (take i row) lowest → LowestShort old (take (i + 1) row) lowest
  lowest_kept None h s = λ l lt. either l h (s l lt)
  lowest_kept (Some low) h s = (s.0, short_stays low s.1, λ l lt. either l h (s.2 l lt))

  -- a pixel of a level that had none left
  pub lowest_lowered : (lowest : Option ℕ) (next : ℕ) → get_or row i 0 < 1024 → get_or old (get_or row i 0) 0 ≤ occurs (get_or row i 0) (take i row) →
      MatchOption lowest (next ≡ get_or row i 0) (λ low. next ≡ min low (get_or row i 0)) →
      LowestShort old (take i row) lowest → LowestShort old (take (i + 1) row) (Some next)
  lowest_lowered None next level none is s =
      let more = occurs_same row i within in
      let here : get_or old (get_or row i 0) 0 < occurs (get_or row i 0) (take (i + 1) row) = omega arith in
      (omega arith, rw is here, λ l lt. apart l (omega arith) (s l (omega arith)))
  lowest_lowered (Some low) next level none is s =
      let more = occurs_same row i within in
      let here : get_or old (get_or row i 0) 0 < occurs (get_or row i 0) (take (i + 1) row) = omega arith in
      let there = short_stays low s.1 in
      let which : (next ≡ low) ⊎ (next ≡ get_or row i 0) = elim (cases_lt low (get_or row i 0)) [ inl h ↦ inl (omega arith) | inr h ↦ inr (omega arith) ] in
      (omega arith, elim which [ inl e ↦ rw e there | inr e ↦ rw e here ], λ l lt. apart l (omega arith) (s.2 l (omega arith)))

-- how far a row is taken off: each level has lost what occurred so far, or all it had, and where none was short the sum has lost as many
abbrev pub Taken : List ℕ → List ℕ → List ℕ → Option ℕ → ℕ → Type 0
Taken old new row lowest i =
    (length new ≡ 1024)
    × ((k : ℕ) → k < 1024 → get_or new k 0 ≡ get_or old k 0 - occurs k (take i row))
    × LowestShort old (take i row) lowest
    × IfNone lowest (sum new + i ≡ sum old)

module _ (old new row : List ℕ) (i : ℕ) (within : i < length row) (level : get_or row i 0 < 1024) where
  one_less : (lowest : Option ℕ) (other : List ℕ) → sum other + 1 ≡ sum new → IfNone lowest (sum new + i ≡ sum old) → IfNone lowest (sum other + (i + 1) ≡ sum old)
  one_less None other e s = omega arith
  one_less (Some low) other e s = tt

  -- a pixel of a level that has some left
  pub taken_one : (lowest after : Option ℕ) (then : List ℕ) → Taken old new row lowest i → 0 < get_or new (get_or row i 0) 0 →
      then ≡ set new (get_or row i 0) (get_or new (get_or row i 0) 0 - 1) → after ≡ lowest → Taken old then row after (i + 1)
  taken_one lowest after then t some e f =
      let p = get_or row i 0 in
      let here = t.1 p level in
      let total = sum_by-set (λ x. x) new p (get_or new p 0 - 1) 0 (omega arith) in
      rw (e, f) (
        length-set new p (get_or new p 0 - 1) ∙ t.0,
        changed_more ◌-◌ old new row i (get_or new p 0 - 1) t.0 within level t.1 (omega arith),
        lowest_kept old row i within lowest (omega arith) t.2,
        one_less lowest (set new p (get_or new p 0 - 1)) (omega arith) t.3,
      )

  -- a pixel of a level that has none left
  pub taken_none : (lowest after : Option ℕ) (then : List ℕ) (next : ℕ) → Taken old new row lowest i → get_or new (get_or row i 0) 0 ≤ 0 →
      MatchOption lowest (next ≡ get_or row i 0) (λ low. next ≡ min low (get_or row i 0)) →
      then ≡ new → after ≡ Some next → Taken old then row after (i + 1)
  taken_none lowest after then next t none is e f =
      let p = get_or row i 0 in
      let here = t.1 p level in
      rw (e, f) (
        t.0,
        rw (set-get_or new p 0) at (changed_more ◌-◌ old new row i (get_or new p 0) t.0 within level t.1 (omega arith)),
        lowest_lowered old row i within lowest next level (omega arith) is t.2,
        tt,
      )
