-- The ledger of a run of calls: how many levels there are and how many pixels stand at each,
-- worked out from what the calls asked for and from nothing else.
use Rattle.std.specs.Prelude.{ℕ, ◌+◌, ◌-◌, cond, ◌&&◌, ltb, leb, List, [], ◌∷◌, map, length, replicate, sum, count_by, nat_eq, nat_le, nat_lt, slice_index}
use Rattle.std.specs.List.{range_with_len, prefix_len}

-- the number of levels, and the pixels at each of them
pub record Ledger : Type 0 where
  pub levels : ℕ
  pub at : List ℕ

-- no pixels at any of `k` levels
abbrev pub blank : ℕ → Ledger
blank k = record { levels = k; at = replicate k 0 }

-- a histogram's place before its first call
abbrev pub fresh_ledger : Ledger
fresh_ledger = blank 2

abbrev pub total_of : Ledger → ℕ
total_of g = sum g.at

-- the pixels at a level; a number that is not a level has none
abbrev pub pixels_at : Ledger → ℕ → ℕ
pixels_at g l = slice_index g.at l

-- the levels that have pixels are the counted levels, and this is their number
abbrev pub counted_levels : Ledger → ℕ
counted_levels g = count_by (ltb 0) g.at

-- how often a level occurs in a row
abbrev pub occurs : ℕ → List ℕ → ℕ
occurs l row = count_by (nat_eq l) row

-- What a call asked for.
pub data Asked : Type 0 where
  opened : ℕ → Asked
  counted : List ℕ → Asked
  withdrawn : List ℕ → Asked
  cleared : Asked

-- What a call is told: nothing, the new total, or the number of a refusal with the values carried along.
pub data Told : Type 0 where
  done : Told
  now_total : ℕ → Told
  refused : ℕ → List ℕ → Told

-- the first place of a row whose pixel is not one of `k` levels, or the row's length where there is none
abbrev pub first_no_level : ℕ → List ℕ → ℕ
first_no_level k row = prefix_len (λ p. ltb p k) row

-- the lowest level that occurs in the row more often than the ledger has pixels there, or the number of levels where there is none
abbrev pub lowest_short : Ledger → List ℕ → ℕ
lowest_short g row = prefix_len (λ l. leb (occurs l row) (pixels_at g l)) (range_with_len 0 g.levels)

-- every level changed by how often it occurs in the row
abbrev pub each_level : Ledger → (ℕ → ℕ → ℕ) → List ℕ → Ledger
each_level g change row = record { levels = g.levels; at = map (λ l. change (pixels_at g l) (occurs l row)) (range_with_len 0 g.levels) }

-- a call that is refused alters nothing
abbrev pub refuses : Ledger → ℕ → ℕ → Ledger × Told
refuses g number value = (g, refused number (value ∷ []))

-- a ledger after an accepted row, and what is told
abbrev pub accepts : Ledger → Ledger × Told
accepts g = (g, now_total (total_of g))

-- One call: first held against the refusals that it can meet, the row of the table with the lowest number first.
abbrev pub step : Ledger → Asked → Ledger × Told
step g (opened k) =
    cond (nat_le 2 k && nat_le k 1024) (blank k, done) (refuses g 1 k)
step g (counted row) =
    cond (nat_lt (first_no_level g.levels row) (length row)) (refuses g 2 (first_no_level g.levels row))
    (cond (nat_lt 4294967295 (total_of g + length row)) (refuses g 3 (total_of g))
    (accepts (each_level g ◌+◌ row)))
step g (withdrawn row) =
    cond (nat_lt (first_no_level g.levels row) (length row)) (refuses g 2 (first_no_level g.levels row))
    (cond (nat_lt (lowest_short g row) g.levels) (refuses g 4 (lowest_short g row))
    (accepts (each_level g ◌-◌ row)))
step g cleared = (blank g.levels, done)

-- The ledger after a run of calls, and what each of the calls was told.
abbrev pub after_from : Ledger → List Asked → Ledger
after_from g [] = g
after_from g (a ∷ rest) = after_from (step g a).0 rest

abbrev pub told_from : Ledger → List Asked → List Told
told_from g [] = []
told_from g (a ∷ rest) = (step g a).1 ∷ told_from (step g a).0 rest

abbrev pub after : List Asked → Ledger
after asked = after_from fresh_ledger asked

abbrev pub told : List Asked → List Told
told asked = told_from fresh_ledger asked
