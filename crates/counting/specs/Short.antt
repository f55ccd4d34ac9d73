-- Which level of a list of pixels is too short for a row that is taken off it.
use Rattle.std.specs.Prelude.{ℕ, ◌<◌, ◌≤◌, List, Option, MatchOption, slice_index}
use Rattle.counting.specs.Ledger.{occurs}

-- a level has as many pixels as the row takes off it
abbrev pub Enough : List ℕ → List ℕ → ℕ → Type 0
Enough pixels row l = occurs l row ≤ slice_index pixels l

-- the lowest of the 1024 levels that has not enough, if any
abbrev pub LowestShort : List ℕ → List ℕ → Option ℕ → Type 0
LowestShort pixels row lowest =
    MatchOption lowest ((l : ℕ) → l < 1024 → Enough pixels row l)
    (λ low. (low < 1024) × (slice_index pixels low < occurs low row) × ((l : ℕ) → l < low → Enough pixels row l))
