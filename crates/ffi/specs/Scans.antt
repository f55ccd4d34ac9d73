-- A scan as one list of pixels whose rows stand one after the other: its rows, its ledger, and what a call on each row writes.
use Rattle.std.specs.Prelude.{◌≡◌, ℕ, ◌*◌, ◌<◌, ◌≤◌, min, List, ◌∷◌, map, length, take, drop, None, Option, ◌≢◌, slice_index_or}
use Rattle.std.specs.List.{range_with_len}
use Rattle.counting.specs.Ledger.{Ledger, Asked, opened, counted, after}
use Rattle.counting.specs.Outputs.{Row}

-- row `i`, or what the list has of it
abbrev pub row_of : {X : Type 0} → ℕ → List X → ℕ → List X
row_of width cells i = take width (drop (i * width) cells)

-- opening a histogram and counting the first `rows` rows, one after the other
abbrev pub calls : ℕ → ℕ → ℕ → List ℕ → List Asked
calls levels rows width scan = opened levels ∷ map (λ i. counted (row_of width scan i)) (range_with_len 0 rows)

-- the ledger of a scan; a refused call alters nothing
abbrev pub scanned : ℕ → ℕ → ℕ → List ℕ → Ledger
scanned levels rows width scan = after (calls levels rows width scan)

-- the first cells of an output, up to `most`, each hold what `gives` says of their place, and the others are as they were
pub record FilledBy {X : Type 0} (gives : ℕ → X → Type 0) (most : ℕ) (before then : List X) : Type 0 where
  pub cells : (none : X) (k : ℕ) → k < most → k < length before → gives k (slice_index_or then k none)
  pub rest : (none : X) (k : ℕ) → most ≤ k → slice_index_or then k none ≡ slice_index_or before k none

-- the first cells of an output, up to `most`, are those that `f` gives, and the others are as they were
abbrev pub Filled : (ℕ → ℕ) → ℕ → List ℕ → List ℕ → Type 0
Filled f most before then = FilledBy (λ k cell. cell ≡ f k) most before then

-- The first rows of a scan, each written at its own place as `f` of each pixel, up to the first row that is refused: `fits` is
-- the row of the refusal table that a row of pixels meets at an output of so many cells.
pub record Written {X Y : Type 0} (f : X → Y) (fits : List X → ℕ → Option Row) (rows width : ℕ) (scan : List X) (before then : List Y) (done : ℕ) : Type 0 where
  pub within : done ≤ rows
  pub cells : (x : X) (y : Y) (k : ℕ) → k < min (done * width) (length scan) → slice_index_or then k y ≡ f (slice_index_or scan k x)
  pub rest : (y : Y) (k : ℕ) → min (done * width) (length scan) ≤ k → slice_index_or then k y ≡ slice_index_or before k y
  pub accepted : (i : ℕ) → i < done → fits (row_of width scan i) (length (row_of width before i)) ≡ None
  pub stopped : done < rows → (fits (row_of width scan done) (length (row_of width before done)) ≢ None)
