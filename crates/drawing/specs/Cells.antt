-- How the best division is found, for the private functions that fill cells: the public promises do not rest on this file.
-- A cell holds a tally, and beside it, in a list of links, the place at which the last run starts.
use Rattle.std.specs.Prelude.{◌≡◌, ℕ, ◌+◌, ◌-◌, ◌*◌, ◌<◌, ◌≤◌, max, Bool, cond, ◌⊎◌, List, ◌∷◌, length, slice_index, slice_index_or}
use Rattle.pricing.specs.Tallies.{Ops}
use Rattle.divisions.specs.Divisions.{highest_least}
use Rattle.divisions.specs.Recurrence.{best_division, least_tally}

-- The cell of m bins before the last and of n levels is needed for a division of c levels into b runs: the levels can hold the runs,
-- those left over can hold the other runs, and it is the last bin only with all the levels.
pub record Needed (c b m n : ℕ) : Type 0 where
  pub under : m < n
  pub over : n ≤ m + (c - b) + 1
  pub bin : m < b
  pub last : (m + 1 < b) ⊎ (n ≡ c)

-- A filled cell has the least tally of n levels in m + 1 runs, and the place at which the last of them starts.
pub record Cell {C : Type 0} (o : Ops C) (cost : ℕ → ℕ → C) (m n : ℕ) (tally : C) (link : ℕ) : Type 0 where
  pub least : tally ≡ least_tally o cost (m + 1) n
  pub runs : best_division o cost (m + 1) n ≡ (n - link) ∷ best_division o cost m link
  pub low : m ≤ link
  pub high : link < n

-- the tally of n levels whose last run starts at place i, after the best division of what stands before it into m runs
abbrev pub ending_at : {C : Type 0} → Ops C → (ℕ → ℕ → C) → ℕ → ℕ → ℕ → C
ending_at o cost m n i = o.join (cost i (n - i)) (least_tally o cost m i)

-- A cell for which the starts from `from` on have been tried: the lowest of them, and of equals the latest.
pub record Tried {C : Type 0} (o : Ops C) (cost : ℕ → ℕ → C) (m n from : ℕ) (tally : C) (link : ℕ) : Type 0 where
  pub lowest : link ≡ highest_least o (ending_at o cost m n) from (n - 1 - from)
  pub tally_is : tally ≡ ending_at o cost m n link

-- How far the filling has come: the cells of fewer than n levels are filled, and for n levels the starts from `from` on have been tried.
-- The cell of n levels and m + 1 bins stands at (n - 1) * b + m.
pub record Searched {C : Type 0} (o : Ops C) (cost : ℕ → ℕ → C) (c b n from : ℕ) (ts : List C) (ls : List ℕ) : Type 0 where
  pub room : (c * b ≤ length ts) × (c * b ≤ length ls)
  pub filled : (m k : ℕ) → k < n → Needed c b m k → Cell o cost m k (slice_index_or ts ((k - 1) * b + m) o.neutral) (slice_index ls ((k - 1) * b + m))
  pub first : from ≡ 0 → Needed c b 0 n → Cell o cost 0 n (slice_index_or ts ((n - 1) * b) o.neutral) (slice_index ls ((n - 1) * b))
  pub tried : (m : ℕ) → 0 < m → Needed c b m n → from < n → Tried o cost m n (max from m) (slice_index_or ts ((n - 1) * b + m) o.neutral) (slice_index ls ((n - 1) * b + m))

-- a test of what a cell had against what it is given computes a function of the two
abbrev pub Computes : {C : Type 0} → (C → C → Bool → Type 0) → (C → C → Bool) → Type 0
Computes {C = C} post keep = (had given : C) (kept : Bool) → post had given kept → kept ≡ keep had given

-- A run of this price, which starts at `start`, is put after what the cells from `before` hold, and goes into the cells from `row`:
-- `keep old new` says whether a cell keeps what it has. All other cells stay.
pub record Turned {C : Type 0} (o : Ops C) (keep : C → C → Bool) (price : C) (start row before count : ℕ) (ts ts' : List C) (ls ls' : List ℕ) : Type 0 where
  pub long : (length ts' ≡ length ts) × (length ls' ≡ length ls)
  pub tallies : (k : ℕ) → k < count → slice_index_or ts' (row + k) o.neutral ≡ cond (keep (slice_index_or ts (row + k) o.neutral) (o.join price (slice_index_or ts (before + k) o.neutral))) (slice_index_or ts (row + k) o.neutral) (o.join price (slice_index_or ts (before + k) o.neutral))
  pub links : (k : ℕ) → k < count → slice_index ls' (row + k) ≡ cond (keep (slice_index_or ts (row + k) o.neutral) (o.join price (slice_index_or ts (before + k) o.neutral))) (slice_index ls (row + k)) start
  pub others : (k : ℕ) → (k < row) ⊎ (row + count ≤ k) → (slice_index_or ts' k o.neutral ≡ slice_index_or ts k o.neutral) × (slice_index ls' k ≡ slice_index ls k)
