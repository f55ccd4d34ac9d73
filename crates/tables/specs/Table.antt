-- The level table: where the greys are cut, and which grey stands for each cut.
use Rattle.std.specs.Prelude.{◌≡◌, ℕ, ◌+◌, ◌-◌, ◌<◌, ◌≤◌, List, [], ◌∷◌, length, nat_lt, slice_index, slice_index_or}
use Rattle.std.specs.List.{prefix_len}

-- the number of levels, and for each bin its bound, the highest level that belongs to it, and its representative, the grey that stands for it
pub record Table : Type 0 where
  pub levels : ℕ
  pub bounds : List ℕ
  pub representatives : List ℕ

abbrev pub given : ℕ → List ℕ → List ℕ → Table
given levels bounds representatives = record { levels = levels; bounds = bounds; representatives = representatives }

-- the rules of a table that exists
pub record Lawful (t : Table) : Type 0 where
  pub range : (2 ≤ t.levels) × (t.levels ≤ 1024)
  pub few : (1 ≤ length t.bounds) × (length t.bounds ≤ 256)
  pub paired : length t.representatives ≡ length t.bounds
  pub rising : (i : ℕ) → i + 1 < length t.bounds → slice_index t.bounds i < slice_index t.bounds (i + 1)
  pub ends : slice_index_or t.bounds (length t.bounds - 1) 0 + 1 ≡ t.levels
  pub greys : (i : ℕ) → i < length t.representatives → slice_index t.representatives i < t.levels

-- a table's place before its first use
abbrev pub fresh_table : Table
fresh_table = given 2 (1 ∷ []) (0 ∷ [])

-- the lowest bin whose bound is not below the level
abbrev pub bin_of : Table → ℕ → ℕ
bin_of t level = prefix_len (λ bound. nat_lt bound level) t.bounds

-- a bin's bound and representative; past the last bin they are 0
abbrev pub bound_of : Table → ℕ → ℕ
bound_of t bin = slice_index t.bounds bin

abbrev pub representative_of : Table → ℕ → ℕ
representative_of t bin = slice_index t.representatives bin

-- what a level is shown as: the table's own map
abbrev pub shown_by : Table → ℕ → ℕ
shown_by t level = representative_of t (bin_of t level)
