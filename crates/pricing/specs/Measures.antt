-- The errors of the plain measures, and what each layer makes of the error below it.
use Rattle.std.specs.Prelude.{ℕ, ◌+◌, ◌-◌, ◌*◌, min, List, slice_index_or}

-- the difference without its sign
abbrev pub distance : ℕ → ℕ → ℕ
distance k r = (k - r) + (r - k)

-- the square of the difference
abbrev pub squared : ℕ → ℕ → ℕ
squared k r = distance k r * distance k r

-- the weight of a level; one that the list does not reach weighs 1
abbrev pub weight_at : List ℕ → ℕ → ℕ
weight_at weights k = slice_index_or weights k 1

-- the error times the weight of the level k, held at 2 ^ 32 - 1
abbrev pub weighed : List ℕ → (ℕ → ℕ → ℕ) → ℕ → ℕ → ℕ
weighed weights error k r = min (weight_at weights k * error k r) 4294967295

-- the error less t, or none where t is larger
abbrev pub allowed : ℕ → (ℕ → ℕ → ℕ) → ℕ → ℕ → ℕ
allowed t error k r = error k r - t

-- the smaller of the error and t
abbrev pub capped : ℕ → (ℕ → ℕ → ℕ) → ℕ → ℕ → ℕ
capped t error k r = min (error k r) t
