-- Where the numbers of a file stand, and what they are. Entries are numbered from 0.
use Rattle.std.specs.Prelude.{ℕ, ◌+◌, ◌*◌, List}
use Rattle.tablefile.specs.Numbers.{word_at, long_at}

-- section 0: the number of levels, after the edition byte
abbrev pub levels_in : List ℕ → ℕ
levels_in file = word_at file 1

-- section 1: the number of its entries, and each entry's level and pixels
abbrev pub counted_in : List ℕ → ℕ
counted_in file = word_at file 3

abbrev pub level_place : ℕ → ℕ
level_place i = 5 + 6 * i

abbrev pub level_in : List ℕ → ℕ → ℕ
level_in file i = word_at file (level_place i)

abbrev pub pixels_in : List ℕ → ℕ → ℕ
pixels_in file i = long_at file (level_place i + 2)

-- section 2, at `place`: the number of its entries, and each entry's bound and representative
abbrev pub bins_place : List ℕ → ℕ
bins_place file = level_place (counted_in file)

abbrev pub bins_in : List ℕ → ℕ → ℕ
bins_in file place = word_at file place

abbrev pub bin_place : ℕ → ℕ → ℕ
bin_place place i = place + 2 + 4 * i

abbrev pub bound_in : List ℕ → ℕ → ℕ → ℕ
bound_in file place i = word_at file (bin_place place i)

abbrev pub representative_in : List ℕ → ℕ → ℕ → ℕ
representative_in file place i = word_at file (bin_place place i + 2)
