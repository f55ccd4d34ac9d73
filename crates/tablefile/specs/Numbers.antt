-- The numbers of a file, most significant byte first: words have 16 bits and longs 32.
use Rattle.std.specs.Prelude.{ℕ, ◌+◌, ◌*◌, ◌/◌, ◌%◌, List, [], ◌∷◌, slice_index}

-- the bytes of a number
abbrev pub word : ℕ → List ℕ
word n = n / 256 ∷ n % 256 ∷ []

abbrev pub long : ℕ → List ℕ
long n = n / 16777216 ∷ n / 65536 % 256 ∷ n / 256 % 256 ∷ n % 256 ∷ []

-- the number at a place of a file
abbrev pub word_at : List ℕ → ℕ → ℕ
word_at file place = slice_index file place * 256 + slice_index file (place + 1)

abbrev pub long_at : List ℕ → ℕ → ℕ
long_at file place = slice_index file place * 16777216 + slice_index file (place + 1) * 65536 + slice_index file (place + 2) * 256 + slice_index file (place + 3)
