-- What the samples of a grey scan say: its pixels, and the pixels of one row.
use Rattle.std.specs.Prelude.{ℕ, ◌+◌, ◌*◌, Bool, cond, List, [], ◌∷◌, take, drop, nat_le, nat_lt}
use Rattle.std.specs.List.{list_all}

-- How many bytes one sample takes: one where the maximum value is below 256, else two.
abbrev pub sample_size : ℕ → ℕ
sample_size m = cond (nat_lt m 256) 1 2

-- The numbers that bytes write two by two, the more significant byte first. A last byte alone writes none.
abbrev pub pairs : List ℕ → List ℕ
pairs [] = []
pairs (b ∷ []) = []
pairs (high ∷ low ∷ bs) = (256 * high + low) ∷ pairs bs

-- The pixels that samples give, from the upper left corner on, row after row, where m is the maximum value.
abbrev pub pixels_of : ℕ → List ℕ → List ℕ
pixels_of m samples = cond (nat_lt m 256) samples (pairs samples)

-- The pixels of the row y, in a raster that is w pixels wide. There is none in a row past the last.
abbrev pub row_of : ℕ → List ℕ → ℕ → List ℕ
row_of w ps y = take w (drop (y * w) ps)

-- No pixel is above m.
abbrev pub within : ℕ → List ℕ → Bool
within m ps = list_all (λ p. nat_le p m) ps
