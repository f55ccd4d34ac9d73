-- Which bytes a histogram and a table have as a file: the head, the section of the levels and the section of the bins.
use Rattle.std.specs.Prelude.{ℕ, List, ◌∷◌, ◌++◌, length, filter, nat_lt}
use Rattle.std.specs.List.{range_with_len, flat_map}
use Rattle.counting.specs.Ledger.{Ledger, pixels_at}
use Rattle.tables.specs.Table.{Table, bound_of, representative_of}
use Rattle.tablefile.specs.Numbers.{word, long}

-- section 0: edition 5, and the number of levels
abbrev pub head_bytes : ℕ → List ℕ
head_bytes levels = 5 ∷ word levels

-- the levels below `k` that have pixels, lowest first
abbrev pub counted_below : Ledger → ℕ → List ℕ
counted_below g k = filter (λ l. nat_lt 0 (pixels_at g l)) (range_with_len 0 k)

abbrev pub counted_of : Ledger → List ℕ
counted_of g = counted_below g g.levels

-- an entry of section 1: a level and its pixels
abbrev pub level_bytes : Ledger → ℕ → List ℕ
level_bytes g l = word l ++ long (pixels_at g l)

-- section 1: how many levels have pixels, and an entry for each
abbrev pub levels_bytes : Ledger → List ℕ
levels_bytes g = word (length (counted_of g)) ++ flat_map (level_bytes g) (counted_of g)

-- an entry of section 2: a bin's bound and its representative
abbrev pub bin_bytes : Table → ℕ → List ℕ
bin_bytes t b = word (bound_of t b) ++ word (representative_of t b)

-- section 2: how many bins there are, and an entry for each
abbrev pub bins_bytes : Table → List ℕ
bins_bytes t = word (length t.bounds) ++ flat_map (bin_bytes t) (range_with_len 0 (length t.bounds))

unfoldable pub bytes_of : Ledger → Table → List ℕ
bytes_of g t = head_bytes g.levels ++ (levels_bytes g ++ bins_bytes t)
