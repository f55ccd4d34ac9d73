-- The first fault of a file, in the order of its bytes: the row of the refusal table with what is carried along.
-- 12: the edition is not 5. 13: the file ends early, inside a section. 14: a number or an entry of a section breaks its rule,
-- at the place of its first byte. 15: bytes follow the last section.
use Rattle.std.specs.Prelude.{ℕ, zero, suc, ◌+◌, Bool, true, cond, ◌&&◌, List, [], ◌∷◌, length, Some, None, Option, ◌==◌, nat_le, nat_lt, slice_index}
use Rattle.counting.specs.Outputs.{Row}
use Rattle.tablefile.specs.Fields.{levels_in, counted_in, level_place, level_in, pixels_in, bins_place, bins_in, bin_place, bound_in, representative_in}

-- of two parts, the fault of the first that has one
abbrev pub first : Option Row → Option Row → Option Row
first (Some fault) later = Some fault
first None later = later

-- of entries 0 to n - 1, the fault of the first that has one
unfoldable pub first_of : (ℕ → Option Row) → ℕ → Option Row
first_of fault zero = None
first_of fault (suc n) = first (first_of fault n) (fault n)

-- `size` bytes at a place of a section: the file ends before their last, or else they break the rule
unfoldable pub part_fault : List ℕ → ℕ → ℕ → ℕ → Bool → Option Row
part_fault file section place size rule =
    cond (nat_lt (length file) (place + size)) (Some (13, section ∷ length file ∷ []))
    (cond rule None (Some (14, section ∷ place ∷ [])))

-- Section 0: the edition byte, then 2 to 1,024 levels.
unfoldable pub edition_fault : List ℕ → Option Row
edition_fault file =
    cond (nat_lt (length file) 1) (Some (13, 0 ∷ length file ∷ []))
    (cond (slice_index file 0 == 5) None (Some (12, slice_index file 0 ∷ [])))

abbrev pub head_fault : List ℕ → Option Row
head_fault file = first (edition_fault file) (part_fault file 0 1 2 (nat_le 2 (levels_in file) && nat_le (levels_in file) 1024))

-- what an entry's number has to reach so that the numbers rise strictly: one more than the entry before has
abbrev pub least_next : (ℕ → ℕ) → ℕ → ℕ
least_next number zero = 0
least_next number (suc i) = number i + 1

-- the pixels of the entries before entry i
abbrev pub pixels_before : List ℕ → ℕ → ℕ
pixels_before file zero = 0
pixels_before file (suc i) = pixels_before file i + pixels_in file i

-- an entry of section 1: its level rises and is below `levels`, it has pixels, and with them the total is at most 4,294,967,295
abbrev pub level_rule : ℕ → ℕ → ℕ → ℕ → ℕ → Bool
level_rule levels least before level pixels =
    nat_le least level && (nat_lt level levels && (nat_lt 0 pixels && nat_le (before + pixels) 4294967295))

abbrev pub level_fault : List ℕ → ℕ → ℕ → Option Row
level_fault file levels i =
    part_fault file 1 (level_place i) 6 (level_rule levels (least_next (level_in file) i) (pixels_before file i) (level_in file i) (pixels_in file i))

-- Section 1: at most as many entries as there are levels, then each entry.
unfoldable pub levels_fault : List ℕ → ℕ → Option Row
levels_fault file levels = first (part_fault file 1 3 2 (nat_le (counted_in file) levels)) (first_of (level_fault file levels) (counted_in file))

-- an entry of section 2: its bound rises, bound and representative are below `levels`, and the last bound is the highest level
abbrev pub bin_rule : ℕ → ℕ → Bool → ℕ → ℕ → Bool
bin_rule levels least last bound representative =
    nat_le least bound && (nat_lt bound levels && (nat_lt representative levels && cond last (bound + 1 == levels) true))

abbrev pub bin_fault : List ℕ → ℕ → ℕ → ℕ → Option Row
bin_fault file levels place i =
    part_fault file 2 (bin_place place i) 4
    (bin_rule levels (least_next (bound_in file place) i) (i + 1 == bins_in file place) (bound_in file place i) (representative_in file place i))

-- Section 2, at `place`: 1 to 256 entries and at most as many as there are levels, then each entry.
unfoldable pub bins_fault : List ℕ → ℕ → ℕ → Option Row
bins_fault file levels place =
    first (part_fault file 2 place 2 (nat_le 1 (bins_in file place) && (nat_le (bins_in file place) 256 && nat_le (bins_in file place) levels)))
    (first_of (bin_fault file levels place) (bins_in file place))

-- the byte after the last section, if the file has one
unfoldable pub rest_fault : List ℕ → ℕ → Option Row
rest_fault file end = cond (nat_lt end (length file)) (Some (15, end ∷ [])) None

-- The first fault of a file: its head, its levels, its bins, and then that it ends.
unfoldable pub first_fault : List ℕ → Option Row
first_fault file =
    first (head_fault file)
    (first (levels_fault file (levels_in file))
    (first (bins_fault file (levels_in file) (bins_place file))
    (rest_fault file (bin_place (bins_place file) (bins_in file (bins_place file))))))
