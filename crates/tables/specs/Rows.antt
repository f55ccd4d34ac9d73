-- Rows of pixels turned into bin indices and back: what is written, and which refusal a row fits.
use Rattle.std.specs.Prelude.{ℕ, min, cond, ltb, List, [], ◌∷◌, map, length, Some, None, Option, Result, nat_lt}
use Rattle.std.specs.List.{prefix_len}
use Rattle.counting.specs.Ledger.{first_no_level}
use Rattle.counting.specs.Outputs.{Row, Wrote}
use Rattle.refusals.specs.declared.refusal.Refusal.{Refusal}
use Rattle.tables.specs.Table.{Table, bin_of, representative_of, shown_by}

-- the bin of each pixel of a row
abbrev pub indexed : Table → List ℕ → List ℕ
indexed t row = map (bin_of t) row

-- the grey of each index
abbrev pub greys_of : Table → List ℕ → List ℕ
greys_of t indices = map (representative_of t) indices

-- the grey that each pixel of a row is shown as
abbrev pub shown_row : Table → List ℕ → List ℕ
shown_row t row = map (shown_by t) row

-- the first place of an index that is no bin's, or the length where there is none
abbrev pub first_no_bin : Table → List ℕ → ℕ
first_no_bin t indices = prefix_len (λ i. ltb i (length t.bounds)) indices

-- the refusal of an output of `room` cells that is too short for `needed`
abbrev pub room_row : ℕ → ℕ → Option Row
room_row room needed = cond (nat_lt room needed) (Some (10, needed ∷ [])) None

-- a pixel that is not a level, then an output too short
abbrev pub index_row : Table → List ℕ → ℕ → Option Row
index_row t row room =
    cond (nat_lt (first_no_level t.levels row) (length row)) (Some (2, first_no_level t.levels row ∷ [])) (room_row room (length row))

-- an index that is no bin's, then an output too short
abbrev pub show_row : Table → List ℕ → ℕ → Option Row
show_row t indices room =
    cond (nat_lt (first_no_bin t indices) (length indices)) (Some (9, first_no_bin t indices ∷ [])) (room_row room (length indices))

-- Indexing a row and showing it puts each pixel at its bin's grey; refused as indexing is, or for either output.
abbrev pub Reshown : Table → List ℕ → Result ℕ Refusal → List ℕ → List ℕ → List ℕ → List ℕ → Type 0
Reshown t row r indices indices_then greys greys_then =
    Wrote (index_row t row (min (length indices) (length greys))) (indexed t row) r indices indices_then
    × Wrote (index_row t row (min (length indices) (length greys))) (shown_row t row) r greys greys_then
