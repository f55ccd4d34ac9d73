-- What the parts of the reader and of the writer promise each other.
use Rattle.std.specs.Prelude.{◌≡◌, ℕ, zero, suc, ◌+◌, ◌<◌, ◌≤◌, List, map, length, take, drop, replicate, Some, None, Ok, Err, Option, Result, slice_set}
use Rattle.std.proofs.Math.Seq.{paste}
use Rattle.std.specs.List.{range_with_len}
use Rattle.counting.specs.Ledger.{Ledger}
use Rattle.counting.specs.Outputs.{Row}
use Rattle.counting.specs.Meaning.{ledger_of}
use Rattle.counting.specs.declared.histogram.Histogram.{Histogram}
use Rattle.tables.specs.Table.{Table, given}
use Rattle.tables.specs.Bins.{bounds_in, representatives_in}
use Rattle.tables.specs.Meaning.{table_of}
use Rattle.tables.specs.declared.table.Bin.{Bin}
use Rattle.tables.specs.declared.table.LevelTable.{LevelTable}
use Rattle.tablefile.specs.declared.fault.CutShort.{CutShort}
use Rattle.tablefile.specs.declared.body.Body.{Body}
use Rattle.tablefile.specs.declared.body.LevelEntry.{LevelEntry}
use Rattle.tablefile.specs.declared.writer.Writer.{Writer}
use Rattle.tablefile.specs.Bytes.{bytes_of}
use Rattle.tablefile.specs.Numbers.{word_at, long_at}
use Rattle.tablefile.specs.Fields.{levels_in, counted_in, level_in, pixels_in, bins_place, bins_in, bin_place, bound_in, representative_in}

-- the `size` bytes of the number at a place, or that it is cut short
abbrev pub GotNumber : List ℕ → ℕ → ℕ → Result (List ℕ) CutShort → Type 0
GotNumber file place size (Ok bytes) = (bytes ≡ take size (drop place file)) × (place + size ≤ length file)
GotNumber file place size (Err fault) = (length file < place + size) × (fault.length ≡ length file)

-- the same file, read on to a place
abbrev pub ReadOn : Body → ℕ → Body → Type 0
ReadOn body place then = (then.file.now ≡ body.file.now) × (then.levels ≡ body.levels) × (then.place ≡ place)

-- the next number of a file, which is then read
abbrev pub TookNumber : Body → ℕ → Body → Result (List ℕ) CutShort → Type 0
TookNumber body size then (Ok bytes) = GotNumber body.file.now body.place size (Ok bytes) × ReadOn body (body.place + size) then
TookNumber body size then (Err fault) = GotNumber body.file.now body.place size (Err fault)

-- A part of a file: refused by its fault, where `row` says which row of the refusal table a fault is; else P of what is read.
abbrev pub Judged : {X E : Type 0} → (E → Row) → Option Row → (X → Type 0) → Result X E → Type 0
Judged row fault P (Ok x) = (fault ≡ None) × P x
Judged row fault P (Err e) = fault ≡ Some (row e)

-- what the first entries of section 1 make of 1,024 levels with no pixels
unfoldable pub pixels_upto : List ℕ → ℕ → List ℕ
pixels_upto file zero = replicate 1024 0
pixels_upto file (suc i) = slice_set (pixels_upto file i) (level_in file i) (pixels_in file i)

-- the ledger that section 1 lists
abbrev pub ledger_in : List ℕ → ℕ → Ledger
ledger_in file levels = record { levels = levels; at = take levels (pixels_upto file (counted_in file)) }

-- the table that section 2, at `place`, lists
abbrev pub table_in : List ℕ → ℕ → ℕ → Table
table_in file levels place =
    given levels (map (bound_in file place) (range_with_len 0 (bins_in file place))) (map (representative_in file place) (range_with_len 0 (bins_in file place)))

-- What each part of a file gives, besides that it has no fault. The file reaches to the end of the part, since a body stands within its file.
abbrev pub GotBody : List ℕ → Body → Type 0
GotBody file body = (body.file.now ≡ file) × (body.levels ≡ levels_in file) × (body.place ≡ 3)

-- an entry of section 1, where the entries before it have `before` pixels
abbrev pub GotLevel : Body → ℕ → Body → LevelEntry → Type 0
GotLevel body before then entry =
    (entry.level ≡ word_at body.file.now body.place) × (entry.pixels ≡ long_at body.file.now (body.place + 2))
    × (entry.level < body.levels) × (before + entry.pixels ≤ 4294967295) × ReadOn body (body.place + 6) then

-- the entries of section 1
abbrev pub GotPixels : Body → Body → List ℕ → Type 0
GotPixels body then pixels = (pixels ≡ pixels_upto body.file.now (counted_in body.file.now)) × ReadOn body (bins_place body.file.now) then

-- section 1
abbrev pub GotHistogram : Body → Body → Histogram → Type 0
GotHistogram body then histogram = (ledger_of histogram ≡ ledger_in body.file.now body.levels) × ReadOn body (bins_place body.file.now) then

-- an entry of section 2
abbrev pub GotBin : Body → Body → Bin → Type 0
GotBin body then bin =
    (bin.bound ≡ word_at body.file.now body.place) × (bin.representative ≡ word_at body.file.now (body.place + 2))
    × (bin.bound < body.levels) × ReadOn body (body.place + 4) then

-- the entries of section 2
abbrev pub GotBins : Body → Body → List Bin → Type 0
GotBins body then bins =
    (given body.levels (bounds_in bins) (representatives_in bins) ≡ table_in body.file.now body.levels body.place)
    × ReadOn body (bin_place body.place (bins_in body.file.now body.place)) then

-- section 2
abbrev pub GotTable : Body → Body → LevelTable → Type 0
GotTable body then table =
    (table_of table ≡ table_in body.file.now body.levels body.place) × ReadOn body (bin_place body.place (bins_in body.file.now body.place)) then

-- the whole
abbrev pub GotPair : List ℕ → Histogram × LevelTable → Type 0
GotPair file pair = (bytes_of (ledger_of pair.0) (table_of pair.1) ≡ file) × ((ledger_of pair.0).levels ≡ (table_of pair.1).levels)

-- The bytes are written over the cells from a writer's place on, which then stands after them. The cells are still those that were lent.
abbrev pub Puts : Writer → List ℕ → Writer → Type 0
Puts writer bytes then =
    (then.out.ghost_name ≡ writer.out.ghost_name) × (length then.out.now ≡ length writer.out.now) × (then.place ≡ writer.place + length bytes)
    × (then.out.now ≡ paste writer.out.now writer.place bytes (length bytes))
