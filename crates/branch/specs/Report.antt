-- What the branch program prints for its input: the numbers of the input, the calls that they ask for, and the text.
use Rattle.std.specs.Prelude.{◌≡◌, ℕ, zero, suc, ◌+◌, ◌-◌, ◌*◌, ◌%◌, Bool, ◌||◌, List, [], ◌∷◌, ◌++◌, map, length, drop, Some, codes, decimal, MatchBool, sum, Option, MatchOption, ◌==◌, nat_lt, slice_index}
use Rattle.std.specs.List.{range_with_len, flat_map}
use Rattle.std.specs.Option.{option_map}
use Rattle.counting.specs.Ledger.{Ledger, pixels_at, Asked, opened, counted, Told, done, now_total, refused, after, told}
use Rattle.counting.specs.Outputs.{Row}
use Rattle.pricing.specs.Kinds.{total_ops}
use Rattle.pricing.specs.Measures.{squared}
use Rattle.pricing.specs.declared.tallies.total.Total.{Total}
use Rattle.tables.specs.Table.{Table, bound_of, representative_of}
use Rattle.drawing.specs.Drawings.{draw_row, Drew}
use Rattle.drawing.specs.declared.receipt.Receipt.{Receipt}

-- the numbers that bytes write two by two, the more significant byte first; a lone last byte writes none
abbrev pub numbers_of : List ℕ → List ℕ
numbers_of [] = []
numbers_of (byte ∷ []) = []
numbers_of (high ∷ low ∷ bytes) = (256 * high + low) ∷ numbers_of bytes

-- an input is too short with fewer than four bytes or with a lone last byte
abbrev pub too_short : List ℕ → Bool
too_short input = nat_lt (length input) 4 || length input % 2 == 1

-- The first number is how many levels to open, the second how many bins there may be, and the others are the row to count.
abbrev pub calls_of : List ℕ → List Asked
calls_of numbers = opened (slice_index numbers 0) ∷ counted (drop 2 numbers) ∷ []

abbrev pub most_of : List ℕ → ℕ
most_of numbers = slice_index numbers 1

-- the lowest level of a bin: one above the bound of the bin before it
abbrev pub first_of : Table → ℕ → ℕ
first_of t zero = 0
first_of t (suc bin) = bound_of t bin + 1

-- the pixels at the levels from `first` to `last`, both included
abbrev pub pixels_between : Ledger → ℕ → ℕ → ℕ
pixels_between g first last = sum (map (pixels_at g) (range_with_len first (last + 1 - first)))

-- the line of the levels from `first` to `bound`: both, their representative, and the pixels that they hold
abbrev pub levels_line : Ledger → ℕ → ℕ → ℕ → List ℕ
levels_line g first bound representative =
    decimal first ++ (codes " " ++ (decimal bound ++ (codes " " ++
    (decimal representative ++ (codes " " ++ (decimal (pixels_between g first bound) ++ codes "\n"))))))

-- the line of a bin: its first level, its bound, its representative, and the pixels that it holds
abbrev pub bin_line : Ledger → Table → ℕ → List ℕ
bin_line g t bin = levels_line g (first_of t bin) (bound_of t bin) (representative_of t bin)

abbrev pub bin_lines : Ledger → Table → List ℕ
bin_lines g t = flat_map (bin_line g t) (range_with_len 0 (length t.bounds))

abbrev pub figures_line : Receipt Total → List ℕ
figures_line receipt =
    codes "tally " ++ (decimal receipt.tally.sum ++ (codes " priced " ++ (decimal receipt.priced ++ (codes " compared " ++ (decimal receipt.compared ++ codes "\n")))))

abbrev pub refused_line : ℕ → List ℕ
refused_line number = codes "refused " ++ (decimal number ++ codes "\n")

-- The text of a drawing of the ledger g, by the sum of squared errors: the lines of the table's bins over g, and then the figures.
pub record Printed (g : Ledger) (most : ℕ) (text : List ℕ) : Type 0 where
  pub receipt : Receipt Total
  pub table : Table
  pub drew : Drew total_ops squared g most receipt table
  pub lines : text ≡ bin_lines g table ++ figures_line receipt

-- the number of the first refusal: of the calls, by what they are told, and then of the drawing, by the row of the refusal table that it fits
abbrev pub first_refusal : List Told → Option Row → Option ℕ
first_refusal [] row = option_map (λ r. r.0) row
first_refusal (done ∷ rest) row = first_refusal rest row
first_refusal (now_total total ∷ rest) row = first_refusal rest row
first_refusal (refused number values ∷ rest) row = Some number

-- The text of calls and then a drawing with work lists of 4,096 cells: the first refusal alone, or else the drawing.
abbrev pub Answered : List Asked → ℕ → List ℕ → Type 0
Answered calls most text =
    MatchOption (first_refusal (told calls) (draw_row (after calls) most 4096))
    (Printed (after calls) most text)
    (λ number. text ≡ refused_line number)

-- The text of an input.
abbrev pub Reported : List ℕ → List ℕ → Type 0
Reported input text = MatchBool (too_short input) (text ≡ codes "input short\n") (Answered (calls_of (numbers_of input)) (most_of (numbers_of input)) text)
