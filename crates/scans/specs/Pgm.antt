-- The binary form of the PGM format: where its parts stand in a file of bytes, and what is wrong with a file that breaks it.
use Rattle.std.specs.Prelude.{◌≡◌, ℕ, ◌+◌, ◌-◌, ◌*◌, Bool, true, false, cond, not, ◌&&◌, ◌||◌, List, [], ◌∷◌, length, take, drop, IfOk, Some, None, Ok, Err, vec_items, fold, Option, Result, ◌==◌, nat_le, nat_lt, slice_index}
use Rattle.std.specs.Char.{is_ascii_digit}
use Rattle.std.specs.declared.alloc.AllocError.{AllocError}
use Rattle.std.specs.List.{prefix_len}
use Rattle.scans.specs.Raster.{sample_size, pixels_of, within}
use Rattle.scans.specs.declared.pgm.Fault.{Fault}
use Rattle.scans.specs.declared.pgm.Fault.TheVariants.{NotP5, NumberMissing, NumberTooLarge, NoPixels, MaximumOutOfRange, NoSeparator, EndsEarly, LeftOver, SampleTooLarge}
use Rattle.scans.specs.declared.pgm.Field.{Field}
use Rattle.scans.specs.declared.pgm.Field.TheVariants.{Width, Height, Maximum}
use Rattle.scans.specs.declared.scan.Scan.{Scan}

-- White space: tab, line feed, vertical tab, form feed, carriage return and space.
abbrev pub white : ℕ → Bool
white b = (nat_le 9 b && nat_le b 13) || b == 32

-- What ends a line, and a comment with it: a line feed or a carriage return.
abbrev pub line_end : ℕ → Bool
line_end b = b == 10 || b == 13

-- How many bytes in front are white space and comments. A comment begins with `#` (35) and goes on to the end of its line;
-- `inside` says that the first byte lies in a comment.
abbrev pub gap_from : Bool → List ℕ → ℕ
gap_from inside [] = 0
gap_from true (b ∷ bs) = 1 + gap_from (not (line_end b)) bs
gap_from false (b ∷ bs) = cond (b == 35) (1 + gap_from true bs) (cond (white b) (1 + gap_from false bs) 0)

-- The length of the gap in front.
abbrev pub gap : List ℕ → ℕ
gap bs = gap_from false bs

-- The number that decimal digits write, in ASCII, the digit of most weight first, after the number n.
abbrev pub value_from : ℕ → List ℕ → ℕ
value_from n ds = fold (λ a d. a * 10 + (d - 48)) n ds

-- The digits in front.
abbrev pub digits : List ℕ → List ℕ
digits bs = take (prefix_len is_ascii_digit bs) bs

-- A number is a gap and then digits. What follows the gap:
abbrev pub after_gap : List ℕ → List ℕ
after_gap bs = drop (gap bs) bs

-- The number's value.
abbrev pub number : List ℕ → ℕ
number bs = value_from 0 (digits (after_gap bs))

-- What follows the number.
abbrev pub after_number : List ℕ → List ℕ
after_number bs = drop (prefix_len is_ascii_digit (after_gap bs)) (after_gap bs)

-- The fault f where the test b is true.
abbrev pub refuse : Bool → Fault → Option Fault
refuse b f = cond b (Some f) None

-- The first fault of several that a file may have.
abbrev pub first : List (Option Fault) → Option Fault
first [] = None
first (None ∷ fs) = first fs
first (Some f ∷ fs) = Some f

-- What is wrong with a number: it has no gap or no digit, or it is above 65,535.
abbrev pub number_fault : Field → List ℕ → Option Fault
number_fault x bs =
    first
    (refuse (gap bs == 0 || prefix_len is_ascii_digit (after_gap bs) == 0) (NumberMissing x)
    ∷ refuse (nat_lt 65535 (number bs)) (NumberTooLarge x)
    ∷ [])

-- The header is `P5`, the width, the height and the maximum value. Where each number begins with its gap, and what follows the last:
abbrev pub width_part : List ℕ → List ℕ
width_part bs = drop 2 bs

abbrev pub height_part : List ℕ → List ℕ
height_part bs = after_number (width_part bs)

abbrev pub maximum_part : List ℕ → List ℕ
maximum_part bs = after_number (height_part bs)

abbrev pub after_header : List ℕ → List ℕ
after_header bs = after_number (maximum_part bs)

-- The values of the three numbers.
abbrev pub width_of : List ℕ → ℕ
width_of bs = number (width_part bs)

abbrev pub height_of : List ℕ → ℕ
height_of bs = number (height_part bs)

abbrev pub maximum_of : List ℕ → ℕ
maximum_of bs = number (maximum_part bs)

-- The file does not begin with `P5` (80, 53).
abbrev pub magic_fault : List ℕ → Option Fault
magic_fault bs = refuse (not (slice_index bs 0 == 80 && slice_index bs 1 == 53)) NotP5

-- What is wrong with the sizes that a header gives: no pixel, or a maximum value that is none of 1 to 1,023.
abbrev pub range_fault : ℕ → ℕ → ℕ → Option Fault
range_fault w h m =
    first
    (refuse (w == 0 || h == 0) NoPixels
    ∷ refuse (m == 0 || nat_lt 1023 m) MaximumOutOfRange
    ∷ [])

-- What is wrong with the header.
abbrev pub header_fault : List ℕ → Option Fault
header_fault bs =
    first
    (magic_fault bs
    ∷ number_fault Width (width_part bs)
    ∷ number_fault Height (height_part bs)
    ∷ number_fault Maximum (maximum_part bs)
    ∷ range_fault (width_of bs) (height_of bs) (maximum_of bs)
    ∷ [])

-- What is wrong with the bytes after the header: they do not begin with white space, or they are fewer or more than w times h samples,
-- or a pixel is above the maximum value m.
abbrev pub raster_fault : ℕ → ℕ → ℕ → List ℕ → Option Fault
raster_fault w h m bs =
    first
    (refuse (not (white (slice_index bs 0))) NoSeparator
    ∷ refuse (nat_lt (length (drop 1 bs)) (w * h * sample_size m)) EndsEarly
    ∷ refuse (nat_lt (w * h * sample_size m) (length (drop 1 bs))) LeftOver
    ∷ refuse (not (within m (pixels_of m (drop 1 bs)))) SampleTooLarge
    ∷ [])

-- What is wrong with a file: with its header, or else with what follows.
abbrev pub fault : List ℕ → Option Fault
fault bs =
    first
    (header_fault bs
    ∷ raster_fault (width_of bs) (height_of bs) (maximum_of bs) (after_header bs)
    ∷ [])

-- The scan is the one that the file says.
pub record Holds (bs : List ℕ) (s : Scan) : Type 0 where
  pub width_is : s.width ≡ width_of bs
  pub height_is : s.height ≡ height_of bs
  pub maximum_is : s.maximum ≡ maximum_of bs
  pub pixels_are : vec_items s.pixels ≡ pixels_of (maximum_of bs) (drop 1 (after_header bs))

-- What reading the file answers: where nothing is wrong with the file the scan that it holds, or that memory is short, and else its first fault.
abbrev pub Reads : List ℕ → Result (Result Scan AllocError) Fault → Type 0
Reads bs (Ok r) = (fault bs ≡ None) × IfOk r (Holds bs)
Reads bs (Err f) = fault bs ≡ Some f
