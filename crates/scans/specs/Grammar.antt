-- How a grey scan is written in the binary form of the PGM format, as a grammar: which bytes are a file of which scan.
use Rattle.std.specs.Prelude.{◌≡◌, ℕ, ◌*◌, ◌<◌, ◌≤◌, true, false, List, [], ◌∷◌, ◌++◌, length, IfOk, Ok, Err, vec_items, Result}
use Rattle.std.specs.Char.{is_ascii_digit}
use Rattle.std.specs.List.{AllByRecursion}
use Rattle.std.specs.declared.alloc.AllocError.{AllocError}
use Rattle.scans.specs.declared.pgm.Fault.{Fault}
use Rattle.scans.specs.declared.scan.Scan.{Scan}
use Rattle.scans.specs.Pgm.{white, line_end, value_from}
use Rattle.scans.specs.Raster.{sample_size, pixels_of, within}

-- White space and comments, in any number and order. A comment is `#` (35), a text with no end of line in it, and the end of its line.
pub data Gap : List ℕ → Type 0 where
  nothing : Gap []
  space : (b : ℕ) (bs : List ℕ) → white b ≡ true → Gap bs → Gap (b ∷ bs)
  comment : (text : List ℕ) (b : ℕ) (bs : List ℕ) → AllByRecursion (λ c. line_end c ≡ false) text → line_end b ≡ true → Gap bs → Gap (35 ∷ (text ++ (b ∷ bs)))

-- A number of the header: a gap of at least one byte, and at least one digit.
pub record Number (n : ℕ) (bs : List ℕ) : Type 0 where
  pub front : List ℕ
  pub text : List ℕ
  pub is_gap : Gap front
  pub apart : 0 < length front
  pub are_digits : AllByRecursion (λ d. is_ascii_digit d ≡ true) text
  pub some : 0 < length text
  pub value : value_from 0 text ≡ n
  pub bytes : bs ≡ front ++ text

-- A file of the scan that has the width w, the height h, the maximum value m and these samples:
-- `P5` (80, 53), the three numbers, one byte of white space, and the samples.
pub record File (w h m : ℕ) (samples bs : List ℕ) : Type 0 where
  pub width_bytes : List ℕ
  pub height_bytes : List ℕ
  pub maximum_bytes : List ℕ
  pub separator : ℕ
  pub width_number : Number w width_bytes
  pub height_number : Number h height_bytes
  pub maximum_number : Number m maximum_bytes
  pub separated : white separator ≡ true
  pub bytes : bs ≡ 80 ∷ 53 ∷ (width_bytes ++ (height_bytes ++ (maximum_bytes ++ (separator ∷ samples))))
  pub wide : 0 < w
  pub narrow : w ≤ 65535
  pub high : 0 < h
  pub low : h ≤ 65535
  pub least : 0 < m
  pub most : m ≤ 1023
  pub size : length samples ≡ w * h * sample_size m
  pub bounded : within m (pixels_of m samples) ≡ true

-- The bytes are a file of some scan, and reading them gave that scan, unless memory for its pixels was short.
pub record FileOf (bs : List ℕ) (r : Result Scan AllocError) : Type 0 where
  pub width : ℕ
  pub height : ℕ
  pub maximum : ℕ
  pub samples : List ℕ
  pub file : File width height maximum samples bs
  pub scan : IfOk r (λ s. (s.width ≡ width) × (s.height ≡ height) × (s.maximum ≡ maximum) × (vec_items s.pixels ≡ pixels_of maximum samples))

-- What reading answers, by the grammar: the scan that the bytes are a file of, or a fault where they are a file of none.
abbrev pub Agrees : List ℕ → Result (Result Scan AllocError) Fault → Type 0
Agrees bs (Ok r) = FileOf bs r
Agrees bs (Err f) = (w h m : ℕ) (samples : List ℕ) → File w h m samples bs → ⊥
