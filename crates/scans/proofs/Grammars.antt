-- A file that follows the grammar has no fault, and is read as what was written.
use Rattle.std.proofs.Common.{◌≡◌, ℕ, ◌+◌, ◌<◌, ◌≤◌, true, false, eqb, List, [], ◌∷◌, ◌++◌, length, get_or, drop, None, sym, refl, ap, ◌∙◌, arith}
use Rattle.std.proofs.lemmas.List.{append_assoc, drop_at, take_at, length-append}
use Rattle.std.proofs.lemmas.Bool.Decides.{nat_tests}
use Rattle.std.specs.Char.{is_ascii_digit}
use Rattle.std.specs.List.{prefix_len, AllByRecursion}
use Rattle.scans.specs.declared.pgm.Field.{Field}
use Rattle.scans.specs.declared.pgm.Field.TheVariants.{Width, Height, Maximum}
use Rattle.scans.specs.Grammar.{Gap, nothing, space, comment, Number, File}
use Rattle.scans.specs.Pgm.{white, line_end, gap, gap_from, digits, value_from, after_gap, number, after_number, number_fault, header_fault, magic_fault, range_fault, raster_fault, fault, width_of, height_of, maximum_of, width_part, height_part, maximum_part, after_header}
use Rattle.scans.proofs.Faults.{first_none, raster_fine}

-- A digit is no part of a gap, and a gap begins with no digit.
digit_no_hash : (b : ℕ) → is_ascii_digit b ≡ true → eqb b 35 ≡ false
digit_no_hash b e = grind (arith, nat_tests)

digit_no_white : (b : ℕ) → is_ascii_digit b ≡ true → white b ≡ false
digit_no_white b e = grind (arith, nat_tests)

white_no_digit : (b : ℕ) → white b ≡ true → is_ascii_digit b ≡ false
white_no_digit b e = grind (arith, nat_tests)

white_no_hash : (b : ℕ) → white b ≡ true → eqb b 35 ≡ false
white_no_hash b e = grind (arith, nat_tests)

-- in a comment, up to the end of its line
in_comment : (text : List ℕ) (b : ℕ) (rest : List ℕ) → AllByRecursion (λ c. line_end c ≡ false) text → line_end b ≡ true → gap_from true (text ++ (b ∷ rest)) ≡ length text + (1 + gap_from false rest)
in_comment [] b rest none e = rw e (omega arith)
in_comment (c ∷ text) b rest none e = rw none.0 (let more = in_comment text b rest none.1 e in omega arith)

no_gap : (bs : List ℕ) → is_ascii_digit (get_or bs 0 0) ≡ true → gap bs ≡ 0
no_gap [] e = refl
no_gap (b ∷ bs) e = rw (digit_no_hash b e, digit_no_white b e)

gap_length : (front rest : List ℕ) → Gap front → is_ascii_digit (get_or rest 0 0) ≡ true → gap (front ++ rest) ≡ length front
gap_length front rest nothing e = no_gap rest e
gap_length front rest (space b bs p g) e = rw (white_no_hash b p, p) (let more = gap_length bs rest g e in omega arith)
gap_length front rest (comment text b bs none p g) e =
    let more = gap_length bs rest g e in
    let run = in_comment text b (bs ++ rest) none p in
    let n = length-append text (b ∷ bs) in
    rw (append_assoc text (b ∷ bs) rest) (omega arith)

gap_first : (front rest : List ℕ) → Gap front → 0 < length front → is_ascii_digit (get_or (front ++ rest) 0 0) ≡ false
gap_first front rest nothing h = absurd (omega arith)
gap_first front rest (space b bs p g) h = white_no_digit b p
gap_first front rest (comment text b bs none p g) h = refl

digits_first : (text rest : List ℕ) → AllByRecursion (λ d. is_ascii_digit d ≡ true) text → 0 < length text → is_ascii_digit (get_or (text ++ rest) 0 0) ≡ true
digits_first [] rest all h = absurd (omega arith)
digits_first (d ∷ text) rest all h = all.0

leading_length : (text rest : List ℕ) → AllByRecursion (λ d. is_ascii_digit d ≡ true) text → is_ascii_digit (get_or rest 0 0) ≡ false → prefix_len is_ascii_digit (text ++ rest) ≡ length text
leading_length [] [] all e = refl
leading_length [] (b ∷ rest) all e = rw e
leading_length (d ∷ text) rest all e = rw all.0 (let more = leading_length text rest all.1 e in omega arith)

-- A number that is written by the grammar, with bytes after it that begin with no digit, is read as that number.
module _ (n : ℕ) (bs rest : List ℕ) (written : Number n bs) (end : is_ascii_digit (get_or rest 0 0) ≡ false) where
  parts : bs ++ rest ≡ written.front ++ (written.text ++ rest)
  parts = rw written.bytes (append_assoc written.front written.text rest)

  gap_is : gap (bs ++ rest) ≡ length written.front
  gap_is =
      ap gap parts
      ∙ gap_length written.front (written.text ++ rest) written.is_gap (digits_first written.text rest written.are_digits written.some)

  after_gap_is : after_gap (bs ++ rest) ≡ written.text ++ rest
  after_gap_is = ap (drop (gap (bs ++ rest))) parts ∙ drop_at written.front (written.text ++ rest) (gap (bs ++ rest)) (sym gap_is)

  digits_are : prefix_len is_ascii_digit (after_gap (bs ++ rest)) ≡ length written.text
  digits_are = ap (prefix_len is_ascii_digit) after_gap_is ∙ leading_length written.text rest written.are_digits end

  number_is : number (bs ++ rest) ≡ n
  number_is =
      ap (λ t. value_from 0 (digits t)) after_gap_is
      ∙ (ap (value_from 0) (take_at written.text rest (prefix_len is_ascii_digit (written.text ++ rest)) (sym (leading_length written.text rest written.are_digits end)))
      ∙ written.value)

  after_is : after_number (bs ++ rest) ≡ rest
  after_is =
      ap (λ t. drop (prefix_len is_ascii_digit t) t) after_gap_is
      ∙ drop_at written.text rest (prefix_len is_ascii_digit (written.text ++ rest)) (sym (leading_length written.text rest written.are_digits end))

  number_fine : (x : Field) → n ≤ 65535 → number_fault x (bs ++ rest) ≡ None
  number_fine x small =
      let apart = written.apart in
      let some = written.some in
      let g = gap_is in
      let d = digits_are in
      let v = number_is in
      grind (arith, nat_tests)

  -- what is in front of a number begins with no digit
  pub before_number : is_ascii_digit (get_or (bs ++ rest) 0 0) ≡ false
  before_number = rw parts (gap_first written.front (written.text ++ rest) written.is_gap written.apart)

range_fine : (w h m : ℕ) → 0 < w → 0 < h → 0 < m → m ≤ 1023 → range_fault w h m ≡ None
range_fine w h m wide high least most = grind (arith, nat_tests)

-- A file that is written by the grammar: each part is found, and nothing is wrong.
module _ (w h m : ℕ) (samples bs : List ℕ) (file : File w h m samples bs) where
  end_maximum : is_ascii_digit (get_or (file.separator ∷ samples) 0 0) ≡ false
  end_maximum = white_no_digit file.separator file.separated

  end_height : is_ascii_digit (get_or (file.maximum_bytes ++ (file.separator ∷ samples)) 0 0) ≡ false
  end_height = before_number m file.maximum_bytes (file.separator ∷ samples) file.maximum_number end_maximum

  end_width : is_ascii_digit (get_or (file.height_bytes ++ (file.maximum_bytes ++ (file.separator ∷ samples))) 0 0) ≡ false
  end_width = before_number h file.height_bytes (file.maximum_bytes ++ (file.separator ∷ samples)) file.height_number end_height

  at_width : width_part bs ≡ file.width_bytes ++ (file.height_bytes ++ (file.maximum_bytes ++ (file.separator ∷ samples)))
  at_width = ap (drop 2) file.bytes

  at_height : height_part bs ≡ file.height_bytes ++ (file.maximum_bytes ++ (file.separator ∷ samples))
  at_height = ap after_number at_width ∙ after_is w file.width_bytes (file.height_bytes ++ (file.maximum_bytes ++ (file.separator ∷ samples))) file.width_number end_width

  at_maximum : maximum_part bs ≡ file.maximum_bytes ++ (file.separator ∷ samples)
  at_maximum = ap after_number at_height ∙ after_is h file.height_bytes (file.maximum_bytes ++ (file.separator ∷ samples)) file.height_number end_height

  pub at_end : after_header bs ≡ file.separator ∷ samples
  at_end = ap after_number at_maximum ∙ after_is m file.maximum_bytes (file.separator ∷ samples) file.maximum_number end_maximum

  pub width_read : width_of bs ≡ w
  width_read = ap number at_width ∙ number_is w file.width_bytes (file.height_bytes ++ (file.maximum_bytes ++ (file.separator ∷ samples))) file.width_number end_width

  pub height_read : height_of bs ≡ h
  height_read = ap number at_height ∙ number_is h file.height_bytes (file.maximum_bytes ++ (file.separator ∷ samples)) file.height_number end_height

  pub maximum_read : maximum_of bs ≡ m
  maximum_read = ap number at_maximum ∙ number_is m file.maximum_bytes (file.separator ∷ samples) file.maximum_number end_maximum

  pub samples_read : drop 1 (after_header bs) ≡ samples
  samples_read = ap (drop 1) at_end

  header_none : header_fault bs ≡ None
  header_none =
      first_none (magic_fault bs) _ (ap magic_fault file.bytes)
      ∙ (first_none (number_fault Width (width_part bs)) _ (ap (number_fault Width) at_width ∙ number_fine w file.width_bytes (file.height_bytes ++ (file.maximum_bytes ++ (file.separator ∷ samples))) file.width_number end_width Width file.narrow)
      ∙ (first_none (number_fault Height (height_part bs)) _ (ap (number_fault Height) at_height ∙ number_fine h file.height_bytes (file.maximum_bytes ++ (file.separator ∷ samples)) file.height_number end_height Height file.low)
      ∙ (first_none (number_fault Maximum (maximum_part bs)) _ (ap (number_fault Maximum) at_maximum ∙ number_fine m file.maximum_bytes (file.separator ∷ samples) file.maximum_number end_maximum Maximum (let most = file.most in omega arith))
      ∙ first_none (range_fault (width_of bs) (height_of bs) (maximum_of bs)) [] (range_fine (width_of bs) (height_of bs) (maximum_of bs)
      (let e = width_read in let k = file.wide in omega arith) (let e = height_read in let k = file.high in omega arith)
      (let e = maximum_read in let k = file.least in omega arith) (let e = maximum_read in let k = file.most in omega arith)))))

  raster_none : raster_fault (width_of bs) (height_of bs) (maximum_of bs) (after_header bs) ≡ None
  raster_none =
      ap (λ a. raster_fault a (height_of bs) (maximum_of bs) (after_header bs)) width_read
      ∙ (ap (λ a. raster_fault w a (maximum_of bs) (after_header bs)) height_read
      ∙ (ap (λ a. raster_fault w h a (after_header bs)) maximum_read
      ∙ (ap (raster_fault w h m) at_end
      ∙ raster_fine w h m (file.separator ∷ samples) file.separated file.size file.bounded)))

  pub no_fault : fault bs ≡ None
  no_fault =
      first_none (header_fault bs) _ header_none
      ∙ first_none (raster_fault (width_of bs) (height_of bs) (maximum_of bs) (after_header bs)) [] raster_none
