-- A file that has no fault follows the grammar: its parts are written as a header and a raster are.
use Rattle.std.proofs.Common.{◌≡◌, ℕ, ◌<◌, ◌≤◌, Bool, true, false, not, eqb, List, [], ◌∷◌, ◌++◌, length, get_or, take, drop, None, sym, refl, ap, ◌∙◌, one-add, arith}
use Rattle.std.proofs.lemmas.List.{append_assoc, take-append-drop, length-drop, length-take-le}
use Rattle.std.proofs.lemmas.List.Sums.{prefix_len-le-length}
use Rattle.std.proofs.lemmas.Bool.{eqb-true}
use Rattle.std.proofs.lemmas.Bool.Decides.{nat_tests}
use Rattle.std.specs.Char.{is_ascii_digit}
use Rattle.std.specs.List.{prefix_len, AllByRecursion}
use Rattle.scans.specs.declared.pgm.Field.{Field}
use Rattle.scans.specs.declared.pgm.Field.TheVariants.{Width, Height, Maximum}
use Rattle.scans.specs.Grammar.{Gap, nothing, space, comment, Number, File}
use Rattle.scans.specs.Pgm.{white, line_end, gap, gap_from, digits, after_gap, number, after_number, number_fault, magic_fault, range_fault, header_fault, raster_fault, fault, width_of, height_of, maximum_of, width_part, height_part, maximum_part, after_header}
use Rattle.scans.proofs.Headers.{all_digits}
use Rattle.scans.proofs.Faults.{none_parts, ranges, samples_fine}

-- What is left of a gap, from inside a comment on.
record Commented (cs : List ℕ) : Type 0 where
  text : List ℕ
  end : ℕ
  more : List ℕ
  unended : AllByRecursion (λ c. line_end c ≡ false) text
  ended : line_end end ≡ true
  is_gap : Gap more
  bytes : cs ≡ text ++ (end ∷ more)

abbrev Part : Bool → List ℕ → Type 0
Part true cs = Commented cs
Part false cs = Gap cs

hash : (b : ℕ) (cs : List ℕ) → b ≡ 35 → Commented cs → Gap (b ∷ cs)
hash b cs e c = rw (e, c.bytes) (comment c.text c.end c.more c.unended c.ended c.is_gap)

-- one byte of a comment more
longer : (b : ℕ) (cs : List ℕ) (t : Bool) → line_end b ≡ t → Part (not t) cs → Commented (b ∷ cs)
longer b cs true e g = record { text = []; end = b; more = cs; unended = tt; ended = e; is_gap = g; bytes = refl }
longer b cs false e c =
    record { text = b ∷ c.text; end = c.end; more = c.more; unended = (e, c.unended); ended = c.ended; is_gap = c.is_gap; bytes = ap (λ t. b ∷ t) c.bytes }

-- one byte of a gap more, outside a comment
fronted : (b : ℕ) (bs : List ℕ) → gap_from false (b ∷ bs) < length (b ∷ bs) → (gap_from true bs < length bs → Commented (take (gap_from true bs) bs)) → (gap_from false bs < length bs → Gap (take (gap_from false bs) bs)) → (t : Bool) → eqb b 35 ≡ t → (u : Bool) → white b ≡ u → Gap (take (gap_from false (b ∷ bs)) (b ∷ bs))
fronted b bs h in_comment in_gap true e u f =
    let k = rw e at h in
    rw (e, one-add) (hash b (take (gap_from true bs) bs) (eqb-true b 35 e) (in_comment (omega arith)))
fronted b bs h in_comment in_gap false e true f =
    let k = rw (e, f) at h in
    rw (e, f, one-add) (space b (take (gap_from false bs) bs) f (in_gap (omega arith)))
fronted b bs h in_comment in_gap false e false f = rw (e, f) nothing

-- a gap with something after it is written as a gap: each of its comments has its end
part_written : (inside : Bool) (bs : List ℕ) → gap_from inside bs < length bs → Part inside (take (gap_from inside bs) bs)
part_written inside [] h = absurd (omega arith)
part_written true (b ∷ bs) h =
    let rest = part_written (not (line_end b)) bs (omega arith) in
    rw one-add (longer b (take (gap_from (not (line_end b)) bs) bs) (line_end b) refl rest)
part_written false (b ∷ bs) h = fronted b bs h (part_written true bs) (part_written false bs) (eqb b 35) refl (white b) refl

-- A number with no fault is written as one.
module _ (x : Field) (bs : List ℕ) (fine : number_fault x bs ≡ None) where
  no_number_fault : (gap bs ≡ 0 → ⊥) × (prefix_len is_ascii_digit (after_gap bs) ≡ 0 → ⊥) × (number bs ≤ 65535)
  no_number_fault = (grind (arith, nat_tests), grind (arith, nat_tests), grind (arith, nat_tests))

  number_written : Number (number bs) (take (gap bs) bs ++ digits (after_gap bs))
  number_written =
      let no = no_number_fault in
      let fits = prefix_len-le-length is_ascii_digit (after_gap bs) in
      let len = length-drop (gap bs) bs in
      let some = no.1 in
      let apart = no.0 in
      let front = length-take-le (gap bs) bs (omega arith) in
      let text = length-take-le (prefix_len is_ascii_digit (after_gap bs)) (after_gap bs) fits in
      record {
        front = take (gap bs) bs;
        text = digits (after_gap bs);
        is_gap = part_written false bs (omega arith);
        apart = omega arith;
        are_digits = all_digits (after_gap bs);
        some = omega arith;
        value = refl;
        bytes = refl;
      }

  number_parts : bs ≡ (take (gap bs) bs ++ digits (after_gap bs)) ++ after_number bs
  number_parts =
      sym (append_assoc (take (gap bs) bs) (digits (after_gap bs)) (after_number bs)
      ∙ (ap (λ t. take (gap bs) bs ++ t) (take-append-drop (prefix_len is_ascii_digit (after_gap bs)) (after_gap bs))
      ∙ take-append-drop (gap bs) bs))

magic_written : (bs : List ℕ) → magic_fault bs ≡ None → bs ≡ 80 ∷ 53 ∷ width_part bs
magic_written [] e = cc
magic_written (a ∷ []) e = grind (arith, nat_tests)
magic_written (a ∷ b ∷ bs) e =
    let p : a ≡ 80 = grind (arith, nat_tests) in
    let five : b ≡ 53 = grind (arith, nat_tests) in
    rw (p, five)

separator_written : (bs : List ℕ) → white (get_or bs 0 0) ≡ true → bs ≡ get_or bs 0 0 ∷ drop 1 bs
separator_written [] p = cc
separator_written (b ∷ bs) p = refl

-- The whole file.
pub file_written : (bs : List ℕ) → fault bs ≡ None → File (width_of bs) (height_of bs) (maximum_of bs) (drop 1 (after_header bs)) bs
file_written bs fine =
    let header = none_parts (header_fault bs) _ fine in
    let raster = (none_parts (raster_fault (width_of bs) (height_of bs) (maximum_of bs) (after_header bs)) [] header.1).0 in
    let magic = none_parts (magic_fault bs) _ header.0 in
    let at_width = none_parts (number_fault Width (width_part bs)) _ magic.1 in
    let at_height = none_parts (number_fault Height (height_part bs)) _ at_width.1 in
    let at_maximum = none_parts (number_fault Maximum (maximum_part bs)) _ at_height.1 in
    let sizes = ranges (width_of bs) (height_of bs) (maximum_of bs) (none_parts (range_fault (width_of bs) (height_of bs) (maximum_of bs)) [] at_maximum.1).0 in
    let separated : white (get_or (after_header bs) 0 0) ≡ true = grind (arith, nat_tests, raster) in
    let samples = samples_fine (width_of bs) (height_of bs) (maximum_of bs) (after_header bs) raster in
    record {
      width_bytes = take (gap (width_part bs)) (width_part bs) ++ digits (after_gap (width_part bs));
      height_bytes = take (gap (height_part bs)) (height_part bs) ++ digits (after_gap (height_part bs));
      maximum_bytes = take (gap (maximum_part bs)) (maximum_part bs) ++ digits (after_gap (maximum_part bs));
      separator = get_or (after_header bs) 0 0;
      width_number = number_written Width (width_part bs) at_width.0;
      height_number = number_written Height (height_part bs) at_height.0;
      maximum_number = number_written Maximum (maximum_part bs) at_maximum.0;
      separated = separated;
      bytes =
          magic_written bs magic.0
          ∙ ap (λ t. 80 ∷ 53 ∷ t)
          (number_parts Width (width_part bs) at_width.0
          ∙ ap (λ t. (take (gap (width_part bs)) (width_part bs) ++ digits (after_gap (width_part bs))) ++ t)
          (number_parts Height (height_part bs) at_height.0
          ∙ ap (λ t. (take (gap (height_part bs)) (height_part bs) ++ digits (after_gap (height_part bs))) ++ t)
          (number_parts Maximum (maximum_part bs) at_maximum.0
          ∙ ap (λ t. (take (gap (maximum_part bs)) (maximum_part bs) ++ digits (after_gap (maximum_part bs))) ++ t)
          (separator_written (after_header bs) separated))));
      wide = sizes.0;
      narrow = (no_number_fault Width (width_part bs) at_width.0).2;
      high = sizes.1;
      low = (no_number_fault Height (height_part bs) at_height.0).2;
      least = sizes.2;
      most = sizes.3;
      size = samples.0;
      bounded = samples.1;
    }
