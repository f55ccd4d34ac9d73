-- A gap lies within the bytes, and the digits in front are digits.
use Rattle.std.proofs.Common.{◌≡◌, ℕ, ◌+◌, ◌≤◌, Bool, true, false, cond, not, eqb, List, [], ◌∷◌, length, refl, one-add, arith}
use Rattle.std.proofs.lemmas.Bool.{cond_both}
use Rattle.std.specs.Char.{is_ascii_digit}
use Rattle.std.specs.List.{AllByRecursion}
use Rattle.scans.specs.Pgm.{white, line_end, gap_from, digits}

pub gap_none : (inside : Bool) → gap_from inside [] ≡ 0
gap_none true = refl
gap_none false = refl

pub gap_le_length : (inside : Bool) (bs : List ℕ) → gap_from inside bs ≤ length bs
gap_le_length inside [] = rw (gap_none inside) (omega arith)
gap_le_length true (b ∷ bs) = let rest = gap_le_length (not (line_end b)) bs in omega arith
gap_le_length false (b ∷ bs) =
    cond_both (eqb b 35) (1 + gap_from true bs) (cond (white b) (1 + gap_from false bs) 0) (λ n. n ≤ length (b ∷ bs))
    (λ _. let rest = gap_le_length true bs in omega arith)
    (λ _.
    cond_both (white b) (1 + gap_from false bs) 0 (λ n. n ≤ length (b ∷ bs))
    (λ _. let rest = gap_le_length false bs in omega arith) (λ _. omega arith))

digits_more : (b : ℕ) (bs : List ℕ) (t : Bool) → is_ascii_digit b ≡ t → AllByRecursion (λ d. is_ascii_digit d ≡ true) (digits bs) → AllByRecursion (λ d. is_ascii_digit d ≡ true) (digits (b ∷ bs))
digits_more b bs true e all = rw (e, one-add) (e, all)
digits_more b bs false e all = rw e tt

-- the digits in front are digits
pub all_digits : (bs : List ℕ) → AllByRecursion (λ d. is_ascii_digit d ≡ true) (digits bs)
all_digits [] = tt
all_digits (b ∷ bs) = digits_more b bs (is_ascii_digit b) refl (all_digits bs)
