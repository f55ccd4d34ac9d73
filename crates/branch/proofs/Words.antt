-- The numbers that bytes write are those of their pairs.
use Rattle.std.proofs.Common.{◌≡◌, ℕ, suc, ◌+◌, ◌*◌, ◌/◌, List, [], ◌∷◌, map, length, w16, refl, ap, ap₂, ◌∙◌, arith}
use Rattle.std.specs.Int.{from_be_bytes}
use Rattle.std.specs.Simd.{first_chunks}
use Rattle.branch.specs.Report.{numbers_of}

pub pairs_are : (bytes : List ℕ) → map (λ (pair : List ℕ). from_be_bytes w16 pair) (first_chunks 2 (length bytes / 2) bytes) ≡ numbers_of bytes
pairs_are [] = refl
pairs_are (byte ∷ []) = refl
pairs_are (high ∷ low ∷ bytes) =
    let one_more : length (high ∷ low ∷ bytes) / 2 ≡ suc (length bytes / 2) = omega arith in
    let first : from_be_bytes w16 (high ∷ low ∷ []) ≡ 256 * high + low = omega arith in
    ap (λ (n : ℕ). map (λ (pair : List ℕ). from_be_bytes w16 pair) (first_chunks 2 n (high ∷ low ∷ bytes))) one_more ∙ ap₂ ◌∷◌ first (pairs_are bytes)
