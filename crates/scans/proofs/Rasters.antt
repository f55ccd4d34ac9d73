-- How many pixels samples give, and which.
use Rattle.std.proofs.Common.{◌≡◌, ℕ, suc, ◌+◌, ◌*◌, ◌/◌, ◌≤◌, nat_le, List, [], ◌∷◌, map, length, sym, refl, ⊎_elim, arith, w16}
use Rattle.std.proofs.lemmas.Bool.{cases_lt, lt-ltb, le-ltb}
use Rattle.std.proofs.lemmas.List.Folds.{list_all-map}
use Rattle.std.specs.Int.{from_be_bytes}
use Rattle.std.specs.List.{list_all}
use Rattle.std.specs.Simd.{first_chunks}
use Rattle.scans.specs.Raster.{sample_size, pairs, pixels_of, within}

pub length_pairs : (bs : List ℕ) → length (pairs bs) ≡ length bs / 2
length_pairs [] = refl
length_pairs (b ∷ []) = refl
length_pairs (high ∷ low ∷ bs) = let rest = length_pairs bs in omega arith

-- the samples of two bytes are the pairs
pub pairs_are : (bs : List ℕ) → map (from_be_bytes w16) (first_chunks 2 (length bs / 2) bs) ≡ pairs bs
pairs_are [] = refl
pairs_are (b ∷ []) = refl
pairs_are (high ∷ low ∷ bs) =
    let count : length (high ∷ low ∷ bs) / 2 ≡ suc (length bs / 2) = omega arith in
    let pixel : from_be_bytes w16 (high ∷ low ∷ []) ≡ 256 * high + low = omega arith in
    rw count (rw (pairs_are bs, pixel))

module _ (m : ℕ) (bs : List ℕ) (wide : 256 ≤ m) where
  pub wide_pixels : map (from_be_bytes w16) (first_chunks 2 (length bs / 2) bs) ≡ pixels_of m bs
  wide_pixels = rw (le-ltb m 256 wide) (pairs_are bs)

  pub wide_within : list_all (λ sample. nat_le (from_be_bytes w16 sample) m) (first_chunks 2 (length bs / 2) bs) ≡ within m (pixels_of m bs)
  wide_within = rw (← wide_pixels) (sym (list_all-map (λ p. nat_le p m) (from_be_bytes w16) (first_chunks 2 (length bs / 2) bs)))

-- a scan of h rows of w pixels has w times h pixels
pub length_whole : (w h m : ℕ) (bs : List ℕ) → length bs ≡ w * h * sample_size m → length (pixels_of m bs) ≡ w * h
length_whole w h m bs e =
    ⊎_elim
    (λ narrow. let n = rw (lt-ltb m 256 narrow) at e in rw (lt-ltb m 256 narrow) (omega arith))
    (λ wide. let n = rw (le-ltb m 256 wide) at e in let k = length_pairs bs in rw (le-ltb m 256 wide) (omega arith))
    (cases_lt m 256)
