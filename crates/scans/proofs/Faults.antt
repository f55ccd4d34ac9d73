-- What follows where nothing is wrong with a part of a file.
use Rattle.std.proofs.Common.{◌≡◌, ℕ, ◌*◌, ◌<◌, ◌≤◌, true, List, ◌∷◌, length, get_or, drop, Some, None, Option, refl, arith}
use Rattle.std.proofs.lemmas.Bool.Decides.{nat_tests}
use Rattle.scans.specs.declared.pgm.Fault.{Fault}
use Rattle.scans.specs.Pgm.{white, first, range_fault, raster_fault}
use Rattle.scans.specs.Raster.{sample_size, pixels_of, within}

pub first_none : (a : Option Fault) (fs : List (Option Fault)) → a ≡ None → first (a ∷ fs) ≡ first fs
first_none None fs e = refl
first_none (Some f) fs e = cc

-- no fault in a list: none at its head, and none in the others
pub none_parts : (a : Option Fault) (fs : List (Option Fault)) → first (a ∷ fs) ≡ None → (a ≡ None) × (first fs ≡ None)
none_parts None fs e = (refl, e)
none_parts (Some f) fs e = (e, cc)

module _ (w h m : ℕ) where
  pub ranges : range_fault w h m ≡ None → (0 < w) × (0 < h) × (0 < m) × (m ≤ 1023)
  ranges e = (grind (arith, nat_tests), grind (arith, nat_tests), grind (arith, nat_tests), grind (arith, nat_tests))

  module _ (bs : List ℕ) where
    -- samples that nothing is wrong with are as many as they should be, and within the maximum value
    pub samples_fine : raster_fault w h m bs ≡ None → (length (drop 1 bs) ≡ w * h * sample_size m) × (within m (pixels_of m (drop 1 bs)) ≡ true)
    samples_fine e = (grind (arith, nat_tests), grind (arith, nat_tests))

    pub raster_fine : white (get_or bs 0 0) ≡ true → length (drop 1 bs) ≡ w * h * sample_size m → within m (pixels_of m (drop 1 bs)) ≡ true → raster_fault w h m bs ≡ None
    raster_fine separated size bounded = grind (arith, nat_tests)
