-- The rules of a ledger that a histogram can have: a sound one.
use Rattle.std.specs.Prelude.{◌≡◌, ℕ, ◌≤◌, List, length}
use Rattle.counting.specs.Ledger.{Ledger, total_of}

-- the ledger with these pixels at its levels
abbrev pub of_pixels : List ℕ → Ledger
of_pixels pixels = record { levels = length pixels; at = pixels }

-- 2 to 1,024 levels, a number of pixels for each of them, and a total that fits 32 bits
pub record Sound (g : Ledger) : Type 0 where
  pub range : (2 ≤ g.levels) × (g.levels ≤ 1024)
  pub width : length g.at ≡ g.levels
  pub fits : total_of g ≤ 4294967295
