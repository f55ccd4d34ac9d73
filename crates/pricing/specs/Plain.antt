-- Plain sums over a range of levels: pixels times a number of each level.
use Rattle.std.specs.Prelude.{◌≡◌, ℕ, zero, suc, ◌+◌, ◌*◌, ◌≤◌}
use Rattle.counting.specs.Ledger.{Ledger, pixels_at}

-- the pixels at each of the `d` levels from `a`, times what `e` gives for the level
unfoldable pub plain : Ledger → (ℕ → ℕ) → ℕ → ℕ → ℕ
plain g e a zero = 0
plain g e a (suc d) = pixels_at g (a + d) * e (a + d) + plain g e a d

-- the pixels, the sum of their levels, and the sum of the squares of their levels
abbrev pub pixel_sum : Ledger → ℕ → ℕ → ℕ
pixel_sum g a d = plain g (λ k. 1) a d

abbrev pub level_sum : Ledger → ℕ → ℕ → ℕ
level_sum g a d = plain g (λ k. k) a d

abbrev pub square_sum : Ledger → ℕ → ℕ → ℕ
square_sum g a d = plain g (λ k. k * k) a d

-- the three sums over the `d` levels from `a`
pub record Added (g : Ledger) (a d pixels levels squares : ℕ) : Type 0 where
  pub counts : pixels ≡ pixel_sum g a d
  pub adds : levels ≡ level_sum g a d
  pub adds_squares : squares ≡ square_sum g a d

-- such sums over levels below 1024 and pixels below 2 ^ 32
pub record Small (pixels levels squares : ℕ) : Type 0 where
  pub few : pixels ≤ 4294967295
  pub low : levels ≤ 1023 * pixels
  pub low_squares : squares ≤ 1046529 * pixels
