-- What an error is: a number for showing level k as level r, at levels below 1024, with the laws that it keeps there.
use Rattle.std.specs.Prelude.{◌≡◌, ℕ, ◌^◌, ◌<◌, ◌≤◌, ◌⊎◌}

-- s lies between k and r, ends included
abbrev pub Between : ℕ → ℕ → ℕ → Type 0
Between k s r = ((k ≤ s) × (s ≤ r)) ⊎ ((r ≤ s) × (s ≤ k))

-- An error is below 2 ^ 32. Own: a level shown as itself has none. Away: nearer is not worse.
-- Crossing: if showing k as s is better than showing it as r, then going the same way is not worse for a level beyond k.
pub record Fair (error : ℕ → ℕ → ℕ) : Type 0 where
  pub fits : (k r : ℕ) → k < 1024 → r < 1024 → error k r < 2 ^ 32
  pub own : (k : ℕ) → k < 1024 → error k k ≡ 0
  pub away : (k r s : ℕ) → k < 1024 → r < 1024 → Between k s r → error k s ≤ error k r
  pub crossing : (k j r s : ℕ) → j < 1024 → s < 1024 → r < s → k < j → error k s < error k r → error j s ≤ error j r

-- two errors that agree at every level
abbrev pub SameErrors : (ℕ → ℕ → ℕ) → (ℕ → ℕ → ℕ) → Type 0
SameErrors error other = (k r : ℕ) → k < 1024 → r < 1024 → error k r ≡ other k r
