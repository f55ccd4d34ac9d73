-- The darkest and the palest of a ledger's levels that have pixels; there is none exactly when no level has any.
use Rattle.std.specs.Prelude.{◌≡◌, ℕ, ◌<◌, Some, None, Option}
use Rattle.counting.specs.Ledger.{Ledger, pixels_at}

abbrev pub Darkest : Ledger → Option ℕ → Type 0
Darkest g None = (l : ℕ) → pixels_at g l ≡ 0
Darkest g (Some level) = (0 < pixels_at g level) × ((l : ℕ) → l < level → pixels_at g l ≡ 0)

abbrev pub Palest : Ledger → Option ℕ → Type 0
Palest g None = (l : ℕ) → pixels_at g l ≡ 0
Palest g (Some level) = (0 < pixels_at g level) × ((l : ℕ) → level < l → pixels_at g l ≡ 0)
