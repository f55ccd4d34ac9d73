-- What putting weights into the place of a weight list does.
use Rattle.std.specs.Prelude.{◌≡◌, ℕ, ◌<◌, ◌≤◌, ◌⊎◌, List, length, Ok, Err, Result}
use Rattle.refusals.specs.declared.refusal.Refusal.{Refusal}
use Rattle.refusals.specs.declared.refusal.Refusal.TheVariants.{WeightsOutOfRange}

-- From 1 to 1024 weights are taken over whole; any other number is refused and alters nothing.
abbrev pub Filled : List ℕ → List ℕ → Result (Unit {0}) Refusal → List ℕ → Type 0
Filled weights before (Ok _) then = (1 ≤ length weights) × (length weights ≤ 1024) × (then ≡ weights)
Filled weights before (Err e) then = ((length weights ≡ 0) ⊎ (1024 < length weights)) × (e ≡ WeightsOutOfRange (length weights)) × (then ≡ before)
