-- How the best division is found from the best ones of fewer levels: for the proofs and for the filling of cells; no public promise rests on it.
use Rattle.std.specs.Prelude.{ℕ, zero, suc, ◌-◌, List, [], ◌∷◌}
use Rattle.pricing.specs.Tallies.{Ops}
use Rattle.divisions.specs.Divisions.{highest_least, divided}

-- the tally of the best division of the first i levels into q runs, with one run more up to the n-th level
abbrev pub onward : {C : Type 0} → Ops C → (ℕ → ℕ → C) → (ℕ → List ℕ) → ℕ → ℕ → C
onward o price before n i = o.join (price i (n - i)) (divided o price (before i) i)

-- The best division of n levels into q runs: the last run begins at the highest place of least tally.
unfoldable pub best_division : {C : Type 0} → Ops C → (ℕ → ℕ → C) → ℕ → ℕ → List ℕ
best_division o price zero n = []
best_division o price (suc zero) n = n ∷ []
best_division o price (suc (suc q)) n =
    let i = highest_least o (onward o price (best_division o price (suc q)) n) (suc q) (n - 2 - q) in
    (n - i) ∷ best_division o price (suc q) i

-- The least tally of the first n levels in q runs, as the cells of a table hold it.
abbrev pub least_tally : {C : Type 0} → Ops C → (ℕ → ℕ → C) → ℕ → ℕ → C
least_tally o price q n = divided o price (best_division o price q n) n
