-- The level table of a division, and what drawing up a table comes to.
use Rattle.std.specs.Prelude.{◌≡◌, ℕ, ◌-◌, List, [], ◌∷◌, ◌++◌, map}
use Rattle.counting.specs.Ledger.{Ledger, counted_levels}
use Rattle.pricing.specs.Tallies.{Ops}
use Rattle.tables.specs.Table.{Table, given}
use Rattle.divisions.specs.Divisions.{level_at, representative, BestOf, tally_of}

-- A bin is a bound and a representative, and the lowest bin stands first.
-- The bins of the runs of the first n counted levels: each bound is the run's highest counted level.
unfoldable pub bins_below : {C : Type 0} → Ops C → (ℕ → ℕ → ℕ) → Ledger → List ℕ → ℕ → List (ℕ × ℕ)
bins_below o error g [] n = []
bins_below o error g (k ∷ ks) n = bins_below o error g ks (n - k) ++ (level_at g (n - 1), representative o error g (n - k) k) ∷ []

-- the same, but the last bound is the highest level that there is
unfoldable pub table_to : {C : Type 0} → Ops C → (ℕ → ℕ → ℕ) → Ledger → List ℕ → ℕ → List (ℕ × ℕ)
table_to o error g [] n = []
table_to o error g (k ∷ ks) n = bins_below o error g ks (n - k) ++ (g.levels - 1, representative o error g (n - k) k) ∷ []

-- the table that has these bins
abbrev pub table_by : ℕ → List (ℕ × ℕ) → Table
table_by levels bins = given levels (map (λ b. b.0) bins) (map (λ b. b.1) bins)

-- the table of a division of all counted levels
abbrev pub table_for : {C : Type 0} → Ops C → (ℕ → ℕ → ℕ) → Ledger → List ℕ → Table
table_for o error g runs = table_by g.levels (table_to o error g runs (counted_levels g))

-- What drawing up a table of at most `most` bins comes to: the table and the tally of the best division.
pub record Drawn {C : Type 0} (o : Ops C) (error : ℕ → ℕ → ℕ) (g : Ledger) (most : ℕ) (table : Table) (tally : C) : Type 0 where
  pub runs : List ℕ
  pub best : BestOf o error g most runs
  pub table_is : table_for o error g runs ≡ table
  pub tally_is : tally_of o error g runs ≡ tally
