-- The table that a list of bins makes.
use Rattle.std.specs.Prelude.{ℕ, List, map}
use Rattle.tables.specs.Table.{Table}
use Rattle.tables.specs.declared.table.Bin.{Bin}

-- the bounds of the bins, and their representatives
abbrev pub bounds_in : List Bin → List ℕ
bounds_in bins = map (λ bin. bin.bound) bins

abbrev pub representatives_in : List Bin → List ℕ
representatives_in bins = map (λ bin. bin.representative) bins

-- these bins over so many levels
abbrev pub table_in : ℕ → List Bin → Table
table_in levels bins = record { levels = levels; bounds = bounds_in bins; representatives = representatives_in bins }
