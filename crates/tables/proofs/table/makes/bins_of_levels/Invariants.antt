use Rattle.tables.specs.Bins.{bounds_in}
use Rattle.tables.proofs.Bins.{Binning}
use Rattle.tables.proofs.table.makes.bins_of_levels.Given as goal

abbrev pub invariant-loop-index : goal.invariant-loop-index
invariant-loop-index l = Binning (bounds_in l.bins) l.of_level l.index l.first
