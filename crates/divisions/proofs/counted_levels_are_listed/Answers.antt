-- The theorem, as `Stated` proves it.
use Rattle.divisions.proofs.Stated.{counted_levels_are_listed}
use Rattle.divisions.proofs.counted_levels_are_listed.Goals as goal

pub returns : goal.returns
returns c = counted_levels_are_listed
