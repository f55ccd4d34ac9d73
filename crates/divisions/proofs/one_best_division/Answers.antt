-- The theorem, as `Stated` proves it.
use Rattle.divisions.proofs.Stated.{one_best_division}
use Rattle.divisions.proofs.one_best_division.Goals as goal

pub returns : goal.returns
returns g c = one_best_division
