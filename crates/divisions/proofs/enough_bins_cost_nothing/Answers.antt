-- The theorem, as `Stated` proves it.
use Rattle.divisions.proofs.Stated.{enough_bins_cost_nothing}
use Rattle.divisions.proofs.enough_bins_cost_nothing.Goals as goal

pub returns : goal.returns
returns g c = enough_bins_cost_nothing
