-- The theorem, as `Stated` proves it.
use Rattle.divisions.proofs.Stated.{more_bins_never_cost_more}
use Rattle.divisions.proofs.more_bins_never_cost_more.Goals as goal

pub returns : goal.returns
returns g c = more_bins_never_cost_more
