-- The theorem, as `Stated` proves it.
use Rattle.divisions.proofs.Stated.{totals_are_plain_sums}
use Rattle.divisions.proofs.totals_are_plain_sums.Goals as goal

pub returns : goal.returns
returns c = totals_are_plain_sums
