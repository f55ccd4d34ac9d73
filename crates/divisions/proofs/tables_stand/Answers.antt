-- The theorem, as `Stated` proves it.
use Rattle.divisions.proofs.Stated.{tables_stand}
use Rattle.divisions.proofs.tables_stand.Goals as goal

pub returns : goal.returns
returns g c = tables_stand
