-- The theorem, as `Stated` proves it.
use Rattle.divisions.proofs.Stated.{charged_once}
use Rattle.divisions.proofs.charged_once.Goals as goal

pub returns : goal.returns
returns g c = charged_once
