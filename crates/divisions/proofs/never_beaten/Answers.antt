-- The theorem, as `Stated` proves it.
use Rattle.divisions.proofs.Stated.{never_beaten_stated}
use Rattle.divisions.proofs.never_beaten.Goals as goal

pub returns : goal.returns
returns g c = never_beaten_stated
