-- The theorem, as `Stated` proves it.
use Rattle.divisions.proofs.Stated.{path_steps_are_tested}
use Rattle.divisions.proofs.path_steps_are_tested.Goals as goal

pub returns : goal.returns
returns c = path_steps_are_tested
