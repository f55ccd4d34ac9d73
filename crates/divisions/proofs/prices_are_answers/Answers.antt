-- The theorem, as `Stated` proves it.
use Rattle.divisions.proofs.Stated.{prices_are_answers}
use Rattle.divisions.proofs.prices_are_answers.Goals as goal

pub returns : goal.returns
returns g c = prices_are_answers
