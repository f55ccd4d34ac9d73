-- The theorem, as `Stated` proves it.
use Rattle.divisions.proofs.Stated.{no_level_beats_the_price}
use Rattle.divisions.proofs.no_level_beats_the_price.Goals as goal

pub returns : goal.returns
returns g c = no_level_beats_the_price
