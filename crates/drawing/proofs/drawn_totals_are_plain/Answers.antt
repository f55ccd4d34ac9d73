-- The theorem, as `Promised` proves it.
use Rattle.drawing.proofs.Promised.{drawn_totals_are_plain}
use Rattle.drawing.proofs.drawn_totals_are_plain.Goals as goal

pub returns : goal.returns
returns c = drawn_totals_are_plain
