use Rattle.tablefile.proofs.Meaning.{one_to_one}
use Rattle.tablefile.proofs.trips.edition.Goals as goal

pub returns-clause-meaning : goal.returns-clause-meaning
returns-clause-meaning c = one_to_one
