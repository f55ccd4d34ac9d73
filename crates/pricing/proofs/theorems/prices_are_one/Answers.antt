-- A range has one price.
use Rattle.pricing.proofs.OnePrice.{one_price}
use Rattle.pricing.proofs.theorems.prices_are_one.Goals as goal

pub returns : goal.returns
returns g c error other ledger a b p q same kept P Q = one_price g.T.Tally.ops g.met.T.Tally.laws error other ledger a b same kept p q P Q
