-- Both answers are prices under one tally and one error, so they are equal.
use Rattle.std.proofs.Common.{refl, arith}
use Rattle.counting.specs.Meaning.{ledger_of}
use Rattle.pricing.specs.Kinds.{total_ops}
use Rattle.pricing.specs.Measures.{squared}
use Rattle.pricing.specs.KindLaws.{total_laws}
use Rattle.pricing.proofs.OnePrice.{one_price}
use Rattle.pricing.proofs.theorems.both_prices.Goals as goal

pub returns-clause-equal : goal.returns-clause-equal
returns-clause-equal c =
    one_price total_ops total_laws squared squared (ledger_of c.args.histogram.now) c.args.a c.args.b (λ k r _ _. refl) (omega arith) _ _ c.price.ensures.answer c.price-2.ensures.answer
