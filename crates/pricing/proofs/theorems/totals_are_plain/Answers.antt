-- A cost under Total, and so a price, is a plain sum.
use Rattle.pricing.proofs.OnePrice.{plain_price}
use Rattle.pricing.proofs.PlainSums.{costs_plain}
use Rattle.pricing.proofs.theorems.totals_are_plain.Goals as goal

pub returns : goal.returns
returns c = record { costs = costs_plain; prices = plain_price }
