-- The level nearest to the mean is the representative, and its squared errors add up to the price.
use Rattle.std.proofs.Common.{None, rules, arith}
use Rattle.counting.specs.Meaning.{ledger_of}
use Rattle.pricing.specs.Kinds.{total_ops}
use Rattle.pricing.specs.Measures.{squared}
use Rattle.pricing.specs.Prices.{Priced}
use Rattle.pricing.proofs.AddedUp.{few_pixels}
use Rattle.pricing.proofs.CentroidPrices.{no_pixels_priceless, centroid_priced}
use Rattle.pricing.proofs.pricers.level_range.LevelRange.centroid.Goals as goal

pub returns-in_err-r : goal.returns-in_err-r
returns-in_err-r c =
    let range = c.args.self.now in
    let ledger = ledger_of range.histogram.now in
    let none : Priced total_ops squared ledger range.first range.last None = no_pixels_priceless ledger range.first range.last _ _ _ range.ordered c.sums-sums.ensures c.in_err-r.ensures in
    search rules

pub returns : goal.returns
returns c =
    let range = c.args.self.now in
    centroid_priced (ledger_of range.histogram.now) range.first range.last _ _ _ range.ordered c.sums-sums.ensures
    c.in_ok-r.r c.in_ok-r.ensures.0 c.in_ok-r.ensures.2 _ (few_pixels range.histogram.now) range.within (omega arith) c.squared_errors-sum.ensures
