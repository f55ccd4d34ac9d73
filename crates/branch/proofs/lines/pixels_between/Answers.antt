-- The pixels of a part of the levels are not more than the histogram has, and they are the sum over its levels.
use Rattle.std.proofs.Common.{◌≡◌, ◌+◌, ◌<◌, ◌^◌, sum, slice_range, ap, ◌∙◌, arith, rules}
use Rattle.std.proofs.iter.runs.Made.{chains}
use Rattle.counting.specs.Meaning.{ledger_of}
use Rattle.counting.proofs.Ledgers.{sound_histogram}
use Rattle.branch.proofs.Spans.{part_is, part_le}
use Rattle.branch.proofs.lines.pixels_between.Goals as goal

pub sum-requires-clause-fits : goal.sum-requires-clause-fits
sum-requires-clause-fits c =
    let fits : sum (slice_range c.pixels.result.now c.from.result (c.from-2.result + 1)) < 2 ^ 32 =
    omega (arith, part_le c.pixels.result.now c.from.result (c.from-2.result + 1), ap sum c.pixels.ensures, (sound_histogram c.args.histogram.now).fits) in
    search (rules, chains)

pub returns : goal.returns
returns c =
    let g = ledger_of c.args.histogram.now in
    let added : c.sum.result ≡ sum (slice_range g.at c.args.first (c.args.last + 1)) = search (rules, chains) in
    added ∙ part_is g c.args.first c.args.last c.requires.0 (omega (arith, c.requires.1, (sound_histogram c.args.histogram.now).width))
