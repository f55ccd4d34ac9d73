use Rattle.std.proofs.Common.{rules, ◌<◌, ◌^◌, length, ltb, count_by, ap, arith}
use Rattle.std.proofs.iter.runs.Made.{chains}
use Rattle.std.proofs.lemmas.List.Sums.{count_by-le-length}
use Rattle.counting.proofs.Ledgers.{sound_histogram}
use Rattle.counting.proofs.histogram.Histogram.counted_levels.Goals as goal

-- at most every level has pixels, and there are at most 1,024
pub sum-requires-clause-fits : goal.sum-requires-clause-fits
sum-requires-clause-fits c =
    let sound = sound_histogram c.args.self.now in
    let fits : count_by (ltb 0) c.pixels.result.now < 2 ^ 16 =
    omega (arith, count_by-le-length (ltb 0) c.pixels.result.now, ap length c.pixels.ensures, sound.range.1, sound.width) in
    search (rules, chains)
