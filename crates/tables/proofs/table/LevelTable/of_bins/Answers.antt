use Rattle.std.proofs.Common.{arith}
use Rattle.tables.specs.Bins.{table_in}
use Rattle.tables.proofs.Bins.{bound_below}
use Rattle.tables.proofs.table.LevelTable.of_bins.Goals as goal

pub bins_of_levels-requires-clause-levels : goal.bins_of_levels-requires-clause-levels
bins_of_levels-requires-clause-levels c i h =
    let law = c.lawful.ensures.0 c.if-not-lawful.false in
    omega (arith, law.range, bound_below (table_in c.args.levels c.args.bins.now) law i h)
