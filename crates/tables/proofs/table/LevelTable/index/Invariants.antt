use Rattle.std.proofs.Common.{◌≡◌, map, take}
use Rattle.counting.specs.Outputs.{over}
use Rattle.tables.specs.Table.{bin_of}
use Rattle.tables.specs.Meaning.{table_of}
use Rattle.tables.proofs.table.LevelTable.index.Given as goal

abbrev pub invariant-loop-i : goal.invariant-loop-i
invariant-loop-i l = l.out ≡ over (map (bin_of (table_of l.self)) (take l.i l.row)) l.initial.out
