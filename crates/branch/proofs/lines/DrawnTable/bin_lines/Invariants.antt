-- So far there are the lines of the bins before this one, which begins at the level `first`.
use Rattle.std.proofs.Common.{◌≡◌, string_bytes}
use Rattle.std.specs.List.{range_with_len, flat_map}
use Rattle.counting.specs.Meaning.{ledger_of}
use Rattle.tables.specs.Meaning.{table_of}
use Rattle.branch.specs.Report.{first_of, bin_line}
use Rattle.branch.proofs.lines.DrawnTable.bin_lines.Given as goal

abbrev pub invariant-loop-bin : goal.invariant-loop-bin
invariant-loop-bin l = record {
  lines : string_bytes l.text ≡ flat_map (bin_line (ledger_of l.self.histogram.now) (table_of l.self.table.now)) (range_with_len 0 l.bin-index);
  begins : l.first ≡ first_of (table_of l.self.table.now) l.bin-index;
}
