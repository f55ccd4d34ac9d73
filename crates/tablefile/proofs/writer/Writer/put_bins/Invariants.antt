use Rattle.std.specs.List.{range_with_len, flat_map}
use Rattle.tables.specs.Meaning.{table_of}
use Rattle.tablefile.specs.Bytes.{bin_bytes}
use Rattle.tablefile.specs.Parts.{Puts}
use Rattle.tablefile.proofs.writer.Writer.put_bins.Given as goal

-- the entries of the bins so far are written
abbrev pub invariant-loop-bin : goal.invariant-loop-bin
invariant-loop-bin l = Puts l.initial.self (flat_map (bin_bytes (table_of l.table)) (range_with_len 0 l.bin-index)) l.self
