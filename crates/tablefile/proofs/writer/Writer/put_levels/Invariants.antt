use Rattle.std.proofs.Common.{length}
use Rattle.std.specs.List.{flat_map}
use Rattle.counting.specs.Meaning.{ledger_of}
use Rattle.tablefile.specs.Bytes.{counted_below, level_bytes}
use Rattle.tablefile.specs.Parts.{Puts}
use Rattle.tablefile.proofs.writer.Writer.put_levels.Given as goal

-- the entries of the levels so far are written
abbrev pub invariant-loop-level : goal.invariant-loop-level
invariant-loop-level l = Puts l.initial.self (flat_map (level_bytes (ledger_of l.histogram)) (counted_below (ledger_of l.histogram) (length l.yielded))) l.self
