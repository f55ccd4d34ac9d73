-- The rows so far are counted, and the rest of the list is ahead.
use Rattle.std.proofs.Common.{◌≡◌, ◌+◌, ◌*◌, length, drop}
use Rattle.std.specs.Slice.Iter.{chunks_rest, chunks_size}
use Rattle.std.specs.Iterator.Adapters.{take_source, take_count}
use Rattle.counting.specs.Meaning.{ledger_of}
use Rattle.ffi.specs.Scans.{scanned}
use Rattle.ffi.proofs.rows.histogram_of.Given as goal

abbrev pub invariant-loop-row : goal.invariant-loop-row
invariant-loop-row l = record {
  counted : ledger_of l.histogram ≡ scanned l.levels (length l.yielded) l.scan.width l.scan.cells.now;
  ahead : chunks_rest (take_source l.row-iterator) ≡ drop (length l.yielded * l.scan.width) l.scan.cells.now;
  size : chunks_size (take_source l.row-iterator) ≡ l.scan.width;
  left : take_count l.row-iterator + length l.yielded ≡ l.scan.rows;
}
