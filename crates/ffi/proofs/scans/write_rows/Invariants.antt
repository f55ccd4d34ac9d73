-- The rows so far are written, by whatever each call writes.
use Rattle.std.proofs.Common.{length, map}
use Rattle.counting.specs.Outputs.{Wrote}
use Rattle.ffi.specs.Scans.{Written}
use Rattle.ffi.proofs.scans.write_rows.Given as goal

abbrev pub invariant-loop-i : goal.invariant-loop-i
invariant-loop-i g l =
    (f : _) (fits : _)
    → ((row : _) (part : _) (written : _) (left : _) → goal.F-post g l.write row part written left → Wrote (fits row.now (length part.now)) (map f row.now) written part.now left.now)
    → Written f fits l.i l.scan.width l.scan.cells.now l.initial.out l.out l.i
