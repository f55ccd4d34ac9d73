-- The bytes behind and the gap ahead make the whole gap.
use Rattle.std.proofs.Common.{◌≡◌, ◌+◌, drop}
use Rattle.scans.specs.Pgm.{gap, gap_from}
use Rattle.scans.proofs.header.gap_len.Given as goal

abbrev pub invariant-loop-i : goal.invariant-loop-i
invariant-loop-i l = l.i + gap_from l.comment (drop l.i l.bytes) ≡ gap l.bytes
