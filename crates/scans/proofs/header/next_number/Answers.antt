-- The parts lie within the bytes.
use Rattle.std.proofs.Common.{false, arith}
use Rattle.std.proofs.lemmas.List.Sums.{prefix_len-le-length}
use Rattle.std.specs.Char.{is_ascii_digit}
use Rattle.scans.proofs.Headers.{gap_le_length}
use Rattle.scans.proofs.header.next_number.Goals as goal

pub split_at-requires : goal.split_at-requires
split_at-requires c = let fits = gap_le_length false c.args.bytes.now in omega arith

pub split_at-requires-2 : goal.split_at-requires-2
split_at-requires-2 c = let fits = prefix_len-le-length is_ascii_digit c.split_at.result.1.now in omega arith
