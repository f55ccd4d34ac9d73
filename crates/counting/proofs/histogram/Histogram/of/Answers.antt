use Rattle.std.proofs.Common.{rules, ◌≤◌, length, arith}
use Rattle.counting.proofs.Rows.{front_of_padded, past_padded}
use Rattle.counting.proofs.histogram.Histogram.of.Goals as goal

pub invariant_of-result : goal.invariant_of-result
invariant_of-result c =
    let pixels = c.args.pixels.now in
    let range : (2 ≤ length pixels) × (length pixels ≤ 1024) = search rules in
    record {
      range = range;
      width = c.padded.ensures.0;
      balance = rw (c.padded.ensures.1, front_of_padded pixels) c.in_ok-total.ensures;
      fits = omega arith;
      past = rw c.padded.ensures.1 (past_padded pixels);
    }

pub returns : goal.returns
returns c =
    let pixels = c.args.pixels.now in
    rw (c.padded.ensures.1, front_of_padded pixels) (search rules)
