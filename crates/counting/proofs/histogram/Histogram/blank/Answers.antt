use Rattle.std.proofs.Common.{ℕ, List, sym, refl, ap, arith}
use Rattle.std.proofs.lemmas.List.{take-replicate}
use Rattle.counting.proofs.Rows.{zeros_sum, zeros_at}
use Rattle.counting.proofs.histogram.Histogram.blank.Goals as goal

pub invariant_of-result : goal.invariant_of-result
invariant_of-result c = record {
  range = c.requires;
  width = refl;
  balance = sym (zeros_sum c.args.levels 1024);
  fits = omega arith;
  past = (λ l h. zeros_at 1024 l);
}

pub returns : goal.returns
returns c = ap (λ (ps : List ℕ). record { levels = c.args.levels; at = ps }) (take-replicate c.args.levels 1024 0 c.requires.1)
