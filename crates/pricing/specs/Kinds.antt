-- The kinds of tally: what each of them computes.
use Rattle.std.specs.Prelude.{ℕ, ◌+◌, ◌*◌, min, max, cond, nat_le, nat_lt}
use Rattle.std.proofs.Common.{arith}
use Rattle.pricing.specs.Tallies.{Ops}
use Rattle.pricing.specs.declared.tallies.total.Total.{Total}
use Rattle.pricing.specs.declared.tallies.worst.Worst.{Worst}

-- a number held at the largest of 64 bits
abbrev pub held : ℕ → Total
held n = record { sum = min n 18446744073709551615; fits = omega arith }

-- Total: the sum of pixels times error.
abbrev pub total_ops : Ops Total
total_ops = record {
  neutral = held 0;
  join = (λ p q. held (p.sum + q.sum));
  not_above = (λ p q. nat_le p.sum q.sum);
  charge = (λ n e. held (n * e));
}

abbrev pub at_worst : ℕ → Worst
at_worst e = record { error = e }

-- Worst: the largest error that any pixel has.
abbrev pub worst_ops : Ops Worst
worst_ops = record {
  neutral = at_worst 0;
  join = (λ p q. at_worst (max p.error q.error));
  not_above = (λ p q. nat_le p.error q.error);
  charge = (λ n e. at_worst (cond (nat_lt 0 n) e 0));
}
