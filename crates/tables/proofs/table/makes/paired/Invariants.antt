use Rattle.std.proofs.Common.{◌≡◌, length, take}
use Rattle.tables.specs.Bins.{bounds_in, representatives_in}
use Rattle.tables.proofs.table.makes.paired.Given as goal

abbrev pub invariant-loop-bound : goal.invariant-loop-bound
invariant-loop-bound l = record {
  as_many : length l.bins.items ≡ length l.yielded;
  bounds : bounds_in l.bins.items ≡ take (length l.yielded) l.bounds;
  representatives : representatives_in l.bins.items ≡ take (length l.yielded) l.representatives;
}
