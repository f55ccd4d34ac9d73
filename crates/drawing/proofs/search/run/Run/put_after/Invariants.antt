-- The cells of the run and those before it lie within the lists, and those up to `k` have been turned.
use Rattle.std.proofs.Common.{◌+◌, ◌≤◌, length}
use Rattle.drawing.specs.Cells.{Computes, Turned}
use Rattle.drawing.proofs.search.run.Run.put_after.Given as goal

abbrev pub invariant-loop-k : goal.invariant-loop-k
invariant-loop-k g l =
    (l.row + l.k-end ≤ length l.tallies) × (l.row + l.k-end ≤ length l.links) × (l.before + l.k-end ≤ l.row)
    × ((keep : _) → Computes (goal.F-post g l.keeps) keep → Turned g.T.Tally.ops keep l.price l.self.start l.row l.before l.k l.initial.tallies l.tallies l.initial.links l.links)
