-- The cells so far are written.
use Rattle.ffi.specs.Scans.{FilledBy}
use Rattle.ffi.proofs.cells.fill.Given as goal

abbrev pub invariant-loop-k : goal.invariant-loop-k
invariant-loop-k g l = FilledBy (λ k value. goal.F-post g l.of k value) l.k l.initial.cells l.cells
