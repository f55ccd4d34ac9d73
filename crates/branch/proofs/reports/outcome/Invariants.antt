-- The answers ahead decide the outcome.
use Rattle.std.proofs.Common.{◌≡◌, drop}
use Rattle.branch.specs.Outcome.{outcome_of}
use Rattle.branch.proofs.reports.outcome.Given as goal

abbrev pub invariant-loop-answer : goal.invariant-loop-answer
invariant-loop-answer l = outcome_of (drop l.answer-index l.answers) l.drawn ≡ outcome_of l.answers l.drawn
