use Rattle.tablefile.proofs.Entries.{LevelsUpto}
use Rattle.tablefile.proofs.body.Body.pixels.Given as goal

-- the entries so far are read
abbrev pub invariant-loop : goal.invariant-loop
invariant-loop l = LevelsUpto l.fn.self.file.now l.fn.self.levels l.pixels l.least l.total l.counter l.self
