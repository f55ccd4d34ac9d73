use Rattle.tablefile.proofs.Bins.{BinsUpto}
use Rattle.tablefile.proofs.body.Body.bins.Given as goal

-- the entries so far are read
abbrev pub invariant-loop-i : goal.invariant-loop-i
invariant-loop-i l = BinsUpto l.fn.self.file.now l.fn.self.levels l.fn.self.place l.bins.items l.least l.i l.self
