use Rattle.std.proofs.Common.{arith}
use Rattle.tablefile.proofs.Faults.{rest_some, rest_none}
use Rattle.tablefile.proofs.body.Body.end.Goals as goal

pub returns-then-self : goal.returns-then-self
returns-then-self c = rest_some _ _ (omega arith)

pub returns : goal.returns
returns c = (rest_none _ _ (omega arith), omega arith)
