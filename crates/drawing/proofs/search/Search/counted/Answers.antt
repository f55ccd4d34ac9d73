-- As many levels are listed as are counted.
use Rattle.std.proofs.Common.{◌∙◌}
use Rattle.counting.proofs.Ledgers.{sound_histogram}
use Rattle.drawing.specs.Filling.{ledger}
use Rattle.drawing.proofs.Asked.{number_listed}
use Rattle.drawing.proofs.search.Search.counted.Goals as goal

pub returns-clause-is : goal.returns-clause-is
returns-clause-is c =
    let s = c.args.self.now in
    c.len.ensures.value ∙ number_listed (ledger s) (sound_histogram s.histogram.now) s.levels.items s.listed
