-- The listed levels are the counted levels, by their places.
use Rattle.std.proofs.Common.{◌∙◌, arith}
use Rattle.counting.proofs.Ledgers.{sound_histogram}
use Rattle.drawing.specs.Filling.{ledger}
use Rattle.drawing.proofs.Asked.{number_listed, level_listed}
use Rattle.drawing.proofs.search.Search.level_at.Goals as goal

pub bounds-deref-place : goal.bounds-deref-place
bounds-deref-place c =
    let s = c.args.self.now in
    omega (arith, number_listed (ledger s) (sound_histogram s.histogram.now) c.deref.result.now (c.deref.ensures.0 ∙ s.listed))

pub returns : goal.returns
returns c = let s = c.args.self.now in level_listed (ledger s) c.deref.result.now (c.deref.ensures.0 ∙ s.listed) c.args.place
