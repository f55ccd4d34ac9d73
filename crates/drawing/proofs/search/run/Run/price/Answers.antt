-- A run always has a price, and what is answered is its representative and its price.
use Rattle.counting.proofs.Ledgers.{sound_histogram}
use Rattle.drawing.specs.Filling.{ledger}
use Rattle.drawing.proofs.Asked.{always_priced, answer_is}
use Rattle.drawing.proofs.search.run.Run.price.Goals as goal

pub unwrap-requires : goal.unwrap-requires
unwrap-requires g c =
    let s = c.args.self.now.search.now in
    always_priced g.P.Kind.Tally.ops g.met.P.Kind.Tally.laws (g.P.Measure.error c.args.pricer.now) (ledger s) (sound_histogram s.histogram.now)
    c.args.self.now.start c.args.self.now.end c.args.self.now.order c.args.self.now.inside _ _ c.level_at.ensures c.level_at-2.ensures c.price.result c.price.ensures.answer

pub returns : goal.returns
returns g c =
    let s = c.args.self.now.search.now in
    let is = answer_is g.P.Kind.Tally.ops g.met.P.Kind.Tally.laws (g.P.Measure.error c.args.pricer.now) (ledger s) (sound_histogram s.histogram.now)
    c.args.self.now.start c.args.self.now.end c.args.self.now.order c.args.self.now.inside _ _ c.level_at.ensures c.level_at-2.ensures c.price.result c.price.ensures.answer c.unwrap.result c.unwrap.ensures in
    record { representative = is.0; price = is.1; same = c.price.ensures.same }
