-- Each level tried either takes the place of the best so far or leaves it.
use Rattle.std.proofs.Common.{◌+◌, refl, arith}
use Rattle.counting.specs.Meaning.{ledger_of}
use Rattle.pricing.proofs.Costs.{same_again}
use Rattle.pricing.proofs.Trials.{tried_none, tried_more, tried_all}
use Rattle.pricing.proofs.pricers.level_range.LevelRange.lowest.Goals as goal

pub loop-r-init : goal.loop-r-init
loop-r-init g c = (
  tried_none g.T.Tally.ops g.met.T.Tally.laws (ledger_of c.args.self.now.histogram.now) c.args.self.now.first c.args.self.now.last (omega arith) (omega arith)
      (g.M.Measure.error c.args.measure.now) (g.M.Measure.error c.tally.new.measure) c.args.low c.tally.result
      c.tally.ensures.same (omega arith) c.tally.ensures.tally,
  λ k r _ _. refl,
  omega arith,
)

pub loop-r-preserved : goal.loop-r-preserved
loop-r-preserved g c =
    let start = g.M.Measure.error c.tally.new.measure in
    let here = g.M.Measure.error c.loop-r.measure in (
      tried_more g.T.Tally.ops g.met.T.Tally.laws (ledger_of c.args.self.now.histogram.now) c.args.self.now.first c.args.self.now.last (omega arith) (omega arith)
          start here c.args.low c.loop-r.r c.loop-r.best c.better-best.result c.tally-tally.result (omega arith) (omega arith) c.loop-r.invariant.1
          c.loop-r.invariant.0 c.tally-tally.ensures.tally c.better-best.ensures,
      same_again (g.M.Measure.error c.tally-tally.new.measure) here start c.tally-tally.ensures.same c.loop-r.invariant.1,
      omega arith,
    )

pub returns-clause-tally : goal.returns-clause-tally
returns-clause-tally g c =
    let all = tried_all g.T.Tally.ops g.met.T.Tally.laws (ledger_of c.args.self.now.histogram.now) c.args.self.now.first c.args.self.now.last (omega arith) (omega arith)
    (g.M.Measure.error c.args.measure.now) (g.M.Measure.error c.tally.new.measure) c.args.low c.args.high c.loop-r.r c.loop-r.best (omega arith) (omega arith) c.tally.ensures.same c.loop-r.invariant.0 in
    all.1

-- the turn at the highest level is the last
pub returns-2 : goal.returns-2
returns-2 g c =
    let error = g.M.Measure.error c.args.measure.now in
    let start = g.M.Measure.error c.tally.new.measure in
    let here = g.M.Measure.error c.loop-r.measure in
    let turn = tried_more g.T.Tally.ops g.met.T.Tally.laws (ledger_of c.args.self.now.histogram.now) c.args.self.now.first c.args.self.now.last (omega arith) (omega arith)
    start here c.args.low c.loop-r.r c.loop-r.best c.better-best.result c.tally-tally.result (omega arith) (omega arith) c.loop-r.invariant.1
    c.loop-r.invariant.0 c.tally-tally.ensures.tally c.better-best.ensures in
    let all = tried_all g.T.Tally.ops g.met.T.Tally.laws (ledger_of c.args.self.now.histogram.now) c.args.self.now.first c.args.self.now.last (omega arith) (omega arith)
    error start c.args.low c.args.high (c.loop-r.r + 1) c.better-best.result (omega arith) (omega arith) c.tally.ensures.same turn in
    record {
      lowest = all.0;
      tally = all.1;
      same = same_again _ start error (same_again _ here start c.tally-tally.ensures.same c.loop-r.invariant.1) c.tally.ensures.same;
    }
