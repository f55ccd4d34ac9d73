-- The filled cells give the tally and the table that a drawing promises.
use Rattle.std.proofs.Common.{◌≡◌, ℕ, ◌<◌, min, sym, refl, ap, ◌∙◌, arith}
use Rattle.counting.specs.Ledger.{counted_levels}
use Rattle.counting.specs.Meaning.{ledger_of}
use Rattle.counting.specs.declared.histogram.Histogram.{Histogram}
use Rattle.counting.proofs.Ledgers.{sound_histogram}
use Rattle.divisions.specs.Divisions.{price, bins_of}
use Rattle.divisions.specs.Figures.{candidates, path_steps}
use Rattle.drawing.specs.Filling.{ledger, counted}
use Rattle.drawing.proofs.Promised.{searched_same, table_for_same, drew}
use Rattle.drawing.proofs.drawings.draw_up.Goals as goal

pub table-requires : goal.table-requires
table-requires g c =
    let s = c.of-search.result in
    searched_same g.P.Kind.Tally.ops g.met.P.Kind.Tally.laws (g.P.Measure.error c.args.pricer.now) (g.P.Measure.error c.fill.new.pricer) (λ k r a b. sym (c.fill.ensures.same k r a b))
    (ledger s) (sound_histogram s.histogram.now) (counted s) s.bins c.fill.new.cells.tallies.now c.fill.new.cells.links.now refl c.fill.ensures.filled

pub returns : goal.returns
returns g c =
    let o = g.P.Kind.Tally.ops in
    let L = g.met.P.Kind.Tally.laws in
    let error = g.P.Measure.error c.args.pricer.now in
    let fair = g.met.P.Measure.fair c.args.pricer.now in
    let most = c.args.most in
    let s = c.of-search.result in
    let S = sound_histogram s.histogram.now in
    let same = c.of-search.ensures.histogram in
    let number : c.counted_levels-counted.result ≡ counted s = c.counted_levels-counted.ensures ∙ ap (λ (h : Histogram). counted_levels (ledger_of h)) (sym same) in
    let some : 0 < counted s = omega (arith, s.some, s.few) in
    let bins_are : s.bins ≡ bins_of (ledger s) most = omega (arith, c.bins-bins.ensures, c.of-search.ensures.bins, number) in
    let tally_is = c.tally.ensures (price o error (ledger s)) c.fill.ensures.filled in
    let table_is = c.table.ensures.table
    ∙ table_for_same o L (g.P.Measure.error c.fill.new.pricer) error c.fill.ensures.same (ledger s) S s.bins (counted s) refl s.some s.few in
    record {
      drew = rw (← same) (drew o L error fair (ledger s) S most (counted s) s.bins refl bins_are c.requires.shape.0 some _ _ tally_is table_is (sym c.of-search.ensures.bins)
          (c.priced.ensures.counts ∙ ap (λ (n : ℕ). candidates n (min most n)) number)
          (c.compared.ensures.counts ∙ ap (λ (n : ℕ). path_steps n (min most n)) number));
      same = (λ k r a b. c.table.ensures.same k r a b ∙ c.fill.ensures.same k r a b);
    }
