-- What was traced, with the last bound at the highest level, is the table of the best division.
use Rattle.std.proofs.Common.{◌≡◌, ℕ, ◌-◌, List, length, sym, ap, ◌∙◌, subst, arith, length-set, refl}
use Rattle.std.specs.List.{refill}
use Rattle.counting.proofs.Ledgers.{sound_histogram}
use Rattle.tables.specs.Table.{Lawful}
use Rattle.tables.specs.Bins.{table_in}
use Rattle.tables.specs.declared.table.Bin.{Bin}
use Rattle.drawing.specs.Filling.{ledger, counted}
use Rattle.drawing.proofs.Tracing.{written_over, bound_set, table_made, made_is, best_number, traced_table, traced_lawful}
use Rattle.drawing.proofs.search.Search.table.Goals as goal

pub bounds-deref_mut-self : goal.bounds-deref_mut-self
bounds-deref_mut-self g c =
    let s = c.args.self.now in
    let number = best_number g.P.Kind.Tally.ops g.met.P.Kind.Tally.laws (g.P.Measure.error c.args.pricer.now) (ledger s) (counted s) s.bins s.some s.few in
    omega (arith, s.some, ap length c.deref_mut.ensures.value, ap length c.trace-bins.ensures.bins, number)

-- bins written over by themselves with one bound set
set_over : (bins seen after : List Bin) (i bound : ℕ) → seen ≡ bins → after ≡ refill (length bins) bins (bound_set seen i bound) → after ≡ bound_set bins i bound
set_over bins seen after i bound e f = f ∙ written_over bins (bound_set seen i bound) (length-set seen i _ ∙ ap length e) ∙ ap (λ (bs : List Bin). bound_set bs i bound) e

pub unwrap-requires : goal.unwrap-requires
unwrap-requires g c =
    let s = c.args.self.now in
    let bins = c.trace-bins.result.items in
    let levels = c.levels-levels.result in
    let bins_are = set_over bins c.deref_mut.result.now c.deref.result.now (s.bins - 1) (levels - 1) c.deref_mut.ensures.value c.deref.ensures.0 in
    table_made _ c.of_bins.result c.of_bins.ensures
    (subst (λ (bs : List Bin). Lawful (table_in levels bs)) (sym bins_are)
    (traced_lawful g.P.Kind.Tally.ops g.met.P.Kind.Tally.laws (g.P.Measure.error c.args.pricer.now) (ledger s) (sound_histogram s.histogram.now) (counted s) s.bins refl s.some s.few
    bins levels c.levels-levels.ensures c.trace-bins.ensures.bins s.small))

pub returns : goal.returns
returns g c =
    let s = c.args.self.now in
    let bins = c.trace-bins.result.items in
    let levels = c.levels-levels.result in
    let bins_are = set_over bins c.deref_mut.result.now c.deref.result.now (s.bins - 1) (levels - 1) c.deref_mut.ensures.value c.deref.ensures.0 in
    record {
      table = made_is _ c.of_bins.result c.unwrap.result c.unwrap.ensures c.of_bins.ensures
          ∙ ap (table_in levels) bins_are
          ∙ traced_table g.P.Kind.Tally.ops g.met.P.Kind.Tally.laws (g.P.Measure.error c.args.pricer.now) (ledger s) (sound_histogram s.histogram.now) (counted s) s.bins refl s.some s.few
          bins levels c.levels-levels.ensures c.trace-bins.ensures.bins;
      same = c.trace-bins.ensures.same;
    }
