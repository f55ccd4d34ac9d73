-- The links are followed from the last bin to the first.
use Rattle.std.proofs.Common.{◌≡◌, ℕ, ◌+◌, ◌-◌, ◌*◌, length, get_or, reverse, ap, ap₂, ◌∙◌, arith}
use Rattle.divisions.specs.Divisions.{representative}
use Rattle.counting.proofs.Ledgers.{sound_histogram}
use Rattle.divisions.proofs.Same.{representative_same}
use Rattle.drawing.specs.Filling.{ledger, counted, bin_with}
use Rattle.drawing.proofs.Tracing.{reverse_more, written_over, tracing_cell, tracing_more, tracing_end}
use Rattle.drawing.proofs.search.Search.trace.Goals as goal

pub loop-bin-preserved : goal.loop-bin-preserved
loop-bin-preserved g c =
    let o = g.P.Kind.Tally.ops in
    let s = c.args.self.now in
    let led = ledger s in
    let error = g.P.Measure.error c.args.pricer.now in
    let left = c.loop-bin.bin in
    let n = c.loop-bin.end in
    let inv = c.loop-bin.invariant in
    let t = inv.1 in
    let bins = reverse c.loop-bin.bins.items in
    let cell = tracing_cell o error led (counted s) s.bins s.few left n bins c.args.cells.now.tallies.now c.args.cells.now.links.now (omega arith) (omega arith) t c.requires in
    let link = get_or c.args.cells.now.links.now ((n - 1) * s.bins + (left - 1)) 0 in
    let back : n - 1 + 1 - link ≡ n - link = omega (arith, cell.high) in
    let grey-is : c.price-representative.result.0 ≡ representative o error led link (n - link) =
    rw c.from-start.ensures at c.price-representative.ensures.representative ∙ ap (λ (d : ℕ). representative o (g.P.Measure.error c.loop-bin.pricer) led link d) back
    ∙ representative_same o (g.P.Measure.error c.loop-bin.pricer) error inv.0 led (sound_histogram s.histogram.now) link (n - link) (omega (arith, cell.high)) (omega (arith, cell.high, t.within)) in (
      (λ k r a b. c.price-representative.ensures.same k r a b ∙ inv.0 k r a b),
      rw (c.from-start.ensures, c.push.ensures.items, reverse_more c.loop-bin.bins.items)
          (tracing_more o error led (counted s) s.bins s.few left n link _ bins _ (omega arith) (omega arith) t cell (ap₂ (λ (bound grey : ℕ). bin_with (bound, grey)) c.level_at.ensures grey-is)),
    )

pub returns : goal.returns
returns g c =
    let s = c.args.self.now in
    let all = tracing_end g.P.Kind.Tally.ops (g.P.Measure.error c.args.pricer.now) (ledger s) (counted s) s.bins s.few
    c.loop-bin.bin c.loop-bin.end (reverse c.loop-bin.bins.items) (omega arith) c.loop-bin.invariant.1 in
    record {
      bins = written_over c.loop-bin.bins.items c.reverse.new.self (c.reverse.ensures.len ∙ ap length c.deref_mut.ensures.value) ∙ c.reverse.ensures.after ∙ ap reverse c.deref_mut.ensures.value ∙ all;
      same = c.loop-bin.invariant.0;
    }
