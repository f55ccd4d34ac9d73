-- Each run that ends here is put where it belongs, and after the longest of them the cells of this end are filled.
use Rattle.std.proofs.Common.{◌≡◌, ℕ, ◌+◌, ◌-◌, ◌∙◌, subst, arith}
use Rattle.counting.proofs.Ledgers.{sound_histogram}
use Rattle.divisions.specs.Divisions.{price}
use Rattle.drawing.specs.Filling.{ledger, counted, SearchedTo}
use Rattle.drawing.proofs.Asked.{price_agrees}
use Rattle.drawing.proofs.Placed.{row_filled}
use Rattle.drawing.proofs.search.Search.fill_end.Goals as goal

pub loop-start-preserved : goal.loop-start-preserved
loop-start-preserved g c =
    let o = g.P.Kind.Tally.ops in
    let s = c.args.self.now in
    let start = c.loop-start.start in
    let inv = c.loop-start.invariant in
    let next : start ≡ start - 1 + 1 = omega arith in (
      (λ k r a b. c.price-price.ensures.same k r a b ∙ inv.0 k r a b),
      c.put.ensures.room,
      omega arith,
      λ error same before.
          subst (λ (from : ℕ). SearchedTo o (price o error (ledger s)) s (c.args.end + 1) from c.put.new.cells) next
          (c.put.ensures.placed (price o error (ledger s))
          (price_agrees o _ _ error inv.0 same (ledger s) (sound_histogram s.histogram.now) start c.args.end (omega arith) c.requires.end _ c.price-price.ensures.price)
          (inv.3 error same before)),
    )

pub returns-2 : goal.returns-2
returns-2 g c =
    let o = g.P.Kind.Tally.ops in
    let s = c.args.self.now in
    let start = c.loop-start.start in
    let inv = c.loop-start.invariant in
    let two : c.args.end + 1 + 1 ≡ c.args.end + 2 = omega arith in
    record {
      after = (λ error same before.
          subst (λ (x : ℕ). SearchedTo o (price o error (ledger s)) s x x c.put.new.cells) two
          (row_filled o g.met.P.Kind.Tally.laws (price o error (ledger s)) (counted s) s.bins (c.args.end + 1) start (omega arith) s.few (omega (arith, c.counted.ensures.is))
          c.put.new.cells.tallies.now c.put.new.cells.links.now
          (c.put.ensures.placed (price o error (ledger s))
          (price_agrees o _ _ error inv.0 same (ledger s) (sound_histogram s.histogram.now) start c.args.end (omega arith) c.requires.end _ c.price-price.ensures.price)
          (inv.3 error same before))));
      same = (λ k r a b. c.price-price.ensures.same k r a b ∙ inv.0 k r a b);
    }
