-- A run in the cells of its end: the first level of all begins it, or it is put after what the cells hold that end where it starts.
use Rattle.std.proofs.Common.{◌≡◌, ℕ, ◌+◌, ◌-◌, ◌*◌, ◌<◌, ◌≤◌, max, Bool, false, ◌⊎◌, sym, refl, subst, inl, inr, rules, arith, length-set}
use Rattle.pricing.specs.Tallies.{Ops, Laws}
use Rattle.drawing.specs.Cells.{Needed, Turned}
use Rattle.drawing.specs.Filling.{counted, HasRoom, SearchedTo}
use Rattle.drawing.specs.declared.work.Cells.{Cells}
use Rattle.drawing.specs.declared.search.Search.{Search}
use Rattle.drawing.proofs.Placed.{placed_first, placed_turn}
use Rattle.drawing.proofs.search.run.Run.put.Goals as goal

-- a cell is named by its end place in the code, and by its number of levels in the definitions
one_less : (e : ℕ) → e + 1 - 1 ≡ e
one_less e = omega arith

pub returns-then-self-eq0 : goal.returns-then-self-eq0
returns-then-self-eq0 g c =
    let o = g.T.Tally.ops in
    let s = c.args.self.now.search.now in
    let cells = c.args.cells.now in
    let end = c.args.self.now.end in
    record {
      room = (omega (arith, c.requires.0, length-set cells.tallies.now (end * s.bins) c.args.price), omega (arith, c.requires.1, length-set cells.links.now (end * s.bins) 0));
      placed = (λ cost is t.
          rw (one_less end) at (placed_first o g.met.T.Tally.laws cost (counted s) s.bins (end + 1) c.args.self.now.start (omega (arith, c.args.self.now.order)) (omega (arith, c.args.self.now.inside)) (omega (arith, s.some)) s.few
          cells.tallies.now cells.links.now c.args.price c.if-self-eq0.true is t));
    }

-- the run from `start` to `end`, put after others at the bin numbers from `from` to `to`
module _ {C : Type 0} (o : Ops C) (L : Laws o) (s : Search) (cells then : Cells C) (keep : C → C → Bool) (price : C) (start end from to : ℕ)
    (order : start ≤ end) (inside : end < counted s) (pos : 0 < start) (bounds : (1 ≤ from) × (from ≤ to) × (to ≤ s.bins) × (to ≤ max from (start + 1)))
    (needed : (m : ℕ) → 0 < m → Needed (counted s) s.bins m (end + 1) → (from ≤ m) × (m ≤ start → m < to))
    (keeps : ((start + 1 ≡ end + 1) × ((p q : C) → keep p q ≡ false)) ⊎ ((start + 1 < end + 1) × ((p q : C) → keep p q ≡ o.not_above p q)))
    (turned : Turned o keep price start (end * s.bins + from) ((start - 1) * s.bins + (from - 1)) (to - from) cells.tallies.now then.tallies.now cells.links.now then.links.now) where
  room_kept : HasRoom s cells → HasRoom s then
  room_kept room = (omega (arith, room, turned.long), omega (arith, room, turned.long))

  placed : (cost : ℕ → ℕ → C) → price ≡ cost start (end + 1 - start) → SearchedTo o cost s (end + 1) (start + 1) cells → SearchedTo o cost s (end + 1) start then
  placed cost is before =
      placed_turn o L cost (counted s) s.bins (end + 1) start (omega arith) (omega arith) (omega (arith, s.some)) s.few
      keep price from to cells.tallies.now then.tallies.now cells.links.now then.links.now pos is bounds.0 bounds.1 bounds.3 needed keeps
      (subst (λ (x : ℕ). Turned o keep price start (x * s.bins + from) ((start - 1) * s.bins + (from - 1)) (to - from) cells.tallies.now then.tallies.now cells.links.now then.links.now) (sym (one_less end)) turned)
      before

pub returns-then-self : goal.returns-then-self
returns-then-self g c =
    let o = g.T.Tally.ops in
    let s = c.args.self.now.search.now in
    let run = c.args.self.now in
    let n = c.bin_numbers-numbers in
    let then = c.put_after.new.cells in
    let turned = c.put_after.ensures (λ _ _. false) (λ had given kept answer. search rules) in
    record {
      room = room_kept o g.met.T.Tally.laws s c.args.cells.now then (λ _ _. false) c.args.price run.start run.end n.result.start n.result.end run.order run.inside (omega arith) n.ensures.bounds n.ensures.needed
          (inl (omega arith, λ p q. refl)) turned c.requires;
      placed = placed o g.met.T.Tally.laws s c.args.cells.now then (λ _ _. false) c.args.price run.start run.end n.result.start n.result.end run.order run.inside (omega arith) n.ensures.bounds n.ensures.needed
          (inl (omega arith, λ p q. refl)) turned;
    }

pub returns-else-self : goal.returns-else-self
returns-else-self g c =
    let o = g.T.Tally.ops in
    let s = c.args.self.now.search.now in
    let run = c.args.self.now in
    let n = c.bin_numbers-numbers in
    let then = c.put_after-else-self.new.cells in
    let turned = c.put_after-else-self.ensures o.not_above (λ had given kept answer. search rules) in
    record {
      room = room_kept o g.met.T.Tally.laws s c.args.cells.now then o.not_above c.args.price run.start run.end n.result.start n.result.end run.order run.inside (omega arith) n.ensures.bounds n.ensures.needed
          (inr (omega (arith, run.order), λ p q. refl)) turned c.requires;
      placed = placed o g.met.T.Tally.laws s c.args.cells.now then o.not_above c.args.price run.start run.end n.result.start n.result.end run.order run.inside (omega arith) n.ensures.bounds n.ensures.needed
          (inr (omega (arith, run.order), λ p q. refl)) turned;
    }
