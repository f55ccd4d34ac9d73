use Rattle.std.proofs.Common.{◌≡◌, ℕ, ◌<◌, ltb, List, length, get_or, set, sym, ap, ap₂, ◌∙◌, arith}
use Rattle.std.specs.List.{prefix_len}
use Rattle.std.proofs.lemmas.List.{length-map, get_or-map}
use Rattle.counting.proofs.Outputs.{fill_more, fill_all}
use Rattle.tables.specs.Table.{representative_of}
use Rattle.tables.specs.Bins.{bounds_in}
use Rattle.tables.specs.Rows.{first_no_bin}
use Rattle.tables.specs.Meaning.{table_of}
use Rattle.tables.proofs.Rows.{fits_room, room_enough, all_below}
use Rattle.tables.proofs.table.LevelTable.show.Goals as goal

pub bounds-bins-from : goal.bounds-bins-from
bounds-bins-from c =
    let bins = c.as_slice-bins.result.now in
    let below = all_below c.bins.result c.args.indices.now c.in_default.ensures c.loop-i.i (omega arith) in
    let many : length (bounds_in bins) ≡ length bins = length-map bins (λ bin. bin.bound) in
    omega (arith, ap length c.as_slice-bins.ensures.bounds, c.bins.ensures)

pub loop-i-preserved : goal.loop-i-preserved
loop-i-preserved c =
    let bins = c.as_slice-bins.result.now in
    let t = table_of c.args.self.now in
    let indices = c.args.indices.now in
    let below = all_below c.bins.result indices c.in_default.ensures c.loop-i.i (omega arith) in
    let many : length (bounds_in bins) ≡ length bins = length-map bins (λ bin. bin.bound) in
    let inside : c.from.result < length bins = omega (arith, ap length c.as_slice-bins.ensures.bounds, c.bins.ensures) in
    let looked = sym (get_or-map (λ bin. bin.representative) bins c.from.result (record { bound = 0; representative = 0 }) 0 inside)
    ∙ ap₂ (λ (greys : List ℕ) (index : ℕ). get_or greys index 0) c.as_slice-bins.ensures.representatives c.from.ensures in
    ap (λ (v : ℕ). set c.loop-i.out c.loop-i.i v) looked
    ∙ fill_more (representative_of t) indices c.args.out.now c.loop-i.out c.loop-i.i (omega arith) (omega arith) c.loop-i.invariant

pub returns : goal.returns
returns c =
    let self = c.args.self.now in
    let t = table_of self in
    let indices = c.args.indices.now in (
      fits_room (first_no_bin t indices) (length indices) _ _ (ap (λ (n : ℕ). prefix_len (λ i. ltb i n) indices) (sym c.bins.ensures) ∙ c.in_default.ensures) ∙ room_enough _ _ (omega arith),
      sym (length-map indices (representative_of t)),
      fill_all (representative_of t) indices c.args.out.now c.loop-i.out c.loop-i.i (omega arith) c.loop-i.invariant,
    )
