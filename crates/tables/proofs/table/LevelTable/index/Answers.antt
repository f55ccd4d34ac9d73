use Rattle.std.proofs.Common.{ℕ, get_or, set, sym, ap, ◌∙◌, arith}
use Rattle.std.proofs.lemmas.List.{length-map}
use Rattle.counting.proofs.Outputs.{fill_more, fill_all}
use Rattle.tables.specs.Table.{bin_of}
use Rattle.tables.specs.Meaning.{table_of}
use Rattle.tables.proofs.Rows.{fits_room, room_enough, all_below}
use Rattle.tables.proofs.table.LevelTable.index.Goals as goal

pub bounds-self-from : goal.bounds-self-from
bounds-self-from c =
    let below = all_below c.args.self.now.levels c.args.row.now c.in_default.ensures c.loop-i.i (omega arith) in
    omega (arith, c.args.self.now.range)

pub loop-i-preserved : goal.loop-i-preserved
loop-i-preserved c =
    let self = c.args.self.now in
    let t = table_of self in
    let row = c.args.row.now in
    let below = all_below self.levels row c.in_default.ensures c.loop-i.i (omega arith) in
    let looked = ap (λ (level : ℕ). get_or self.of_level level 0) c.from.ensures ∙ self.lowest (get_or row c.loop-i.i 0) below in
    ap (λ (v : ℕ). set c.loop-i.out c.loop-i.i v) looked
    ∙ fill_more (bin_of t) row c.args.out.now c.loop-i.out c.loop-i.i (omega arith) (omega arith) c.loop-i.invariant

pub returns : goal.returns
returns c =
    let t = table_of c.args.self.now in
    let row = c.args.row.now in (
      fits_room _ _ _ _ c.in_default.ensures ∙ room_enough _ _ (omega arith),
      sym (length-map row (bin_of t)),
      fill_all (bin_of t) row c.args.out.now c.loop-i.out c.loop-i.i (omega arith) c.loop-i.invariant,
    )
