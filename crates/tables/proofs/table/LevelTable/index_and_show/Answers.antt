use Rattle.std.proofs.Common.{◌≡◌, ℕ, List, length, take, ap, ◌∙◌, arith}
use Rattle.std.proofs.lemmas.List.Sums.{prefix_len-le-length}
use Rattle.std.proofs.lemmas.List.{take_at}
use Rattle.tables.specs.Meaning.{table_of}
use Rattle.tables.specs.Rows.{indexed}
use Rattle.tables.proofs.Bins.{lawful_table}
use Rattle.tables.proofs.Rows.{none_fits, reshown}
use Rattle.tables.proofs.table.LevelTable.index_and_show.Goals as goal

pub returns : goal.returns
returns c =
    let self = c.args.self.now in
    let row = c.args.row.now in
    let index = c.in_ok-written.ensures in
    let fits = none_fits _ (length row) (length c.args.indices.now) _ (prefix_len-le-length _ row) index.0 in
    let part : take c.in_ok-written.written c.index.new.out ≡ indexed (table_of self) row =
    ap (λ (out : List ℕ). take c.in_ok-written.written out) index.2 ∙ take_at (indexed (table_of self) row) _ _ (omega (arith, index.1)) in
    reshown (table_of self) (lawful_table self) row fits.0 c.show.result c.args.indices.now c.index.new.out c.args.greys.now c.show.new.out _
    fits.1 c.if-greys-row.false index.2 part c.show.ensures
