use Rattle.std.proofs.Common.{sym, ◌∙◌, subst, ap₂}
use Rattle.tables.specs.Table.{Lawful}
use Rattle.tables.specs.Bins.{table_in}
use Rattle.tablefile.proofs.Faults.{bins_none}
use Rattle.tablefile.proofs.Bins.{table_lawful}
use Rattle.tablefile.proofs.There.{given_there}
use Rattle.tablefile.proofs.body.Body.table.Goals as goal

pub unwrap-requires : goal.unwrap-requires
unwrap-requires c =
    let body = c.args.self.now in
    let read = c.in_ok-bins.ensures in
    let fine = bins_none body.file.now body.levels body.place read.0 in
    let lawful = table_lawful body.file.now body.levels body.place fine.4 body.range fine.1 fine.2 in
    let made = ap₂ table_in read.1.1.1 c.deref.ensures.0 in
    given_there _ _ _ c.of_bins.ensures (subst Lawful (sym (made ∙ read.1.0)) lawful)
