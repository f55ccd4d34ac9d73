-- The rows are indexed by the table of the given bounds and representatives.
use Rattle.std.proofs.Common.{rules, subst}
use Rattle.tables.specs.Meaning.{table_of}
use Rattle.tables.specs.Table.{Table, Lawful, bin_of}
use Rattle.tables.specs.Rows.{index_row}
use Rattle.tables.proofs.Bins.{lawful_table}
use Rattle.ffi.specs.Scans.{Written}
use Rattle.ffi.proofs.scans.slip_index.Goals as goal

pub returns : goal.returns
returns c =
    let made = c.in-Some.ensures in
    let table = table_of c.in-Some.table in
    record {
      lawful = λ _. subst (λ (t : Table). Written (bin_of t) (index_row t) c.args.rows c.args.width c.args.scan.now c.args.out.now c.write_rows.new.out c.write_rows.result) made
          (c.write_rows.ensures (bin_of table) (index_row table) (λ row part written left called. search rules));
      lawless = λ no. absurd (no (subst Lawful made (lawful_table c.in-Some.table)));
    }
