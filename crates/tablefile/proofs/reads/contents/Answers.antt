use Rattle.std.proofs.Common.{◌≡◌, None, Some, sym, ap, ◌∙◌, ap₂}
use Rattle.counting.specs.Ledger.{Ledger}
use Rattle.tables.specs.Table.{Table}
use Rattle.tables.specs.Meaning.{table_of}
use Rattle.tablefile.specs.Rows.{file_row}
use Rattle.tablefile.specs.Bytes.{bytes_of}
use Rattle.tablefile.specs.Fields.{levels_in, bins_place}
use Rattle.tablefile.specs.Faults.{levels_fault, bins_fault, first_fault}
use Rattle.tablefile.specs.Parts.{ledger_in, table_in}
use Rattle.tablefile.proofs.Faults.{judged_err, judged_same, head_stops, levels_stop, bins_stop, rest_left}
use Rattle.tablefile.proofs.Faultless.{faultless, file_bytes}
use Rattle.tablefile.proofs.reads.contents.Goals as goal

pub returns-in_err-body : goal.returns-in_err-body
returns-in_err-body c = judged_err file_row _ _ _ _ c.from_residual.ensures.1 (head_stops c.args.file.now _ c.in_err-body.ensures)

pub returns-in_err-histogram : goal.returns-in_err-histogram
returns-in_err-histogram c =
    let head = c.in_ok-body.ensures in
    let same = ap₂ levels_fault head.1.0 head.1.1 in
    judged_err file_row _ _ _ _ c.from_residual-in_err-histogram.ensures.1 (levels_stop c.args.file.now head.0 _ (sym same ∙ c.in_err-histogram.ensures))

pub returns-in_err-table : goal.returns-in_err-table
returns-in_err-table c =
    let file = c.args.file.now in
    let head = c.in_ok-body.ensures in
    let first = c.in_ok-histogram.ensures in
    let levels = sym (ap₂ levels_fault head.1.0 head.1.1) ∙ first.0 in
    let fault = c.in_err-table.ensures in
    let bins : bins_fault file (levels_in file) (bins_place file) ≡ Some _ = cc in
    judged_err file_row _ _ _ _ c.from_residual-in_err-table.ensures.1 (bins_stop file head.0 levels _ bins)

pub returns-in_err-end : goal.returns-in_err-end
returns-in_err-end c =
    let file = c.args.file.now in
    let head = c.in_ok-body.ensures in
    let first = c.in_ok-histogram.ensures in
    let second = c.in_ok-table.ensures in
    let levels = sym (ap₂ levels_fault head.1.0 head.1.1) ∙ first.0 in
    let bins : bins_fault file (levels_in file) (bins_place file) ≡ None = cc in
    let fault = c.in_err-end.ensures in
    let rest = rest_left file head.0 levels bins in
    judged_same file_row _ _ _ _ c.from_residual-in_err-end.ensures.1 (cc)

pub returns : goal.returns
returns c =
    let file = c.args.file.now in
    let head = c.in_ok-body.ensures in
    let first = c.in_ok-histogram.ensures in
    let second = c.in_ok-table.ensures in
    let levels = sym (ap₂ levels_fault head.1.0 head.1.1) ∙ first.0 in
    let bins : bins_fault file (levels_in file) (bins_place file) ≡ None = cc in
    let end = c.in_ok-end.ensures in
    let rest = rest_left file head.0 levels bins in
    let none : first_fault file ≡ None = cc in
    let ledger = first.1.0 ∙ ap₂ ledger_in head.1.0 head.1.1 in
    let listed = second.1.0 in
    let table : table_of c.in_ok-table.table ≡ table_in file (levels_in file) (bins_place file) = cc in (
      none,
      (
        ap₂ bytes_of ledger table ∙ file_bytes file (λ k. (c.type_inv.file k).fits) (faultless file none),
        ap (λ (g : Ledger). g.levels) ledger ∙ sym (ap (λ (t : Table). t.levels) table),
      ),
    )
