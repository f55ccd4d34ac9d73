use Rattle.std.proofs.Common.{◌≡◌, true, false, ◌&&◌, leb, [], ◌∷◌, Some, None, refl, sym, ap, ◌∙◌, arith}
use Rattle.std.proofs.lemmas.Bool.Decides.{nat_tests}
use Rattle.tablefile.specs.Rows.{head_row}
use Rattle.tablefile.specs.Fields.{levels_in}
use Rattle.tablefile.specs.Faults.{head_fault, edition_fault}
use Rattle.tablefile.proofs.Faults.{judged_err, cut_row, first_is, first_then, edition_cut, edition_other, edition_fine, part_cut, part_broken, part_fine}
use Rattle.tablefile.proofs.Places.{byte_taken, word_taken}
use Rattle.tablefile.proofs.body.Body.after_head.Goals as goal

pub returns-in_err-edition : goal.returns-in_err-edition
returns-in_err-edition c =
    let file = c.args.file.now in
    let cut = c.in_err-edition.ensures in
    judged_err head_row (head_fault file) _ _ _ c.from_residual.ensures.1 (first_is _ _ _ (edition_cut file cut.0) ∙ cut_row 0 file _ cut.1)

pub returns-then-edition-ne-EDITION : goal.returns-then-edition-ne-EDITION
returns-then-edition-ne-EDITION c =
    let file = c.args.file.now in
    let read = c.in_ok-edition.ensures in
    let byte = byte_taken file 0 _ _ _ refl refl 1 0 read.0 (omega arith) in
    first_is _ _ _ (edition_other file read.1 (λ e. c.if-edition-ne-EDITION.true (byte ∙ e))) ∙ ap (λ e. Some (12, e ∷ [])) (sym byte)

pub returns-in_err-number : goal.returns-in_err-number
returns-in_err-number c =
    let file = c.args.file.now in
    let read = c.in_ok-edition.ensures in
    let cut = c.in_err-number.ensures in
    let byte = byte_taken file 0 _ _ _ refl refl 1 0 read.0 (omega arith) in
    let five : edition_fault file ≡ None = edition_fine file read.1 (sym byte ∙ c.if-edition-ne-EDITION.false) in
    judged_err head_row (head_fault file) _ _ _ c.from_residual-in_err-number.ensures.1 (first_then _ _ five ∙ part_cut file 0 1 2 _ cut.0 ∙ cut_row 0 file _ cut.1)

pub returns-then-not-contains : goal.returns-then-not-contains
returns-then-not-contains c =
    let file = c.args.file.now in
    let read = c.in_ok-edition.ensures in
    let more = c.in_ok-number.ensures in
    let byte = byte_taken file 0 _ _ _ refl refl 1 0 read.0 (omega arith) in
    let levels = c.from_be_bytes-levels.ensures ∙ word_taken file 1 _ _ _ refl refl more.0 in
    let five : edition_fault file ≡ None = edition_fine file read.1 (sym byte ∙ c.if-edition-ne-EDITION.false) in
    let rule : (leb 2 (levels_in file) && leb (levels_in file) 1024) ≡ false = grind (arith, nat_tests) in
    first_then _ _ five ∙ part_broken file 0 1 2 _ more.1 rule

pub returns : goal.returns
returns c =
    let file = c.args.file.now in
    let read = c.in_ok-edition.ensures in
    let more = c.in_ok-number.ensures in
    let byte = byte_taken file 0 _ _ _ refl refl 1 0 read.0 (omega arith) in
    let levels = c.from_be_bytes-levels.ensures ∙ word_taken file 1 _ _ _ refl refl more.0 in
    let five : edition_fault file ≡ None = edition_fine file read.1 (sym byte ∙ c.if-edition-ne-EDITION.false) in
    let rule : (leb 2 (levels_in file) && leb (levels_in file) 1024) ≡ true = grind (arith, nat_tests) in
    (first_then _ _ five ∙ part_fine file 0 1 2 _ more.1 rule, (refl, levels, refl))
