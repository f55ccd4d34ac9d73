use Rattle.std.proofs.Common.{◌≡◌, ◌+◌, length, true, false, refl, ap, ◌∙◌, arith}
use Rattle.std.proofs.lemmas.Bool.Decides.{nat_tests}
use Rattle.tablefile.specs.Numbers.{word_at, long_at}
use Rattle.tablefile.specs.Rows.{section_row}
use Rattle.tablefile.specs.Faults.{level_rule}
use Rattle.tablefile.proofs.Faults.{judged_err, cut_row, part_cut, part_broken, part_fine}
use Rattle.tablefile.proofs.Places.{word_taken, long_taken}
use Rattle.tablefile.proofs.body.Body.level_entry.Goals as goal

pub returns-in_err-number : goal.returns-in_err-number
returns-in_err-number c =
    let body = c.args.self.now in
    let cut = c.in_err-number.ensures in
    judged_err (section_row 1) _ _ _ _ c.from_residual.ensures.1 (part_cut body.file.now 1 body.place 6 _ (omega arith) ∙ cut_row 1 body.file.now _ cut.1)

pub returns-in_err-number-2 : goal.returns-in_err-number-2
returns-in_err-number-2 c =
    let body = c.args.self.now in
    let first = c.in_ok-number.ensures in
    let cut = c.in_err-number-2.ensures in
    let same = ap length first.1.0 in
    judged_err (section_row 1) _ _ _ _ c.from_residual-in_err-number-2.ensures.1
    (part_cut body.file.now 1 body.place 6 _ (omega arith) ∙ cut_row 1 body.file.now _ (cut.1 ∙ same))

pub returns-then-not-contains : goal.returns-then-not-contains
returns-then-not-contains c =
    let body = c.args.self.now in
    let file = body.file.now in
    let place = body.place in
    let first = c.in_ok-number.ensures in
    let second = c.in_ok-number-2.ensures in
    let level = c.from_be_bytes-level.ensures ∙ word_taken file place _ _ _ refl refl first.0.0 in
    let pixels = c.from_be_bytes-pixels.ensures ∙ long_taken file (place + 2) _ _ _ first.1.0 first.1.2 second.0.0 in
    let same = ap length first.1.0 in
    let rule : level_rule body.levels c.args.least c.args.before (word_at file place) (long_at file (place + 2)) ≡ false = grind (arith, nat_tests) in
    part_broken file 1 place 6 _ (omega arith) rule

pub returns : goal.returns
returns c =
    let body = c.args.self.now in
    let file = body.file.now in
    let place = body.place in
    let first = c.in_ok-number.ensures in
    let second = c.in_ok-number-2.ensures in
    let level = c.from_be_bytes-level.ensures ∙ word_taken file place _ _ _ refl refl first.0.0 in
    let pixels = c.from_be_bytes-pixels.ensures ∙ long_taken file (place + 2) _ _ _ first.1.0 first.1.2 second.0.0 in
    let same = ap length first.1.0 in
    let rule : level_rule body.levels c.args.least c.args.before (word_at file place) (long_at file (place + 2)) ≡ true = grind (arith, nat_tests) in
    (part_fine file 1 place 6 _ (omega arith) rule, (level, pixels, grind (arith, nat_tests), omega arith, (second.1.0 ∙ first.1.0, second.1.1 ∙ first.1.1, omega arith)))
