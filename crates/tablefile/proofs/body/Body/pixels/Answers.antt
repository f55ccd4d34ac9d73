use Rattle.std.proofs.Common.{◌≡◌, ℕ, [], ◌∷◌, Some, refl, sym, ap, ◌∙◌, subst, arith}
use Rattle.tablefile.specs.Rows.{section_row}
use Rattle.tablefile.specs.Fields.{counted_in}
use Rattle.tablefile.specs.Faults.{level_fault}
use Rattle.tablefile.proofs.Faults.{judged_err, judged_same, cut_row, levels_cut, levels_many, levels_entries, first_of_stops}
use Rattle.tablefile.proofs.Entries.{LevelsUpto, no_levels, level_next, levels_more}
use Rattle.tablefile.specs.Parts.{pixels_upto}
use Rattle.tablefile.proofs.Places.{word_taken}
use Rattle.tablefile.proofs.body.Body.pixels.Goals as goal

pub returns-in_err-number : goal.returns-in_err-number
returns-in_err-number c =
    let body = c.args.self.now in
    let cut = c.in_err-number.ensures in
    judged_err (section_row 1) _ _ _ _ c.from_residual.ensures.1 (levels_cut body.file.now body.levels (omega arith) ∙ cut_row 1 body.file.now _ cut.1)

pub returns-then-counted-self : goal.returns-then-counted-self
returns-then-counted-self c =
    let body = c.args.self.now in
    let first = c.in_ok-number.ensures in
    let counted = c.from_be_bytes-counted.ensures ∙ word_taken body.file.now 3 _ _ _ refl c.requires first.0.0 in
    levels_many body.file.now body.levels (omega arith) (omega arith) ∙ ap (λ (p : ℕ). Some (14, 1 ∷ p ∷ [])) (sym c.requires)

pub loop-init : goal.loop-init
unfolding pixels_upto
loop-init c =
    let on = c.in_ok-number.ensures.1 in
    no_levels _ _ _ _ refl refl on.0 on.1 (omega arith)

pub returns-in_err-entry : goal.returns-in_err-entry
returns-in_err-entry c =
    let body = c.args.self.now in
    let file = body.file.now in
    let levels = body.levels in
    let first = c.in_ok-number.ensures in
    let counted = c.from_be_bytes-counted.ensures ∙ word_taken file 3 _ _ _ refl c.requires first.0.0 in
    let u = c.loop.invariant in
    let next = level_next file levels _ _ _ _ _ u in
    judged_same (section_row 1) _ _ _ _ c.from_residual-in_err-entry.ensures.1
    (levels_entries file levels (omega arith) (omega arith) ∙ first_of_stops (level_fault file levels) c.loop.counter (counted_in file) _ (omega arith) u.fine (sym next ∙ c.in_err-entry.ensures))

pub loop-preserved : goal.loop-preserved
loop-preserved c =
    let body = c.args.self.now in
    let read = c.in_ok-entry.ensures in
    let next = level_next body.file.now body.levels _ _ _ _ c.loop.self c.loop.invariant in
    rw c.from.ensures (levels_more body.file.now body.levels _ _ _ _ c.loop.self c.loop.invariant c.level_entry.new.self _ _ (sym next ∙ read.0) read.1.0 read.1.1 read.1.4)

pub returns : goal.returns
returns c =
    let body = c.args.self.now in
    let file = body.file.now in
    let levels = body.levels in
    let first = c.in_ok-number.ensures in
    let counted = c.from_be_bytes-counted.ensures ∙ word_taken file 3 _ _ _ refl c.requires first.0.0 in
    let end : c.loop.counter ≡ counted_in file = omega arith in
    let done = subst (λ (n : ℕ). LevelsUpto file levels c.loop.pixels c.loop.least c.loop.total n c.loop.self) end c.loop.invariant in
    (levels_entries file levels (omega arith) (omega arith) ∙ done.fine, (done.so_far, (done.file_is, done.levels_are, done.reach)))
