use Rattle.std.proofs.Common.{◌≡◌, ℕ, refl, sym, ◌∙◌, subst, arith, lit<}
use Rattle.std.proofs.lemmas.Bool.Decides.{nat_tests}
use Rattle.tablefile.specs.Rows.{section_row}
use Rattle.tablefile.specs.Fields.{bins_in}
use Rattle.tablefile.specs.Faults.{bin_fault}
use Rattle.tablefile.proofs.Faults.{judged_err, judged_same, cut_row, bins_cut, bins_many, bins_entries, first_of_stops}
use Rattle.tablefile.proofs.Bins.{BinsUpto, bins_long, no_bins, bin_next, bins_more, bins_listed}
use Rattle.tablefile.proofs.Places.{word_taken}
use Rattle.tablefile.proofs.body.Body.bins.Goals as goal

pub returns-in_err-number : goal.returns-in_err-number
returns-in_err-number c =
    let body = c.args.self.now in
    let cut = c.in_err-number.ensures in
    judged_err (section_row 2) _ _ _ _ c.from_residual.ensures.1 (bins_cut body.file.now body.levels body.place cut.0 ∙ cut_row 2 body.file.now _ cut.1)

pub returns-then-not-contains : goal.returns-then-not-contains
returns-then-not-contains c =
    let body = c.args.self.now in
    let first = c.in_ok-number.ensures in
    let count = c.from_be_bytes-count.ensures ∙ word_taken body.file.now body.place _ _ _ refl refl first.0.0 in
    bins_many body.file.now body.levels body.place first.0.1 (grind (arith, nat_tests))

pub loop-i-init : goal.loop-i-init
loop-i-init c =
    let body = c.args.self.now in
    let on = c.in_ok-number.ensures.1 in
    no_bins body.file.now body.levels body.place _ _ c.new-bins.ensures on.0 on.1 on.2

pub returns-in_err-bin : goal.returns-in_err-bin
returns-in_err-bin c =
    let body = c.args.self.now in
    let file = body.file.now in
    let levels = body.levels in
    let place = body.place in
    let first = c.in_ok-number.ensures in
    let count = c.from_be_bytes-count.ensures ∙ word_taken file place _ _ _ refl refl first.0.0 in
    let i = c.loop-i.i in
    let u = c.loop-i.invariant in
    let next = bin_next file levels place _ c.loop-i.least i c.loop-i.self u _ count in
    judged_same (section_row 2) _ _ _ _ c.from_residual-in_err-bin.ensures.1
    (bins_entries file levels place first.0.1 (grind (arith, nat_tests)) ∙ first_of_stops (bin_fault file levels place) i (bins_in file place) _ (omega arith) u.fine (sym next ∙ c.in_err-bin.ensures))

pub push-requires : goal.push-requires
push-requires c =
    let body = c.args.self.now in
    let many = bins_long body.file.now body.levels body.place _ _ _ _ c.loop-i.invariant in
    (lit< tt, grind (arith, nat_tests))

pub loop-i-preserved : goal.loop-i-preserved
loop-i-preserved c =
    let body = c.args.self.now in
    let file = body.file.now in
    let levels = body.levels in
    let place = body.place in
    let first = c.in_ok-number.ensures in
    let count = c.from_be_bytes-count.ensures ∙ word_taken file place _ _ _ refl refl first.0.0 in
    let u = c.loop-i.invariant in
    let read = c.in_ok-bin.ensures in
    let next = bin_next file levels place _ c.loop-i.least c.loop-i.i c.loop-i.self u _ count in
    rw c.push.ensures.items (bins_more file levels place _ c.loop-i.least c.loop-i.i c.loop-i.self u _ c.in_ok-bin.bin (sym next ∙ read.0) read.1)

pub returns : goal.returns
returns c =
    let body = c.args.self.now in
    let file = body.file.now in
    let levels = body.levels in
    let place = body.place in
    let first = c.in_ok-number.ensures in
    let count = c.from_be_bytes-count.ensures ∙ word_taken file place _ _ _ refl refl first.0.0 in
    let end : c.loop-i.i ≡ bins_in file place = omega arith in
    let done = subst (λ (n : ℕ). BinsUpto file levels place c.loop-i.bins.items c.loop-i.least n c.loop-i.self) end c.loop-i.invariant in (
      bins_entries file levels place first.0.1 (grind (arith, nat_tests)) ∙ done.fine,
      (bins_listed file levels place _ done.so_far, (done.file_is, done.levels_are, done.reach)),
    )
