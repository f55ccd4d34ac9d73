use Rattle.std.proofs.Common.{◌∙◌, ap, length}
use Rattle.counting.proofs.Rows.{padded_is, length_padded}
use Rattle.counting.proofs.histogram.makes.padded.Goals as goal

pub returns : goal.returns
returns c =
    let is = padded_is c.args.numbers.now in
    rw c.copy_from_slice.ensures.after (ap length is ∙ length_padded c.args.numbers.now c.requires, is)
