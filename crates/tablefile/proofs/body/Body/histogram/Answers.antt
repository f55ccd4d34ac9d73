use Rattle.std.proofs.Common.{ℕ, List, take, sym, ◌∙◌, subst, ap₂}
use Rattle.counting.specs.Sound.{Sound, of_pixels}
use Rattle.tablefile.specs.Fields.{counted_in}
use Rattle.tablefile.proofs.Faults.{levels_none}
use Rattle.tablefile.proofs.Entries.{made_lawful}
use Rattle.tablefile.proofs.There.{given_there}
use Rattle.tablefile.proofs.body.Body.histogram.Goals as goal

pub unwrap-requires : goal.unwrap-requires
unwrap-requires c =
    let body = c.args.self.now in
    let file = body.file.now in
    let read = c.in_ok-pixels.ensures in
    let lawful = made_lawful file body.levels (counted_in file) (levels_none file body.levels read.0).2 body.range in
    let front = ap₂ (λ (k : ℕ) (ps : List ℕ). of_pixels (take k ps)) (c.from.ensures ∙ read.1.1.1) read.1.0 in
    given_there _ _ _ c.of.ensures (subst Sound (sym front) lawful)
