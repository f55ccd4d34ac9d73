use Rattle.std.proofs.Common.{◌≡◌, ℕ, min, sym, ◌∙◌, ap₂, arith}
use Rattle.divisions.specs.Figures.{priced_figure}
use Rattle.divisions.proofs.ClosedForms.{priced_counts}
use Rattle.divisions.proofs.figures.priced.Goals as goal

pub returns : goal.returns
returns c =
    let b : c.from-b.result ≡ min c.args.most c.args.counted = omega arith in
    let f = ap₂ (λ (x y : ℕ). priced_figure x y) c.from-c.ensures b in
    record { counts = f ∙ sym (priced_counts c.args.counted (min c.args.most c.args.counted) (omega arith)); formula = f }
