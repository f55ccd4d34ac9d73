use Rattle.std.proofs.Common.{◌≡◌, ℕ, min, sym, ◌∙◌, ap₂, arith}
use Rattle.divisions.specs.Figures.{path_steps}
use Rattle.divisions.proofs.ClosedForms.{compared_small, compared_large, compared_counts}
use Rattle.divisions.proofs.figures.compared.Goals as goal

pub returns-then-b-lt2 : goal.returns-then-b-lt2
returns-then-b-lt2 c =
    let b : c.from-b.result ≡ min c.args.most c.args.counted = omega arith in
    let e = sym (compared_small c.from-c.result c.from-b.result (omega arith) (omega arith)) ∙ ap₂ (λ (x y : ℕ). path_steps x y) c.from-c.ensures b in
    record { counts = e; formula = λ h. e ∙ compared_counts c.args.counted (min c.args.most c.args.counted) h (omega arith) }

pub returns : goal.returns
returns c =
    let b : c.from-b.result ≡ min c.args.most c.args.counted = omega arith in
    let e = sym (compared_large c.from-c.result c.from-b.result (omega arith) (omega arith)) ∙ ap₂ (λ (x y : ℕ). path_steps x y) c.from-c.ensures b in
    record { counts = e; formula = λ h. e ∙ compared_counts c.args.counted (min c.args.most c.args.counted) h (omega arith) }
