-- The calls and the drawing are those of the report, and so is the text.
use Rattle.std.proofs.Common.{string_bytes, sym, ◌∙◌}
use Rattle.std.proofs.lemmas.Result.{IfOk-weaker}
use Rattle.branch.proofs.Outcomes.{refused_answered, same_levels, drawn_answered}
use Rattle.branch.proofs.reports.answer.Goals as goal

pub invariant_of-lines : goal.invariant_of-lines
invariant_of-lines c =
    record { levels = same_levels c.args.levels c.args.most c.args.row c.reduce-drawn.ensures (c.as_mut_slice.ensures.len ∙ c.in_ok-tallies.ensures.len) (c.as_mut_slice-2.ensures.len ∙ c.in_ok-links.ensures.len) c.in-Ok.receipt (sym c.in-Ok.ensures) }

pub returns-in-Ok : goal.returns-in-Ok
returns-in-Ok c =
    IfOk-weaker c.lines.result _ _
    (λ s lines. drawn_answered c.args.levels c.args.most c.args.row c.reduce-drawn.ensures (c.as_mut_slice.ensures.len ∙ c.in_ok-tallies.ensures.len) (c.as_mut_slice-2.ensures.len ∙ c.in_ok-links.ensures.len) c.in-Ok.receipt (string_bytes s) (sym c.in-Ok.ensures) lines)
    c.lines.ensures

pub returns : goal.returns
returns c =
    IfOk-weaker c.refused_line.result _ _
    (λ s line. refused_answered c.args.levels c.args.most c.args.row c.reduce-drawn.ensures (c.as_mut_slice.ensures.len ∙ c.in_ok-tallies.ensures.len) (c.as_mut_slice-2.ensures.len ∙ c.in_ok-links.ensures.len) c.in-Err.refusal (string_bytes s) (sym c.in-Err.ensures) line)
    c.refused_line.ensures
