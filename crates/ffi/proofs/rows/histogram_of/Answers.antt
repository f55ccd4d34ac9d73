-- One row more is counted, and those that are not gone over have no pixels.
use Rattle.std.proofs.Common.{◌≡◌, ℕ, ◌+◌, ◌*◌, min, length, [], ◌∷◌, ◌++◌, drop, sym, ap, ◌∙◌, inl, inr, arith}
use Rattle.std.proofs.lemmas.Bool.{cases_lt}
use Rattle.std.proofs.lemmas.List.{length_push}
use Rattle.std.specs.Slice.Iter.{chunks_rest}
use Rattle.std.specs.Iterator.Adapters.{take_source, take_count}
use Rattle.counting.specs.Ledger.{Ledger, opened, step}
use Rattle.counting.specs.Meaning.{ledger_of}
use Rattle.ffi.specs.Scans.{scanned}
use Rattle.ffi.proofs.Counting.{scanned_more, empty_rows, no_width, past_end, this_row, ahead_more}
use Rattle.ffi.proofs.rows.histogram_of.Goals as goal

pub loop-row-preserved : goal.loop-row-preserved
loop-row-preserved c =
    let width = c.args.scan.width in
    let cells = c.args.scan.cells.now in
    let i = length c.loop-row.yielded in
    let before = c.loop-row.invariant in
    let steps = c.in-Some.ensures.steps in
    let one_more : i + 1 ≡ length (c.loop-row.yielded ++ c.in-Some.row ∷ []) = sym (length_push c.loop-row.yielded c.in-Some.row) in
    let rest = chunks_rest (take_source c.loop-row.row-iterator) in
    let then = chunks_rest (take_source c.next.new.self) in
    let long : length c.in-Some.row.now ≡ min width (length rest) = steps.0.1.1 ∙ ap (λ (w : ℕ). min w (length rest)) before.size in
    let row = this_row width i cells c.in-Some.row.now rest then before.ahead steps.0.1.0 long in
    record {
      counted = scanned_more c.args.levels i width cells _ (ledger_of c.loop-row.histogram) (ledger_of c.count.new.self) row before.counted c.count.ensures.ledger
          ∙ ap (λ (n : ℕ). scanned c.args.levels n width cells) one_more;
      ahead = ahead_more width i cells c.in-Some.row.now rest then before.ahead steps.0.1.0 long ∙ ap (λ (n : ℕ). drop (n * width) cells) one_more;
      size = steps.0.0 ∙ before.size;
      left = omega (arith, one_more, steps.1, before.left);
    }

pub returns-in-None : goal.returns-in-None
returns-in-None c =
    let width = c.args.scan.width in
    let cells = c.args.scan.cells.now in
    let i = length c.loop-row.yielded in
    let before = c.loop-row.invariant in
    elim (cases_lt 0 (take_count c.loop-row.row-iterator)) [
      | inl some ↦
          let over : length (chunks_rest (take_source c.loop-row.row-iterator)) ≡ 0 = (c.in-None.ensures.steps some).1.0 in
          let none = past_end width i cells (sym (ap length before.ahead) ∙ over) in
          empty_rows c.args.levels i c.args.scan.rows width cells c.loop-row.histogram (omega (arith, before.left)) before.counted none
      | inr done ↦ (let all : i ≡ c.args.scan.rows = omega (arith, before.left) in before.counted ∙ ap (λ (n : ℕ). scanned c.args.levels n width cells) all)
    ]

pub returns-else-scan-gt0 : goal.returns-else-scan-gt0
returns-else-scan-gt0 c =
    let opens = c.open.ensures.ledger ∙ ap (λ (g : Ledger). (step g (opened c.args.levels)).0) c.fresh-histogram.ensures in
    empty_rows c.args.levels 0 c.args.scan.rows c.args.scan.width c.args.scan.cells.now c.open.new.self (omega arith) opens
    (λ j. no_width c.args.scan.width c.args.scan.cells.now (omega (arith, c.if-scan-gt0.false)) (0 + j))
