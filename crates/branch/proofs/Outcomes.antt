-- The outcome of the calls and the drawing is the report's.
use Rattle.std.proofs.Common.{◌≡◌, ℕ, min, List, [], ◌∷◌, ◌++◌, map, length, Some, None, Ok, Err, Option, Result, sym, ap, ◌∙◌, subst, arith, Bor, MatchOption}
use Rattle.std.proofs.lemmas.List.{length-drop, take_all}
use Rattle.std.proofs.lemmas.Result.{MatchResult-at_ok}
use Rattle.std.specs.Option.{option_map}
use Rattle.counting.specs.Ledger.{Ledger, Asked, opened, counted, after, told}
use Rattle.counting.specs.Meaning.{ledger_of}
use Rattle.counting.specs.Outputs.{Row, Judged}
use Rattle.refusals.specs.Refusals.{refusal_number}
use Rattle.counting.specs.Runs.{Answer, told_of}
use Rattle.counting.specs.declared.histogram.Histogram.{Histogram}
use Rattle.refusals.specs.declared.refusal.Refusal.{Refusal}
use Rattle.counting.specs.declared.run.Call.TheVariants.{Open, Count}
use Rattle.pricing.specs.Kinds.{total_ops}
use Rattle.pricing.specs.Measures.{squared}
use Rattle.pricing.specs.declared.tallies.total.Total.{Total as Sum}
use Rattle.tables.specs.Meaning.{table_of}
use Rattle.tables.specs.declared.table.LevelTable.{LevelTable}
use Rattle.drawing.specs.Drawings.{draw_row, Drew, Reduced}
use Rattle.drawing.specs.declared.receipt.Receipt.{Receipt}
use Rattle.branch.specs.Outcome.{outcome_of}
use Rattle.branch.specs.Report.{bin_lines, figures_line, refused_line, first_refusal, Printed, Answered}

module _ {X : Type 0} (drawn : Result X Refusal) where
  -- a refusal is the first one, where the drawing is refused by the row that fits
  module _ (row : Option Row) (judged : Judged row drawn) where
    pub first_refused : (answers : List Answer) (e : Refusal) → outcome_of answers drawn ≡ Err e → first_refusal (map told_of answers) row ≡ Some (refusal_number e)
    first_refused [] e is = ap (option_map (λ (r : Row). r.0)) (subst (Judged row) is judged)
    first_refused (Ok None ∷ answers) e is = first_refused answers e is
    first_refused (Ok (Some total) ∷ answers) e is = first_refused answers e is
    first_refused (Err refusal ∷ answers) e is = let same : refusal ≡ e = cc in ap (λ (r : Refusal). Some (refusal_number r)) same

    pub none_refused : (answers : List Answer) (x : X) → outcome_of answers drawn ≡ Ok x → (drawn ≡ Ok x) × (first_refusal (map told_of answers) row ≡ None)
    none_refused [] x is = (is, ap (option_map (λ (r : Row). r.0)) (subst (Judged row) is judged))
    none_refused (Ok None ∷ answers) x is = none_refused answers x is
    none_refused (Ok (Some total) ∷ answers) x is = none_refused answers x is
    none_refused (Err refusal ∷ answers) x is = let no : ◌≡◌ {A = ℕ} 0 1 = cc in absurd (omega arith)

-- The calls that the report makes, and the drawing after them.
module _ {P : Type 0} (levels most : ℕ) (row : Bor (List ℕ)) {answers : List Answer} {place : Histogram} {result : Result (Receipt Sum) Refusal}
    {pricer pricer' : P} {tallies tallies' : List Sum} {links links' : List ℕ} {table table' : LevelTable}
    (run : Reduced total_ops (λ (p : P). squared) (Open levels ∷ Count row ∷ []) (Ok None ∷ Ok None ∷ []) answers place most result pricer pricer' tallies tallies' links links' table table')
    (wide : length tallies ≡ 4096) (long : length links ≡ 4096) where
  abbrev calls : List Asked
  calls = opened levels ∷ counted row.now ∷ []

  tells : map told_of answers ≡ told calls
  tells = let few = ap length run.counted.rest in ap (map told_of) (sym (take_all 2 answers (omega (arith, length-drop 2 answers)))) ∙ run.counted.tells

  judged : Judged (draw_row (after calls) most 4096) result
  judged = let cells : min (length tallies) (length links) ≡ 4096 = omega arith in subst (λ n. Judged (draw_row (after calls) most n) result) cells run.drawn.refused_exactly

  pub refused_answered : (e : Refusal) (text : List ℕ) → outcome_of answers result ≡ Err e → text ≡ refused_line (refusal_number e) → Answered calls most text
  refused_answered e text is line =
      let first = first_refused result (draw_row (after calls) most 4096) judged answers e is in
      let told_so = subst (λ ts. first_refusal ts (draw_row (after calls) most 4096) ≡ Some (refusal_number e)) tells first in
      subst (λ o. MatchOption o (Printed (after calls) most text) (λ number. text ≡ refused_line number)) (sym told_so) line

  drew : (receipt : Receipt Sum) → outcome_of answers result ≡ Ok receipt → Drew total_ops squared (after calls) most receipt (table_of table')
  drew receipt is =
      let none = none_refused result (draw_row (after calls) most 4096) judged answers receipt is in
      MatchResult-at_ok (λ r. Drew total_ops squared (after calls) most r (table_of table')) (λ _. Unit {0}) receipt none.0 run.drawn.drew

  -- the table that is drawn has the levels of the histogram
  pub same_levels : (receipt : Receipt Sum) → outcome_of answers result ≡ Ok receipt → (table_of table').levels ≡ (ledger_of place).levels
  same_levels receipt is = (drew receipt is).levels ∙ sym (ap (λ (g : Ledger). g.levels) run.counted.ledger)

  pub drawn_answered : (receipt : Receipt Sum) (text : List ℕ) → outcome_of answers result ≡ Ok receipt → text ≡ bin_lines (ledger_of place) (table_of table') ++ figures_line receipt → Answered calls most text
  drawn_answered receipt text is lines =
      let none = none_refused result (draw_row (after calls) most 4096) judged answers receipt is in
      let told_so = subst (λ ts. first_refusal ts (draw_row (after calls) most 4096) ≡ None) tells none.1 in
      let printed : Printed (after calls) most text = record {
        receipt = receipt;
        table = table_of table';
        drew = drew receipt is;
        lines = lines ∙ ap (λ g. bin_lines g (table_of table') ++ figures_line receipt) run.counted.ledger;
      } in
      subst (λ o. MatchOption o (Printed (after calls) most text) (λ number. text ≡ refused_line number)) (sym told_so) printed
