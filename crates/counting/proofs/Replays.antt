-- One more call of a run: what the ledger makes of it, and what a list of answers then holds.
use Rattle.std.proofs.Common.{◌≡◌, ℕ, ◌+◌, ◌<◌, List, [], ◌∷◌, ◌++◌, map, length, get_or, take, drop, set, sym, refl, ap, ◌∙◌, ap₂, arith}
use Rattle.std.proofs.lemmas.List.{take_more, take_more_set, drop-drop, drop-set-lt, map_push}
use Rattle.counting.specs.Ledger.{Ledger, Asked, Told, step, after_from, told_from, after, told}
use Rattle.counting.specs.Meaning.{ledger_of}
use Rattle.counting.specs.Runs.{Answer, asked, told_of, Performed}
use Rattle.counting.specs.declared.histogram.Histogram.{Histogram}
use Rattle.counting.specs.declared.run.Call.{Call}

after_push : (g : Ledger) (run : List Asked) (a : Asked) → after_from g (run ++ a ∷ []) ≡ (step (after_from g run) a).0
after_push g [] a = refl
after_push g (x ∷ run) a = after_push (step g x).0 run a

told_push : (g : Ledger) (run : List Asked) (a : Asked) → told_from g (run ++ a ∷ []) ≡ told_from g run ++ ((step (after_from g run) a).1 ∷ [])
told_push g [] a = refl
told_push g (x ∷ run) a = ap (λ (ts : List Told). (step g x).1 ∷ ts) (told_push (step g x).0 run a)

-- how far a run has come: i calls are made
pub record Upto (calls : List Call) (before answers : List Answer) (place : Histogram) (i : ℕ) : Type 0 where
  pub ledger : ledger_of place ≡ after (map asked (take i calls))
  pub tells : map told_of (take i answers) ≡ told (map asked (take i calls))
  pub rest : drop i answers ≡ drop i before

pub upto_more : (calls : List Call) (before answers : List Answer) (place then : Histogram) (i : ℕ) (d : Call) (answer : Answer) →
    i < length calls → i < length answers →
    Upto calls before answers place i → Performed place (get_or calls i d) answer then → Upto calls before (set answers i answer) then (i + 1)
upto_more calls before answers place then i d answer within room u p =
    let call = get_or calls i d in
    let calls_more : take (i + 1) calls ≡ take i calls ++ call ∷ [] = take_more calls i d within in
    let run_more : map asked (take (i + 1) calls) ≡ map asked (take i calls) ++ asked call ∷ [] = ap (map asked) calls_more ∙ map_push asked (take i calls) call in
    let here = u.ledger in
    record {
      ledger = p.ledger ∙ ap (λ (g : Ledger). (step g (asked call)).0) here ∙ sym (after_push _ (map asked (take i calls)) (asked call)) ∙ sym (ap after run_more);
      tells = ap (map told_of) (take_more_set answers i answer room) ∙ map_push told_of (take i answers) answer
          ∙ ap₂ (λ (ts : List Told) (t : Told). ts ++ t ∷ []) u.tells (p.tells ∙ ap (λ (g : Ledger). (step g (asked call)).1) here)
          ∙ sym (told_push _ (map asked (take i calls)) (asked call)) ∙ sym (ap told run_more);
      rest = drop-set-lt (i + 1) answers i answer (omega arith) ∙ sym (drop-drop 1 i answers) ∙ ap (drop 1) u.rest ∙ drop-drop 1 i before;
    }
