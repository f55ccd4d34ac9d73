-- A run of calls as the code has it: what each call asks for, what each answer tells, and what a run leaves.
use Rattle.std.specs.Prelude.{◌≡◌, ℕ, min, List, map, length, take, drop, Some, None, Option, Ok, Err, Result, IfErr}
use Rattle.counting.specs.Ledger.{Asked, opened, counted, withdrawn, cleared, Told, done, now_total, refused, step, after, told}
use Rattle.refusals.specs.Refusals.{refusal_number, carried}
use Rattle.counting.specs.Meaning.{ledger_of}
use Rattle.counting.specs.Sound.{Sound}
use Rattle.counting.specs.declared.histogram.Histogram.{Histogram}
use Rattle.refusals.specs.declared.refusal.Refusal.{Refusal}
use Rattle.counting.specs.declared.run.Call.{Call}
use Rattle.counting.specs.declared.run.Call.TheVariants.{Open, Count, Withdraw, Clear}

abbrev pub asked : Call → Asked
asked (Open levels) = opened levels
asked (Count row) = counted row.now
asked (Withdraw row) = withdrawn row.now
asked Clear = cleared

-- what a call answers: the new total where it gives one, or why it is refused
abbrev pub Answer : Type 0
Answer = Result (Option ℕ) Refusal

abbrev pub told_of : Answer → Told
told_of (Ok None) = done
told_of (Ok (Some total)) = now_total total
told_of (Err refusal) = refused (refusal_number refusal) (carried refusal)

-- one call: the histogram and the answer are the ledger's, and a refused call leaves the histogram as it was
pub record Performed (before : Histogram) (call : Call) (answer : Answer) (then : Histogram) : Type 0 where
  pub ledger : ledger_of then ≡ (step (ledger_of before) (asked call)).0
  pub tells : told_of answer ≡ (step (ledger_of before) (asked call)).1
  pub unaltered : IfErr answer (λ _. then ≡ before)

-- as many calls as the list for their answers has room for
abbrev pub performed : List Call → List Answer → List Asked
performed calls answers = map asked (take (min (length calls) (length answers)) calls)

-- A run from a fresh place: every answer, and the histogram at the end, are those of the ledger that was fed the calls' arguments.
-- The answers past the last call are as they were, and that ledger is a sound one.
pub record Replayed (calls : List Call) (before : List Answer) (answers : List Answer) (place : Histogram) : Type 0 where
  pub tells : map told_of (take (min (length calls) (length before)) answers) ≡ told (performed calls before)
  pub rest : drop (min (length calls) (length before)) answers ≡ drop (min (length calls) (length before)) before
  pub ledger : ledger_of place ≡ after (performed calls before)
  pub sound : Sound (after (performed calls before))
