-- What the types of the code mean: the ledger of a histogram, what a call asks for and what an answer tells.
use Rattle.std.specs.Prelude.{◌≡◌, ℕ, take, IfErr, Ok, Err, Result}
use Rattle.counting.specs.Ledger.{Ledger, Asked, Told, done, now_total, refused, step}
use Rattle.refusals.specs.Refusals.{refusal_number, carried}
use Rattle.refusals.specs.declared.refusal.Refusal.{Refusal}
use Rattle.counting.specs.declared.histogram.Histogram.{Histogram}

abbrev pub ledger_of : Histogram → Ledger
ledger_of h = record { levels = h.levels; at = take h.levels h.pixels }

-- what a call that is not refused tells: nothing, or the total that it returns
abbrev pub nothing : {X : Type 0} → X → Told
nothing x = done

abbrev pub a_total : ℕ → Told
a_total n = now_total n

-- what a result tells, where `accepted` says what an accepted call tells
abbrev pub told_by : {X : Type 0} → (X → Told) → Result X Refusal → Told
told_by accepted (Ok x) = accepted x
told_by accepted (Err e) = refused (refusal_number e) (carried e)

-- What a call makes of a histogram and what it tells are the ledger's; a refusal alters nothing at all.
pub record Goes {X : Type 0} (before : Histogram) (call : Asked) (accepted : X → Told) (r : Result X Refusal) (then : Histogram) : Type 0 where
  pub ledger : ledger_of then ≡ (step (ledger_of before) call).0
  pub answer : told_by accepted r ≡ (step (ledger_of before) call).1
  pub unaltered : IfErr r (λ _. then ≡ before)
