-- How a run of calls and then a drawing went: the refusal of the first call that was refused, or else what the drawing returned.
use Rattle.std.specs.Prelude.{List, [], ◌∷◌, Ok, Err, Result}
use Rattle.refusals.specs.declared.refusal.Refusal.{Refusal}
use Rattle.counting.specs.Runs.{Answer}

abbrev pub outcome_of : {X : Type 0} → List Answer → Result X Refusal → Result X Refusal
outcome_of [] drawn = drawn
outcome_of (Ok total ∷ answers) drawn = outcome_of answers drawn
outcome_of (Err refusal ∷ answers) drawn = Err refusal
