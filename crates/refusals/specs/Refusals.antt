-- The refusal table: the number of each refusal, and the values that it carries along, in the table's order.
use Rattle.std.specs.Prelude.{ℕ, List, [], ◌∷◌}
use Rattle.refusals.specs.declared.refusal.Refusal.{Refusal}
use Rattle.refusals.specs.declared.refusal.Refusal.TheVariants.{LevelsOutOfRange, NotALevel, TotalTooLarge, LevelBelowZero, BinsOutOfRange, NoPixels, WorkTooShort, LevelsDiffer, NotABin, OutputTooShort, WeightsOutOfRange, UnknownEdition, EndsEarly, RuleBroken, BytesLeftOver}

abbrev pub refusal_number : Refusal → ℕ
refusal_number (LevelsOutOfRange levels) = 1
refusal_number (NotALevel place) = 2
refusal_number (TotalTooLarge total) = 3
refusal_number (LevelBelowZero level) = 4
refusal_number (BinsOutOfRange most) = 5
refusal_number NoPixels = 6
refusal_number (WorkTooShort needed) = 7
refusal_number (LevelsDiffer histogram table) = 8
refusal_number (NotABin place) = 9
refusal_number (OutputTooShort needed) = 10
refusal_number (WeightsOutOfRange count) = 11
refusal_number (UnknownEdition edition) = 12
refusal_number (EndsEarly section count) = 13
refusal_number (RuleBroken section place) = 14
refusal_number (BytesLeftOver place) = 15

abbrev pub carried : Refusal → List ℕ
carried (LevelsOutOfRange levels) = levels ∷ []
carried (NotALevel place) = place ∷ []
carried (TotalTooLarge total) = total ∷ []
carried (LevelBelowZero level) = level ∷ []
carried (BinsOutOfRange most) = most ∷ []
carried NoPixels = []
carried (WorkTooShort needed) = needed ∷ []
carried (LevelsDiffer histogram table) = histogram ∷ table ∷ []
carried (NotABin place) = place ∷ []
carried (OutputTooShort needed) = needed ∷ []
carried (WeightsOutOfRange count) = count ∷ []
carried (UnknownEdition edition) = edition ∷ []
carried (EndsEarly section count) = section ∷ count ∷ []
carried (RuleBroken section place) = section ∷ place ∷ []
carried (BytesLeftOver place) = place ∷ []
