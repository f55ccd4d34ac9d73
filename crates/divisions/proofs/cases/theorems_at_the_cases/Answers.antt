use Rattle.std.proofs.Common.{[], ◌∷◌}
use Rattle.pricing.specs.ErrorLaws.{squared_fair}
use Rattle.pricing.specs.KindLaws.{total_laws}
use Rattle.pricing.specs.LayerLaws.{weighed_fair, allowed_fair, capped_fair}
use Rattle.pricing.specs.Measures.{squared}
use Rattle.divisions.proofs.Applied.{answered, cheapest, only, more, enough, unbeaten, scattered, charged, summed, standing, step}
use Rattle.divisions.proofs.Models.{worst_laws, four_sound}
use Rattle.divisions.proofs.cases.theorems_at_the_cases.Goals as goal

pub returns : goal.returns
returns c = record {
  models = (total_laws, worst_laws, squared_fair, four_sound);
  layers = (allowed_fair 4 squared squared_fair, weighed_fair (1 ∷ 1 ∷ 1 ∷ 1 ∷ 1 ∷ 1 ∷ 1 ∷ 0 ∷ []) squared squared_fair, capped_fair 9 squared squared_fair);
  answered = answered;
  cheapest = cheapest;
  only = only;
  more = more;
  enough = enough;
  unbeaten = unbeaten;
  scattered = scattered;
  charged = charged;
  summed = summed;
  stands = standing;
  step = step;
}
