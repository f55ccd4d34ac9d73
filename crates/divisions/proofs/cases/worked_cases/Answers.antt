use Rattle.std.proofs.Common.{refl}
use Rattle.divisions.proofs.Worked.{one, two, three, four, many, worst, ties, distances, allowance, weights, ceiling, pair}
use Rattle.divisions.proofs.cases.worked_cases.Goals as goal

pub returns : goal.returns
returns c = record {
  one = one;
  two = two;
  three = three;
  figures = (refl, refl);
  four = four;
  many = many;
  worst = worst;
  ties = ties;
  distances = distances;
  allowance = allowance;
  weights = weights;
  ceiling = ceiling;
  pair = pair;
}
