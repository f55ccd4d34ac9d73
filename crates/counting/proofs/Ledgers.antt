-- The ledger of every histogram keeps the rules of a ledger.
use Rattle.std.proofs.Common.{arith}
use Rattle.std.proofs.lemmas.List.{length-take-le}
use Rattle.counting.specs.Sound.{Sound}
use Rattle.counting.specs.Meaning.{ledger_of}
use Rattle.counting.specs.declared.histogram.Histogram.{Histogram}

pub sound_histogram : (h : Histogram) → Sound (ledger_of h)
sound_histogram h = record {
  range = h.range;
  width = length-take-le h.levels h.pixels (omega (arith, h.range.1, h.width));
  fits = omega (arith, h.balance, h.fits);
}
