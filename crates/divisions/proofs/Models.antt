-- What the theorems ask for can be met: by the worst error, as by the total, and by the first ledger of the worked cases.
use Rattle.std.proofs.Common.{refl, arith, rules}
use Rattle.pricing.specs.Tallies.{Laws}
use Rattle.pricing.specs.Kinds.{worst_ops}
use Rattle.counting.specs.Sound.{Sound}
use Rattle.divisions.specs.Samples.{four_levels}

pub worst_laws : Laws worst_ops
worst_laws = search rules

pub four_sound : Sound four_levels
four_sound = record { range = (omega arith, omega arith); width = refl; fits = omega arith }
