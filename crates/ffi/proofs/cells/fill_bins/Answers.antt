-- Each output holds what the table gives of each bin.
use Rattle.std.proofs.Common.{rules}
use Rattle.ffi.proofs.Filling.{filled_weaker}
use Rattle.ffi.proofs.cells.fill_bins.Goals as goal

pub returns-clause-bounds : goal.returns-clause-bounds
returns-clause-bounds c = filled_weaker (λ k x given. search rules) c.fill.ensures

pub returns-clause-representatives : goal.returns-clause-representatives
returns-clause-representatives c = filled_weaker (λ k x given. search rules) c.fill-2.ensures
