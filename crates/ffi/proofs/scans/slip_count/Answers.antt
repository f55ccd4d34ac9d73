-- The cells of the output are the pixels of the scan's ledger.
use Rattle.std.proofs.Common.{◌≡◌, ap, ◌∙◌, rules}
use Rattle.counting.specs.Ledger.{Ledger, pixels_at}
use Rattle.counting.specs.Meaning.{ledger_of}
use Rattle.ffi.proofs.Filling.{filled_weaker}
use Rattle.ffi.proofs.scans.slip_count.Goals as goal

pub returns-clause-each : goal.returns-clause-each
returns-clause-each c =
    filled_weaker
    (λ k x given. let is : x ≡ pixels_at (ledger_of c.histogram_of-histogram.result) k = search rules in is ∙ ap (λ (g : Ledger). pixels_at g k) c.histogram_of-histogram.ensures)
    c.fill.ensures
