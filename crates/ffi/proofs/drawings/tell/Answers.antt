-- The receipt is told, and the outputs hold the table.
use Rattle.std.proofs.Common.{Result, sym, subst}
use Rattle.refusals.specs.declared.refusal.Refusal.{Refusal}
use Rattle.pricing.specs.declared.tallies.total.Total.{Total}
use Rattle.tables.specs.Meaning.{table_of}
use Rattle.drawing.specs.declared.receipt.Receipt.{Receipt}
use Rattle.ffi.specs.Told.{Told}
use Rattle.ffi.proofs.drawings.tell.Goals as goal

pub returns-in-Ok : goal.returns-in-Ok
returns-in-Ok c =
    subst (λ (res : Result (Receipt Total) Refusal). Told res (table_of c.args.table.now) c.from.result c.args.bounds.now c.fill_bins.new.bounds c.args.representatives.now c.fill_bins.new.representatives) (sym c.in-Ok.is) (record {
      refusal = cc;
      bins = cc;
      tally = cc;
      priced = cc;
      compared = cc;
      bounds_are = c.fill_bins.ensures.bounds;
      greys_are = c.fill_bins.ensures.representatives;
    })
