-- What is read of a file without a fault is its histogram and its table, in the outputs.
use Rattle.std.proofs.Common.{Option, sym, refl, subst, rules}
use Rattle.counting.specs.Meaning.{ledger_of}
use Rattle.counting.specs.Outputs.{Row}
use Rattle.counting.proofs.Ledgers.{sound_histogram}
use Rattle.tables.specs.Meaning.{table_of}
use Rattle.tables.proofs.Bins.{lawful_table}
use Rattle.ffi.specs.Files.{Got}
use Rattle.ffi.proofs.Filling.{filled_weaker}
use Rattle.ffi.proofs.files.slip_read.Goals as goal

pub returns : goal.returns
returns c =
    let histogram = c.read.new.histogram in
    let table = c.read.new.table in
    let reads = c.in_default.ensures in
    let got : (row : Option Row) → Type 0 = λ row. Got row c.args.file.now 0 c.args.at.now c.fill.new.cells c.args.bounds.now c.fill_bins.new.bounds c.args.representatives.now c.fill_bins.new.representatives in
    subst got (sym reads.0) (record {
      histogram = ledger_of histogram;
      table = table_of table;
      pair = record { histogram = sound_histogram histogram; table = lawful_table table; same = reads.2 };
      reads = reads;
      accepted = refl;
      pixels_are = filled_weaker (λ k x given. search rules) c.fill.ensures;
      bounds_are = c.fill_bins.ensures.bounds;
      greys_are = c.fill_bins.ensures.representatives;
    })
