use Rattle.std.proofs.Common.{◌≡◌, ◌+◌, sum, refl, arith}
use Rattle.counting.specs.Ledger.{counted}
use Rattle.counting.specs.Meaning.{ledger_of}
use Rattle.counting.proofs.Steps.{counted_accepted, row_fits, all_pixels, new_past, new_balance, new_levels, row_ledger, row_answer}
use Rattle.counting.proofs.histogram.Histogram.count.Goals as goal

pub add_row-requires : goal.add_row-requires
add_row-requires c =
    let self = c.args.self.now in
    let levels = c.in_default.ensures in
    record {
      levels = row_fits self c.args.row.now levels;
      room = omega (arith, c.in-Some-total_with.ensures, all_pixels self c.args.row.now levels);
    }

pub invariant_of-self : goal.invariant_of-self
invariant_of-self c =
    let self = c.args.self.now in
    let row = c.args.row.now in
    let levels = c.in_default.ensures in
    let new = c.add_row.new.pixels in
    let total : c.in-Some-total_with.total ≡ sum new = omega (arith, c.in-Some-total_with.ensures, all_pixels self row levels, c.add_row.ensures.all) in
    record {
      range = self.range;
      width = c.add_row.array_long;
      balance = new_balance self row levels ◌+◌ refl new c.add_row.array_long c.add_row.ensures.each _ total;
      fits = omega (arith, c.in-Some-total_with.ensures);
      past = new_past self row levels ◌+◌ refl new c.add_row.array_long c.add_row.ensures.each;
    }

pub returns : goal.returns
returns c =
    let self = c.args.self.now in
    let row = c.args.row.now in
    let levels = c.in_default.ensures in
    let new = c.add_row.new.pixels in
    let total : c.in-Some-total_with.total ≡ sum new = omega (arith, c.in-Some-total_with.ensures, all_pixels self row levels, c.add_row.ensures.all) in
    let accepted = counted_accepted (ledger_of self) row levels (omega (arith, self.balance, c.in-Some-total_with.ensures)) in
    let changed = new_levels self row levels ◌+◌ refl new c.add_row.array_long c.add_row.ensures.each in
    let balance = new_balance self row levels ◌+◌ refl new c.add_row.array_long c.add_row.ensures.each _ total in
    record {
      ledger = row_ledger (ledger_of self) (counted row) ◌+◌ row new c.in-Some-total_with.total accepted changed balance;
      answer = row_answer (ledger_of self) (counted row) ◌+◌ row new c.in-Some-total_with.total accepted changed balance;
      unaltered = tt;
    }
