use Rattle.std.proofs.Common.{◌≡◌, ◌-◌, length, sum, sym, refl, ap, arith}
use Rattle.counting.specs.Ledger.{Ledger, Told, withdrawn}
use Rattle.counting.specs.Meaning.{ledger_of}
use Rattle.counting.proofs.Steps.{row_fits, all_pixels, short_level, none_short, new_past, new_balance, new_levels, row_ledger, row_answer}
use Rattle.counting.proofs.histogram.Histogram.withdraw.Goals as goal

pub take_row-requires : goal.take_row-requires
take_row-requires c = row_fits c.args.self.now c.args.row.now c.in_default.ensures

pub returns-in-Some-take_row : goal.returns-in-Some-take_row
returns-in-Some-take_row c =
    let self = c.args.self.now in
    let row = c.args.row.now in
    let refused = short_level self row c.in_default.ensures c.in-Some-take_row.level c.in-Some-take_row.ensures.lowest in
    record {
      ledger = sym (ap (λ (s : Ledger × Told). s.0) refused);
      answer = sym (ap (λ (s : Ledger × Told). s.1) refused);
      unaltered = refl;
    }

pub overflow_sub-total : goal.overflow_sub-total
overflow_sub-total c = omega (arith, all_pixels c.args.self.now c.args.row.now c.in_default.ensures, c.in_default-take_row.ensures.all)

pub overflow_cast-total : goal.overflow_cast-total
overflow_cast-total c =
    let self = c.args.self.now in
    omega (arith, self.fits, all_pixels self c.args.row.now c.in_default.ensures, c.in_default-take_row.ensures.all)

pub invariant_of-self : goal.invariant_of-self
invariant_of-self c =
    let self = c.args.self.now in
    let row = c.args.row.now in
    let levels = c.in_default.ensures in
    let new = c.take_row.new.pixels in
    let total : self.total - length row ≡ sum new = omega (arith, all_pixels self row levels, c.in_default-take_row.ensures.all) in
    record {
      range = self.range;
      width = c.take_row.array_long;
      balance = new_balance self row levels ◌-◌ refl new c.take_row.array_long c.take_row.ensures.each _ total;
      fits = omega (arith, self.fits);
      past = new_past self row levels ◌-◌ refl new c.take_row.array_long c.take_row.ensures.each;
    }

pub returns : goal.returns
returns c =
    let self = c.args.self.now in
    let row = c.args.row.now in
    let levels = c.in_default.ensures in
    let new = c.take_row.new.pixels in
    let total : self.total - length row ≡ sum new = omega (arith, all_pixels self row levels, c.in_default-take_row.ensures.all) in
    let accepted = none_short self row levels c.in_default-take_row.ensures.lowest in
    let changed = new_levels self row levels ◌-◌ refl new c.take_row.array_long c.take_row.ensures.each in
    let balance = new_balance self row levels ◌-◌ refl new c.take_row.array_long c.take_row.ensures.each _ total in
    record {
      ledger = row_ledger (ledger_of self) (withdrawn row) ◌-◌ row new (self.total - length row) accepted changed balance;
      answer = row_answer (ledger_of self) (withdrawn row) ◌-◌ row new (self.total - length row) accepted changed balance;
      unaltered = tt;
    }
