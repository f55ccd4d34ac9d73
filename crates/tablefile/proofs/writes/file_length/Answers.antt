use Rattle.std.proofs.Common.{arith}
use Rattle.counting.specs.Meaning.{ledger_of}
use Rattle.tables.specs.Meaning.{table_of}
use Rattle.counting.proofs.Ledgers.{sound_histogram}
use Rattle.tablefile.proofs.Writing.{counted_number, bytes_long}
use Rattle.tablefile.proofs.writes.file_length.Goals as goal

pub returns : goal.returns
returns c =
    let h = c.args.histogram.now in
    let many = counted_number (ledger_of h) (sound_histogram h).width in
    let all = bytes_long (ledger_of h) (table_of c.args.table.now) in
    omega arith
