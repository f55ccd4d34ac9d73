use Rattle.std.proofs.Common.{◌≤◌, length, sym, refl, ◌∙◌, ap, arith, lit<}
use Rattle.std.proofs.lemmas.Grind.{common_steps}
use Rattle.counting.specs.Meaning.{ledger_of}
use Rattle.counting.specs.Outputs.{over}
use Rattle.tables.specs.Meaning.{table_of}
use Rattle.tablefile.specs.Bytes.{head_bytes, bytes_of}
use Rattle.tablefile.specs.Numbers.{word}
use Rattle.counting.proofs.Ledgers.{sound_histogram}
use Rattle.tablefile.proofs.Writing.{counted_number, entries_long, bytes_long, whole_put, put_over, put_same, put_word, write_enough, write_short}
use Rattle.tablefile.proofs.writes.write.Goals as goal

pub returns-then-out-needed : goal.returns-then-out-needed
returns-then-out-needed c =
    let h = c.args.histogram.now in
    let many = counted_number (ledger_of h) (sound_histogram h).width in
    let all = bytes_long (ledger_of h) (table_of c.args.table.now) in
    (write_short (ledger_of h) (table_of c.args.table.now) _ _ (omega arith) (omega arith) (omega arith), refl)

pub put_head-requires : goal.put_head-requires
put_head-requires c =
    let all = bytes_long (ledger_of c.args.histogram.now) (table_of c.args.table.now) in
    let cells = ap length c.new-writer.ensures.cells in
    omega arith

pub put-requires : goal.put-requires
put-requires c =
    let all = bytes_long (ledger_of c.args.histogram.now) (table_of c.args.table.now) in
    let cells = ap length c.new-writer.ensures.cells in
    (lit< tt, omega arith)

pub put_levels-requires : goal.put_levels-requires
put_levels-requires c =
    let h = c.args.histogram.now in
    let many = counted_number (ledger_of h) (sound_histogram h).width in
    let all = bytes_long (ledger_of h) (table_of c.args.table.now) in
    let cells = ap length c.new-writer.ensures.cells in
    omega arith

pub put-requires-2 : goal.put-requires-2
put-requires-2 c =
    let h = c.args.histogram.now in
    let many = counted_number (ledger_of h) (sound_histogram h).width in
    let all = bytes_long (ledger_of h) (table_of c.args.table.now) in
    let cells = ap length c.new-writer.ensures.cells in
    let levels = entries_long (ledger_of h) in
    (lit< tt, omega arith)

pub put_bins-requires : goal.put_bins-requires
put_bins-requires c =
    let h = c.args.histogram.now in
    let many = counted_number (ledger_of h) (sound_histogram h).width in
    let all = bytes_long (ledger_of h) (table_of c.args.table.now) in
    let cells = ap length c.new-writer.ensures.cells in
    let levels = entries_long (ledger_of h) in
    omega arith

pub returns : goal.returns
returns c =
    let h = c.args.histogram.now in
    let g = ledger_of h in
    let t = table_of c.args.table.now in
    let out = c.args.out.now in
    let many = counted_number g (sound_histogram h).width in
    let all = bytes_long g t in
    let room : length (bytes_of g t) ≤ length out = omega arith in
    let start = c.new-writer.ensures in
    let cells = ap length start.cells in
    let w0 = c.new-writer.result in
    let w1 = c.put_head.new.self in
    let w2 = c.put.new.self in
    let w3 = c.put_levels.new.self in
    let w4 = c.put-2.new.self in
    let w5 = c.put_bins.new.self in
    let head = put_same w0 w1 _ _ (ap head_bytes c.levels-levels.ensures) c.put_head.ensures in
    let counted = put_same w1 w2 _ _ (ap word (c.counted_levels-counted.ensures ∙ many)) (put_word w1 w2 c.counted_levels-counted.result _ c.counted_levels-counted.type_inv c.to_be_bytes.ensures c.put.ensures) in
    let bins = put_same w3 w4 _ _ (ap word c.bins-bins.ensures) (put_word w3 w4 c.bins-bins.result _ c.bins-bins.type_inv c.to_be_bytes-2.ensures c.put-2.ensures) in
    let put = whole_put g t w0 w1 w2 w3 w4 w5 (omega arith) head counted c.put_levels.ensures bins c.put_bins.ensures in
    let written = put_over w0 w5 (bytes_of g t) start.place put ∙ ap (over (bytes_of g t)) start.cells in
    let same = sym (put.0 ∙ start.same_reference) in
    (write_enough g t (length out) (omega arith) room, omega arith, grind (arith, common_steps))
