use Rattle.std.proofs.Common.{ℕ, ◌++◌, ap₂, arith, rules}
use Rattle.std.proofs.lemmas.Iterator.{YieldsList-from_range, YieldsList-from_slice, YieldsList-from_zip}
use Rattle.std.proofs.lemmas.Iterator.Consumers.{YieldsList-turn}
use Rattle.std.proofs.lemmas.List.{length_push}
use Rattle.counting.specs.Meaning.{ledger_of}
use Rattle.counting.proofs.Ledgers.{sound_histogram}
use Rattle.tablefile.specs.Numbers.{word, long}
use Rattle.tablefile.proofs.Writing.{put_same, level_room, level_put, level_skipped, level_turn}
use Rattle.tablefile.proofs.writer.Writer.put_levels.Goals as goal

pub put_level-requires : goal.put_level-requires
put_level-requires c =
    let h = c.args.histogram.now in
    let g = ledger_of h in
    let turn = level_turn g.levels _ g.at _ (sound_histogram h).width
    (YieldsList-turn (YieldsList-from_zip (YieldsList-from_range 0 g.levels g.levels (search rules) (omega arith)) (YieldsList-from_slice g.at (search rules)))
    c.loop-level.yielded _ c.loop-level.yielded_by _ c.next.new.self (c.in-Some.level, c.in-Some.pixels) c.in-Some.is c.next.ensures.steps) in
    level_room g c.args.self.now c.requires c.loop-level.self _ c.loop-level.invariant turn.0 (omega (arith, turn.2, c.if-pixels-gt0.true))

pub loop-level-preserved-then-pixels-gt0 : goal.loop-level-preserved-then-pixels-gt0
loop-level-preserved-then-pixels-gt0 c =
    let h = c.args.histogram.now in
    let g = ledger_of h in
    let turn = level_turn g.levels _ g.at _ (sound_histogram h).width
    (YieldsList-turn (YieldsList-from_zip (YieldsList-from_range 0 g.levels g.levels (search rules) (omega arith)) (YieldsList-from_slice g.at (search rules)))
    c.loop-level.yielded _ c.loop-level.yielded_by _ c.next.new.self (c.in-Some.level, c.in-Some.pixels) c.in-Some.is c.next.ensures.steps) in
    let then = c.put_level.new.self in
    let entry = put_same c.loop-level.self then _ _ (ap₂ (λ (l n : ℕ). word l ++ long n) turn.1 turn.2) c.put_level.ensures in
    let put = level_put g c.args.self.now c.requires c.loop-level.self _ c.loop-level.invariant turn.0 then (omega (arith, turn.2, c.if-pixels-gt0.true)) entry in
    rw (length_push c.loop-level.yielded (c.in-Some.level, c.in-Some.pixels)) put

pub loop-level-preserved : goal.loop-level-preserved
loop-level-preserved c =
    let h = c.args.histogram.now in
    let g = ledger_of h in
    let turn = level_turn g.levels _ g.at _ (sound_histogram h).width
    (YieldsList-turn (YieldsList-from_zip (YieldsList-from_range 0 g.levels g.levels (search rules) (omega arith)) (YieldsList-from_slice g.at (search rules)))
    c.loop-level.yielded _ c.loop-level.yielded_by _ c.next.new.self (c.in-Some.level, c.in-Some.pixels) c.in-Some.is c.next.ensures.steps) in
    let put = level_skipped g c.args.self.now c.requires c.loop-level.self _ c.loop-level.invariant turn.0 (omega (arith, turn.2, c.if-pixels-gt0.false)) in
    rw (length_push c.loop-level.yielded (c.in-Some.level, c.in-Some.pixels)) put
