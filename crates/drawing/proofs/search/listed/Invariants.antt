-- The counted levels below the next are listed.
use Rattle.std.proofs.Common.{◌≡◌, ◌≤◌, drop}
use Rattle.std.specs.Iterator.Adapters.{zip_first, zip_second}
use Rattle.std.specs.Slice.Iter.{iter_rest}
use Rattle.counting.specs.Meaning.{ledger_of}
use Rattle.divisions.proofs.Places.{front}
use Rattle.drawing.proofs.search.listed.Given as goal

abbrev pub invariant-loop-level : goal.invariant-loop-level
invariant-loop-level l =
    let g = ledger_of l.histogram in
    let ahead = zip_first l.level-iterator in
    (l.levels.items ≡ front g ahead.start) × (ahead.start ≤ g.levels) × (ahead.end ≡ g.levels) × (iter_rest (zip_second l.level-iterator) ≡ drop ahead.start g.at)
