use Rattle.std.proofs.Common.{◌≡◌, ℕ, ◌+◌, ◌<◌, length, get_or, take, sum}
use Rattle.counting.specs.Ledger.{occurs}
use Rattle.counting.proofs.histogram.changes.add_row.Given as goal

-- the pixels of the row so far are added, each to its level
abbrev pub invariant-loop-pixel : goal.invariant-loop-pixel
invariant-loop-pixel l =
    (length l.pixels ≡ 1024)
    × ((k : ℕ) → k < 1024 → get_or l.pixels k 0 ≡ get_or l.initial.pixels k 0 + occurs k (take l.pixel-index l.row))
    × (sum l.pixels ≡ sum l.initial.pixels + l.pixel-index)
