-- Each pair of bytes makes the next number.
use Rattle.std.proofs.Common.{◌/◌, length, rules, w16}
use Rattle.std.proofs.lemmas.Iterator.{YieldsList-from_map, YieldsList-from_slice}
use Rattle.std.proofs.lemmas.Iterator.Adapters.{items_from_extend}
use Rattle.std.specs.Int.{from_be_bytes}
use Rattle.std.specs.Simd.{first_chunks}
use Rattle.branch.proofs.Words.{pairs_are}
use Rattle.branch.proofs.input.numbers.Goals as goal

pub returns : goal.returns
returns c =
    let input = c.args.input.now in
    let pairs = first_chunks 2 (length input / 2) input in
    let words = pairs_are input in
    let numbers = items_from_extend _ c.extend.ensures.ran (YieldsList-from_map _ (from_be_bytes w16) (YieldsList-from_slice pairs cc) c.map.ensures.closure (λ x r q k. search rules)) in
    search rules
