-- Samples of two bytes: the chain tests each pair, and those are the pixels.
use Rattle.std.proofs.Common.{◌/◌, length, nat_le, ◌∙◌, rules, w16}
use Rattle.std.proofs.lemmas.Iterator.{YieldsList-from_slice}
use Rattle.std.proofs.lemmas.Iterator.Search.{all_from_yields_List}
use Rattle.std.specs.Int.{from_be_bytes}
use Rattle.std.specs.Simd.{first_chunks}
use Rattle.scans.proofs.Rasters.{wide_within}
use Rattle.scans.proofs.raster.all_within.Goals as goal
use borrow.Author.Tests.{tests}

pub returns-else-maximum-lt256 : goal.returns-else-maximum-lt256
returns-else-maximum-lt256 c =
    let samples = c.args.samples.now in
    all_from_yields_List (λ sample. nat_le (from_be_bytes w16 sample) c.args.maximum) _ _ _ c.all-else-maximum-lt256.ensures.ran (YieldsList-from_slice (first_chunks 2 (length samples / 2) samples) cc) (λ x b q k. search (rules, tests))
    ∙ wide_within c.args.maximum samples c.if-maximum-lt256.false
