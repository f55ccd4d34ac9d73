-- The chain gives the number of each sample, and those are the pixels.
use Rattle.std.proofs.Common.{◌/◌, length, map-id, rules, w16}
use Rattle.std.proofs.lemmas.Iterator.{YieldsList-from_map, YieldsList-from_slice}
use Rattle.std.proofs.lemmas.Iterator.Adapters.{items_from_extend}
use Rattle.std.specs.Int.{from_be_bytes}
use Rattle.std.specs.Simd.{first_chunks}
use Rattle.scans.proofs.Rasters.{wide_pixels}
use Rattle.scans.proofs.raster.decode.Goals as goal

pub returns-in_ok-extend : goal.returns-in_ok-extend
returns-in_ok-extend c =
    let samples = c.args.samples.now in
    let same = map-id samples in
    let numbers = items_from_extend _ c.extend.ensures.ran (YieldsList-from_map _ (λ sample. sample) (YieldsList-from_slice samples cc) c.map.ensures.closure (λ x r q k. search rules)) in
    search rules

pub returns-in_ok-extend-2 : goal.returns-in_ok-extend-2
returns-in_ok-extend-2 c =
    let samples = c.args.samples.now in
    let pairs = first_chunks 2 (length samples / 2) samples in
    let pixels = wide_pixels c.args.maximum samples c.if-maximum-lt256.false in
    let numbers = items_from_extend _ c.extend-else-maximum-lt256.ensures.ran (YieldsList-from_map _ (from_be_bytes w16) (YieldsList-from_slice pairs cc) c.map-else-maximum-lt256.ensures.closure (λ x r q k. search rules)) in
    search rules
