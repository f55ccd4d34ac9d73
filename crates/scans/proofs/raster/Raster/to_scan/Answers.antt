-- As many pixels as the header says.
use Rattle.std.proofs.Common.{length, ap, ◌∙◌}
use Rattle.scans.proofs.Rasters.{length_whole}
use Rattle.scans.proofs.raster.Raster.to_scan.Goals as goal

pub invariant_of-result-clause-whole : goal.invariant_of-result-clause-whole
invariant_of-result-clause-whole c =
    let raster = c.args.self.now in
    c.in_ok-decode.field-0.ok.0 ∙ ap length c.in_ok-decode.ensures
    ∙ length_whole raster.header.width raster.header.height raster.header.maximum raster.samples.now raster.whole
