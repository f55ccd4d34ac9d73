-- What is told of the drawing is told of the scan's drawing.
use Rattle.ffi.proofs.Telling.{told_of_scan}
use Rattle.ffi.proofs.drawings.draw_scan.Goals as goal

pub returns-clause-told : goal.returns-clause-told
returns-clause-told g c =
    let drawing = c.draw-result.ensures.drawing in
    told_of_scan _ _ _ c.tell.result _ _ _ _ _ _ _ c.draw-result.result c.requires c.histogram_of-histogram.ensures drawing.refused_exactly drawing.drew c.tell.ensures
