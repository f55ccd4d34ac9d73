-- What is read by the order of faults is what the grammar says.
use Rattle.std.proofs.Common.{◌≡◌, ℕ, List, drop, Ok, Err, vec_items, Result, arith}
use Rattle.std.proofs.lemmas.Result.{IfOk-weaker}
use Rattle.std.specs.declared.alloc.AllocError.{AllocError}
use Rattle.scans.specs.declared.pgm.Fault.{Fault}
use Rattle.scans.specs.declared.scan.Scan.{Scan}
use Rattle.scans.specs.Grammar.{Agrees}
use Rattle.scans.specs.Pgm.{Reads, Holds, width_of, height_of, maximum_of, after_header}
use Rattle.scans.specs.Raster.{pixels_of}
use Rattle.scans.proofs.Grammars.{no_fault}
use Rattle.scans.proofs.Writings.{file_written}

pub agrees_from_reads : (bs : List ℕ) (r : Result (Result Scan AllocError) Fault) → Reads bs r → Agrees bs r
agrees_from_reads bs (Ok r) reads =
    record {
      width = width_of bs;
      height = height_of bs;
      maximum = maximum_of bs;
      samples = drop 1 (after_header bs);
      file = file_written bs reads.0;
      scan = IfOk-weaker r (Holds bs) (λ s. (s.width ≡ width_of bs) × (s.height ≡ height_of bs) × (s.maximum ≡ maximum_of bs) × (vec_items s.pixels ≡ pixels_of (maximum_of bs) (drop 1 (after_header bs)))) (λ s is. (is.width_is, is.height_is, is.maximum_is, is.pixels_are)) reads.1;
    }
agrees_from_reads bs (Err f) reads = λ w h m samples file. let none = no_fault w h m samples bs file in let z : ◌≡◌ {A = ℕ} 0 1 = cc in omega arith
