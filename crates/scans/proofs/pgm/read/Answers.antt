-- What is read by the order of faults is what the grammar says.
use Rattle.std.proofs.Common.{Ok, rules}
use Rattle.scans.proofs.Readings.{agrees_from_reads}
use Rattle.scans.proofs.pgm.read.Goals as goal

pub returns-in_err-header-clause-agrees : goal.returns-in_err-header-clause-agrees
returns-in_err-header-clause-agrees c = agrees_from_reads c.args.bytes.now c.from_residual.result (search rules)

pub returns-in_err-raster-clause-agrees : goal.returns-in_err-raster-clause-agrees
returns-in_err-raster-clause-agrees c = agrees_from_reads c.args.bytes.now c.from_residual-in_err-raster.result (search rules)

pub returns-clause-agrees : goal.returns-clause-agrees
returns-clause-agrees c = agrees_from_reads c.args.bytes.now (Ok c.to_scan.result) (search rules)
