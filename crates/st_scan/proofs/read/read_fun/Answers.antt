use Rattle.st_scan.proofs.Readings.{fun_read}
use Rattle.st_scan.proofs.read.read_fun.Goals as goal

pub returns : goal.returns
returns c = fun_read _ _ _ c.name_front-name.ensures c.in_ok-from_slice.ensures c.requires
