use Rattle.st_scan.proofs.Readings.{dot_read}
use Rattle.st_scan.proofs.read.read_dot.Goals as goal

pub returns : goal.returns
returns c = dot_read _ _ _ c.name_front-name.ensures c.in_ok-from_slice.ensures c.requires
