use Rattle.std.proofs.Common.{ap, ◌∙◌}
use Rattle.st_scan.specs.Spelling.{is_name}
use Rattle.st_scan.proofs.Readings.{front_name, name_read}
use Rattle.st_scan.proofs.read.read_name.Goals as goal

pub kind_of_name-requires : goal.kind_of_name-requires
kind_of_name-requires c = ap is_name c.name_front-name.ensures ∙ front_name c.args.bytes.now c.requires

pub returns : goal.returns
returns c = name_read _ _ _ c.name_front-name.ensures c.requires c.in_ok-kind_of_name.ensures
