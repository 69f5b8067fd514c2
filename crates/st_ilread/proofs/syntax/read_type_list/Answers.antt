use Rattle.std.proofs.Common.{refl}
use Rattle.std.specs.List.{list_all}
use Rattle.st_iltext.specs.Expressions.{ty_tree}
use Rattle.st_iltext.specs.Written.{ty_written}
use Rattle.st_ilread.proofs.Passed.{row_no_list, row_read}
use Rattle.st_ilread.proofs.syntax.read_type_list.Goals as goal

pub returns-in_default : goal.returns-in_default
returns-in_default c = (refl, row_no_list ty_tree ty_written (list_all ty_written) _ c.in_default.ensures)

pub returns : goal.returns
returns c = row_read ty_tree ty_written _ _ _ c.in-Some.ensures c.read_tys.ensures
