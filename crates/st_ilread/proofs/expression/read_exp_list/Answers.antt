use Rattle.std.proofs.Common.{refl}
use Rattle.std.specs.List.{list_all}
use Rattle.st_iltext.specs.Expressions.{exp_tree}
use Rattle.st_iltext.specs.Written.{exp_written}
use Rattle.st_ilread.proofs.Passed.{row_no_list, row_read}
use Rattle.st_ilread.proofs.expression.read_exp_list.Goals as goal

pub returns-in_default : goal.returns-in_default
returns-in_default c = (refl, row_no_list exp_tree exp_written (list_all exp_written) _ c.in_default.ensures)

pub returns : goal.returns
returns c = row_read exp_tree exp_written _ _ _ c.in-Some.ensures c.read_exps.ensures
