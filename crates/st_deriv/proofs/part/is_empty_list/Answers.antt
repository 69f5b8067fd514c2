use Rattle.st_deriv.proofs.Parts.{empty_list}
use Rattle.st_deriv.proofs.part.is_empty_list.Goals as goal

pub returns-in-List : goal.returns-in-List
returns-in-List c = empty_list _ _ _ c.in-List.is c.is_empty.ensures
