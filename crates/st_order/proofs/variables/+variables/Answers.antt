use Rattle.st_order.proofs.VariableParts.{vars_of_place}
use Rattle.st_order.proofs.variables.+variables.Goals as goal

pub push_vars-returns-in_ok-push_vars-in-Set-2 : goal.push_vars-returns-in_ok-push_vars-in-Set-2
push_vars-returns-in_ok-push_vars-in-Set-2 t c =
    vars_of_place c.args.exp.now c.in-Set.x c.in-Set.y c.in-Set.path _ _ _ _ c.get-in-Set.result.now c.get-in-Set-2.result.now c.in-Set.is c.get-in-Set.ensures c.get-in-Set-2.ensures
    c.as_slice-in-Set.result.now c.as_slice-in-Set.ensures c.in_ok-push_vars-in-Set.ensures c.in_ok-push_path_vars-in-Set.ensures c.in_ok-push_vars-in-Set-2.ensures
