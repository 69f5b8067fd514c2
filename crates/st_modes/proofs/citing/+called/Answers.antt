use Rattle.st_modes.proofs.CalledParts.{called_of_place}
use Rattle.st_modes.proofs.citing.+called.Goals as goal

pub push_called-returns-in_ok-push_called-in-Set-2 : goal.push_called-returns-in_ok-push_called-in-Set-2
push_called-returns-in_ok-push_called-in-Set-2 t c =
    called_of_place c.args.exp.now c.in-Set.x c.in-Set.y c.in-Set.path _ _ _ _ c.get-in-Set.result.now c.get-in-Set-2.result.now c.in-Set.is c.get-in-Set.ensures c.get-in-Set-2.ensures
    c.as_slice-in-Set.result.now c.as_slice-in-Set.ensures c.in_ok-push_called-in-Set.ensures c.in_ok-push_path_called-in-Set.ensures c.in_ok-push_called-in-Set-2.ensures
