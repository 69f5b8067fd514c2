use Rattle.std.proofs.Common.{◌≡◌, ◌++◌, map, take}
use Rattle.st_deps.specs.Cited.{in_all, exp_names, item_names, step_names}
use Rattle.st_deps.proofs.cited.+add_exp.Given as goal

abbrev pub invariant-add_exps-loop-exp : goal.invariant-add_exps-loop-exp
invariant-add_exps-loop-exp l = l.names ≡ l.initial.names ++ in_all (map exp_names (take l.exp-index l.exps))

abbrev pub invariant-add_items-loop-item : goal.invariant-add_items-loop-item
invariant-add_items-loop-item l = l.names ≡ l.initial.names ++ in_all (map item_names (take l.item-index l.items))

abbrev pub invariant-add_path-loop-step : goal.invariant-add_path-loop-step
invariant-add_path-loop-step l = l.names ≡ l.initial.names ++ in_all (map step_names (take l.step-index l.path))
