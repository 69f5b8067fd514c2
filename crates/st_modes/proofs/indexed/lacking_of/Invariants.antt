use Rattle.std.proofs.Common.{◌≡◌, take, filter, not, is_some}
use Rattle.st_il.specs.declared.definition.FunDef.{FunDef}
use Rattle.st_order.specs.Known.{all_now, at}
use Rattle.st_modes.proofs.indexed.lacking_of.Given as goal

abbrev pub invariant-loop-fun : goal.invariant-loop-fun
invariant-loop-fun l = all_now l.lacking ≡ filter (λ (f : FunDef). not (is_some (at l.calls.entries f.name))) (all_now (take l.fun-index l.funs))
