use Rattle.std.proofs.Common.{◌≡◌, take, map}
use Rattle.st_il.specs.declared.definition.FunDef.{FunDef}
use Rattle.st_order.specs.Known.{all_now}
use Rattle.st_order.specs.inner.Index.{names_in}
use Rattle.st_modes.proofs.indexed.names_of.Given as goal

abbrev pub invariant-loop-i : goal.invariant-loop-i
invariant-loop-i l = names_in l.names ≡ map (λ (f : FunDef). f.name) (all_now (take l.i l.funs))
