use Rattle.std.proofs.Common.{◌≡◌, not, drop}
use Rattle.std.specs.List.{list_all}
use Rattle.st_il.specs.declared.expression.IlExp.{IlExp}
use Rattle.st_semantics.specs.OpenParts.{is_doubly_open}
use Rattle.st_modes.proofs.clause_modes.have_one_open.Given as goal

abbrev pub invariant-loop-arg : goal.invariant-loop-arg
invariant-loop-arg l = list_all (λ (e : IlExp). not (is_doubly_open e)) l.args ≡ list_all (λ (e : IlExp). not (is_doubly_open e)) (drop l.arg-index l.args)
