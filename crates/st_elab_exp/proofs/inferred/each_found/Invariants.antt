use Rattle.std.proofs.Common.{drop, map}
use Rattle.st_elab_table.specs.Steps.{found}
use Rattle.st_elab_exp.proofs.Pairing.{FoundSoFar}
use Rattle.st_elab_exp.proofs.inferred.each_found.Given as goal

abbrev pub invariant-loop-exp : goal.invariant-loop-exp
invariant-loop-exp g l =
    FoundSoFar l.context.decls.now l.context.scope.now (map (found l.context.within.now) l.exps)
    (map (found l.context.within.now) (drop l.exp-index l.exps)) l.parts l.tys
