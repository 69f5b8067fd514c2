use Rattle.std.proofs.Common.{take}
use Rattle.st_match.specs.inner.Scope.{scope_env}
use Rattle.st_search.specs.inner.Holes.{AreHoles}
use Rattle.st_search.proofs.holes.holes_of.Given as goal

abbrev pub invariant-loop-exp : goal.invariant-loop-exp
invariant-loop-exp l = AreHoles l.search.setting.index.now l.search.setting.depth (scope_env l.scope) l.which (take l.exp-index l.exps) l.holes
