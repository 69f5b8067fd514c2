use Rattle.st_il.specs.Definitions.{syntaxes}
use Rattle.st_semantics.specs.Calls.{CallAt}
use Rattle.st_match.specs.inner.Scope.{scope_env}
use Rattle.st_search.proofs.EachValue.{GiveBehind}
use Rattle.st_search.proofs.holes.values_of.Given as goal

abbrev pub invariant-loop-exp : goal.invariant-loop-exp
invariant-loop-exp l = GiveBehind (syntaxes l.search.setting.index.now) (CallAt l.search.setting.index.now l.search.setting.depth) (scope_env l.scope) l.exps l.exp-index l.values
