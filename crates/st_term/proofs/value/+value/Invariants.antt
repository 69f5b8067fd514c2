use Rattle.std.proofs.Common.{drop}
use Rattle.st_term.specs.inner.TermElements.{ValuesContinue, ElementsContinue}
use Rattle.st_term.proofs.value.+value.Given as goal

abbrev pub invariant-values_of-loop-exp : goal.invariant-values_of-loop-exp
invariant-values_of-loop-exp l = ValuesContinue l.types l.exps (drop l.exp-index l.exps) l.values

abbrev pub invariant-elements_of-loop-item : goal.invariant-elements_of-loop-item
invariant-elements_of-loop-item l = ElementsContinue l.types l.items (drop l.item-index l.items) l.elements
