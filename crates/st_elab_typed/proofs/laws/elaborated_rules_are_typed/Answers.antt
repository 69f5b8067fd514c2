use Rattle.st_elab_typed.proofs.Declared.{AreDeclaredIn-declares}
use Rattle.st_elab_typed.proofs.RuleTyping.{RuleIsTyped-holds, ClauseIsTyped-holds}
use Rattle.st_elab_typed.proofs.laws.elaborated_rules_are_typed.Goals as goal

pub returns-clause-rules : goal.returns-clause-rules
returns-clause-rules c = RuleIsTyped-holds

pub returns-clause-clauses : goal.returns-clause-clauses
returns-clause-clauses c = ClauseIsTyped-holds

pub returns-clause-declared : goal.returns-clause-declared
returns-clause-declared c = AreDeclaredIn-declares
