use Rattle.std.proofs.Common.{◌↔◌, sym, subst}
use Rattle.std.specs.Prelude.{IsTrue, IfOk}
use Rattle.st_ilcheck.specs.Typed.{KeepsVariables}
use Rattle.st_ilcheck.proofs.premise_contents.variables_kept.Goals as goal

pub returns-in-Rule : goal.returns-in-Rule
returns-in-Rule c = subst (λ d. IfOk c.rule_variables_kept.result (λ kept. IsTrue kept ↔ KeepsVariables d)) (sym c.in-Rule.is) c.rule_variables_kept.ensures

pub returns-in-Clause : goal.returns-in-Clause
returns-in-Clause c = subst (λ d. IfOk c.clause_variables_kept.result (λ kept. IsTrue kept ↔ KeepsVariables d)) (sym c.in-Clause.is) c.clause_variables_kept.ensures
