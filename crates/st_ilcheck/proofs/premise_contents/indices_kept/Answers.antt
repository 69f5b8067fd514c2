use Rattle.std.proofs.Common.{◌↔◌, sym, subst}
use Rattle.std.specs.Prelude.{IsTrue, IfOk}
use Rattle.st_ilcheck.specs.Typed.{KeepsIndices}
use Rattle.st_ilcheck.proofs.premise_contents.indices_kept.Goals as goal

pub returns-in-Rule : goal.returns-in-Rule
returns-in-Rule c = subst (λ d. IfOk c.rule_indices_kept.result (λ kept. IsTrue kept ↔ KeepsIndices d)) (sym c.in-Rule.is) c.rule_indices_kept.ensures

pub returns-in-Clause : goal.returns-in-Clause
returns-in-Clause c = subst (λ d. IfOk c.clause_indices_kept.result (λ kept. IsTrue kept ↔ KeepsIndices d)) (sym c.in-Clause.is) c.clause_indices_kept.ensures
