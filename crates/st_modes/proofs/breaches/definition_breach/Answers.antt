use Rattle.std.proofs.Common.{sym, subst}
use Rattle.st_il.specs.declared.definition.IlDef.{IlDef}
use Rattle.st_order.specs.inner.Index.{names_in}
use Rattle.st_modes.specs.inner.Breaches.{IsLeast}
use Rattle.st_modes.proofs.BreachParts.{rule_least, clause_least}
use Rattle.st_modes.proofs.breaches.definition_breach.Goals as goal

pub returns-in-Rule : goal.returns-in-Rule
returns-in-Rule c after are =
    subst (λ (d : IlDef). IsLeast c.args.relations.now.directions.il.now (d, after) c.rule_breach-breach.result) (sym c.in-Rule.is)
    (rule_least c.args.relations.now c.requires c.in-Rule.rule after (names_in c.args.decided.now.keys) are c.rule_breach-breach.result c.rule_breach-breach.ensures)

pub returns-in_ok-broken-in-Clause : goal.returns-in_ok-broken-in-Clause
returns-in_ok-broken-in-Clause c after are =
    subst (λ (d : IlDef). IsLeast c.args.relations.now.directions.il.now (d, after) c.in_ok-broken-in-Clause.broken) (sym c.in-Clause.is)
    (clause_least c.args.relations.now.directions.il.now c.in-Clause.clause after c.in_ok-broken-in-Clause.broken c.in_ok-broken-in-Clause.ensures)
