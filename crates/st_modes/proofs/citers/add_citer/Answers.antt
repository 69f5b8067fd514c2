use Rattle.st_modes.specs.declared.citers.Citers.{Citers}
use Rattle.st_order.specs.inner.Index.{names_in}
use Rattle.st_modes.proofs.CiterParts.{has_more, has_new, knows_rule, knows_clause, knows_kept}
use Rattle.st_modes.proofs.citers.add_citer.Goals as goal

pub returns-in_ok-add-in-Rule : goal.returns-in_ok-add-in-Rule
returns-in_ok-add-in-Rule c =
    let now : Citers = record { relations = c.add.new.names; functions = c.args.citers.now.functions } in
    let old = names_in c.args.citers.now.relations.keys in
    let new = names_in c.add.new.names.keys in record {
      new = knows_rule now c.args.definition.now c.in-Rule.rule c.in-Rule.is (has_new old new c.in-Rule.rule.relation c.in_ok-add-in-Rule.ensures);
      old = knows_kept c.args.citers.now now (has_more old new c.in-Rule.rule.relation c.in_ok-add-in-Rule.ensures) (λ q h. h);
    }

pub returns-in_ok-add-in-Clause : goal.returns-in_ok-add-in-Clause
returns-in_ok-add-in-Clause c =
    let now : Citers = record { relations = c.args.citers.now.relations; functions = c.add-in-Clause.new.names } in
    let old = names_in c.args.citers.now.functions.keys in
    let new = names_in c.add-in-Clause.new.names.keys in record {
      new = knows_clause now c.args.definition.now c.in-Clause.clause c.in-Clause.is (has_new old new c.in-Clause.clause.fun c.in_ok-add-in-Clause.ensures);
      old = knows_kept c.args.citers.now now (λ q h. h) (has_more old new c.in-Clause.clause.fun c.in_ok-add-in-Clause.ensures);
    }
