use Rattle.std.proofs.Common.{sym, ap, ap₂, ◌∙◌}
use Rattle.std.specs.List.{enumerate_from}
use Rattle.st_il.specs.Definitions.{rules_of}
use Rattle.st_algo.specs.Lowered.{rule_algorithms, orders_at}
use Rattle.st_algo.proofs.GroupParts.{members_found, members_none}
use Rattle.st_algo.proofs.relations.relation_algorithms.Goals as goal

pub returns-in_ok-row-in-Some : goal.returns-in_ok-row-in-Some
returns-in_ok-row-in-Some c =
    c.in_ok-row-in-Some.ensures
    ∙ ap₂ (λ x y. rule_algorithms c.args.directions.now.il.now x (enumerate_from 0 y)) c.orders_at-orders.ensures
    (members_found c.args.groups.now.entries c.args.relation.now.name (rules_of c.args.directions.now.il.now c.args.relation.now.name) _ c.in-Some.rules _ c.at.ensures c.in-Some.is c.as_slice-rules.ensures
    (c.requires.groups c.args.relation.now.name))

pub returns-in-None : goal.returns-in-None
returns-in-None c =
    c.new.ensures
    ∙ sym (ap (λ y. rule_algorithms c.args.directions.now.il.now (orders_at c.args.modes.now c.args.number) (enumerate_from 0 y))
    (members_none c.args.groups.now.entries c.args.relation.now.name (rules_of c.args.directions.now.il.now c.args.relation.now.name) _ c.at.ensures c.in-None.is (c.requires.groups c.args.relation.now.name)))
