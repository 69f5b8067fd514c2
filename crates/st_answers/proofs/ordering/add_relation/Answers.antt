use Rattle.st_modes.specs.inner.Citations.{rules_under}
use Rattle.st_answers.proofs.OrderLines.{undirected_lines, directed_lines, orders_known, few_known}
use Rattle.st_answers.proofs.ordering.add_relation.Goals as goal

pub returns-then-is_undirected : goal.returns-then-is_undirected
returns-then-is_undirected c =
    undirected_lines c.args.directions.now.il.now c.args.relation.now c.args.mark.now c.as_slice.result.now c.args.bytes.now.items c.extend_from_slice.new.self.items
    c.extend_from_slice-then-is_undirected.new.self.items c.requires.mark c.if-is_undirected.ensures c.as_slice.ensures c.in_ok-extend_from_slice.ensures.items
    c.in_ok-extend_from_slice-2.ensures.items

pub add_rules_under-requires : goal.add_rules_under-requires
add_rules_under-requires c =
    let il = c.args.directions.now.il.now in
    let relation = c.args.relation.now in
    let rules = rules_under c.args.rules.now.entries relation.name in record {
      directions = c.requires.directions;
      few = few_known il relation.name rules (c.requires.rules relation.name) c.requires.few.1;
      orders = orders_known il relation c.args.mark.now rules c.args.orders.now c.requires.mark c.if-is_undirected.ensures (c.requires.rules relation.name) c.requires.orders;
    }

pub returns : goal.returns
returns c =
    let relation = c.args.relation.now in
    directed_lines c.args.directions.now.il.now relation c.args.mark.now (rules_under c.args.rules.now.entries relation.name) c.as_slice.result.now c.args.bytes.now.items
    c.extend_from_slice.new.self.items c.extend_from_slice-2.new.self.items c.add_rules_under.new.bytes.items c.requires.mark c.if-is_undirected.ensures c.as_slice.ensures
    c.in_ok-extend_from_slice.ensures.items c.in_ok-extend_from_slice-3.ensures.items (c.requires.rules relation.name) c.in_ok-add_rules_under.ensures
