use Rattle.std.proofs.Common.{◌≡◌, sym, ◌∙◌, ap, ◌++◌, map, flat_map, subst}
use Rattle.std.specs.Prelude.{OnOk}
use Rattle.st_answers.specs.OrderTexts.{rule_line}
use Rattle.st_answers.specs.inner.Relations.{HaveFew, order_of_rule}
use Rattle.st_answers.proofs.OrderLines.{found_rules, none_found}
use Rattle.st_answers.proofs.ordering.add_rules_under.Goals as goal

pub add_rules-requires : goal.add_rules-requires
add_rules-requires c =
    let same = found_rules c.args.rules.now.entries c.args.name.now c.at.result c.in-Some.found c.as_slice.result.now c.at.ensures c.in-Some.is c.as_slice.ensures in record {
      directions = c.requires.directions;
      few = subst HaveFew same c.requires.few;
      orders = c.requires.orders ∙ ap (map (order_of_rule c.args.directions.now.il.now)) same;
    }

pub returns-in-Some : goal.returns-in-Some
returns-in-Some c =
    subst (λ rules. OnOk c.add_rules.result (c.add_rules.new.bytes.items ≡ c.args.bytes.now.items ++ flat_map (rule_line c.args.directions.now.il.now) rules))
    (sym (found_rules c.args.rules.now.entries c.args.name.now c.at.result c.in-Some.found c.as_slice.result.now c.at.ensures c.in-Some.is c.as_slice.ensures)) c.add_rules.ensures

pub returns-in-None : goal.returns-in-None
returns-in-None c = none_found (rule_line c.args.directions.now.il.now) c.args.rules.now.entries c.args.name.now c.at.result c.args.bytes.now.items c.at.ensures c.in-None.is
