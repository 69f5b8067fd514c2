-- The node of a rule of a small specification.
use Rattle.std.specs.Prelude.{List, ℕ, [], ◌∷◌, None}
use Rattle.st_deriv.specs.declared.line.NodeLine.{NodeLine}
use Rattle.st_il.specs.declared.small.SmallRule.{SmallRule}
use Rattle.st_il.specs.declared.value.Value.TheVariants.{Case}

-- the node by a rule without variables and premises: it has no bindings and no children
abbrev pub rule_node : List ℕ → SmallRule → NodeLine
rule_node relation rule =
    record {
      relation = relation;
      rule = rule.name;
      env = record { entries = [] };
      children = [];
      values = Case rule.from [] ∷ Case rule.to [] ∷ [];
      evidence = None;
    }
