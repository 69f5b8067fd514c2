use Rattle.std.proofs.Common.{◌≡◌, ◌++◌, map, drop, true}
use Rattle.st_semantics.specs.Operands.{item_exp}
use Rattle.st_semantics.specs.Variables.{vars_of}
use Rattle.st_semantics.specs.Patterns.{told, told_item, all_patterns}
use Rattle.st_match.proofs.names.+variables.Given as goal

abbrev pub invariant-push_all_vars-loop-pattern : goal.invariant-push_all_vars-loop-pattern
invariant-push_all_vars-loop-pattern l = record {
  are : all_patterns (map told (drop l.pattern-index l.patterns)) ≡ true;
  names : l.names ++ vars_of (drop l.pattern-index l.patterns) ≡ l.initial.names ++ vars_of l.patterns;
}

abbrev pub invariant-push_item_vars-loop-item : goal.invariant-push_item_vars-loop-item
invariant-push_item_vars-loop-item l = record {
  are : all_patterns (map told_item (drop l.item-index l.items)) ≡ true;
  names : l.names ++ vars_of (map item_exp (drop l.item-index l.items)) ≡ l.initial.names ++ vars_of (map item_exp l.items);
}
