use Rattle.std.proofs.Common.{◌≡◌, take}
use Rattle.st_il.specs.Small.{AreDistinct, rule_names}
use Rattle.st_small.specs.inner.Names.{names_of}
use Rattle.st_small.proofs.names.have_distinct_names.Given as goal

abbrev pub invariant-loop-rule : goal.invariant-loop-rule
invariant-loop-rule l = record {
  kept : names_of l.set.keys ≡ take l.rule-index (rule_names l.rules);
  distinct : AreDistinct (take l.rule-index (rule_names l.rules));
}
