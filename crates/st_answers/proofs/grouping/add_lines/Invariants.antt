use Rattle.std.proofs.Common.{◌≡◌, ◌++◌, drop}
use Rattle.st_answers.specs.GroupTexts.{groups_text}
use Rattle.st_answers.proofs.grouping.add_lines.Given as goal

abbrev pub invariant-loop-group : goal.invariant-loop-group
invariant-loop-group l = l.bytes.items ++ groups_text (drop l.group-index l.groups) ≡ l.initial.bytes.items ++ groups_text l.groups
