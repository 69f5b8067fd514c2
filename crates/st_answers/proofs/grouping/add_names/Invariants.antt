use Rattle.std.proofs.Common.{◌≡◌, ◌++◌, drop}
use Rattle.st_answers.specs.GroupTexts.{names_text}
use Rattle.st_answers.proofs.grouping.add_names.Given as goal

abbrev pub invariant-loop-name : goal.invariant-loop-name
invariant-loop-name l = l.bytes.items ++ names_text (drop l.name-index l.names) ≡ l.initial.bytes.items ++ names_text l.names
