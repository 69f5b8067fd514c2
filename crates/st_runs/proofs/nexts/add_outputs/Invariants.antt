use Rattle.std.proofs.Common.{◌≡◌, ◌++◌, drop}
use Rattle.std.specs.List.{flat_map}
use Rattle.st_search.specs.Answers.{values_in}
use Rattle.st_runs.specs.RunTexts.{output_line}
use Rattle.st_runs.proofs.nexts.add_outputs.Given as goal

abbrev pub invariant-loop-output : goal.invariant-loop-output
invariant-loop-output l = l.bytes.items ++ flat_map output_line (values_in (drop l.output-index l.found)) ≡ l.initial.bytes.items ++ flat_map output_line (values_in l.found)
