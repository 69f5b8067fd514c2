use Rattle.std.proofs.Common.{◌≡◌, ◌-◌, List, ℕ, length, drop}
use Rattle.std.specs.Option.{option_copied}
use Rattle.st_elab_table.specs.Judgements.{relation_named}
use Rattle.st_ilcheck.specs.Index.{at}
use Rattle.st_elab_def.proofs.heads.relations_by_name.Given as goal

abbrev pub invariant-loop-i : goal.invariant-loop-i
invariant-loop-i l = (q : List ℕ) → option_copied (at l.map.entries q) ≡ relation_named (drop (length l.relations - l.i) l.relations) q
