use Rattle.std.proofs.Common.{sym, inl, refl}
use Rattle.st_commands.proofs.StepLemmas.{at_most_itself, at_most_back, at_most_unless}
use Rattle.st_commands.proofs.step.lesser.Goals as goal

pub returns-in-Greater-clause-at_most_one : goal.returns-in-Greater-clause-at_most_one
returns-in-Greater-clause-at_most_one c = at_most_back c.args.one.now.to c.args.other.now.to (sym c.in-Greater.ensures)

pub returns-in-Greater-clause-at_most_other : goal.returns-in-Greater-clause-at_most_other
returns-in-Greater-clause-at_most_other c = at_most_itself c.args.other.now.to

pub returns-in_default : goal.returns-in_default
returns-in_default c = record {
  either = inl refl;
  at_most_one = at_most_itself c.args.one.now.to;
  at_most_other = at_most_unless c.args.one.now.to c.args.other.now.to c.cmp.result c.cmp.ensures c.in_default.not-Greater;
}
