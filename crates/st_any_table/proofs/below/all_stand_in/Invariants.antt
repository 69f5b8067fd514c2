use Rattle.std.proofs.Common.{◌↔◌, drop}
use Rattle.st_any_table.specs.inner.Flats.{cases_at}
use Rattle.st_any_table.specs.inner.Pairs.{EachStandsIn}
use Rattle.st_any_table.proofs.below.all_stand_in.Given as goal

abbrev pub invariant-loop-number : goal.invariant-loop-number
invariant-loop-number l = EachStandsIn l.survey.defs (cases_at l.survey.cases (drop l.number-index l.lower)) (cases_at l.survey.cases l.upper)
    ↔ EachStandsIn l.survey.defs (cases_at l.survey.cases l.lower) (cases_at l.survey.cases l.upper)
