use Rattle.std.proofs.Common.{refl}
use Rattle.std.specs.Prelude.{slice_get}
use Rattle.st_any_table.specs.inner.Flats.{cases_at}
use Rattle.st_any_table.proofs.PairsLemmas.{stand-one, stand-none}
use Rattle.st_any_table.proofs.below.number_stands_in.Goals as goal

pub returns-in_ok-stands-in-Some : goal.returns-in_ok-stands-in-Some
returns-in_ok-stands-in-Some c = stand-one c.args.survey.now.defs c.in-Some.case.now (slice_get c.args.survey.now.cases c.args.number) (cases_at c.args.survey.now.cases c.args.upper.now) c.in_ok-stands-in-Some.stands c.in-Some.ensures.value c.in_ok-stands-in-Some.ensures

pub returns-in-None : goal.returns-in-None
returns-in-None c = (λ f. stand-none c.args.survey.now.defs (slice_get c.args.survey.now.cases c.args.number) (cases_at c.args.survey.now.cases c.args.upper.now) c.in-None.ensures.value, λ h. refl)
