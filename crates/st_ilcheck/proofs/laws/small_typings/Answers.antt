use Rattle.st_ilcheck.proofs.Examples.{and_number, up_itself, over_nothing}
use Rattle.st_ilcheck.proofs.laws.small_typings.Goals as goal

pub returns-clause-logic : goal.returns-clause-logic
returns-clause-logic c il = and_number il

pub returns-clause-injection : goal.returns-clause-injection
returns-clause-injection c il = up_itself il

pub returns-clause-iteration : goal.returns-clause-iteration
returns-clause-iteration c il = over_nothing il
