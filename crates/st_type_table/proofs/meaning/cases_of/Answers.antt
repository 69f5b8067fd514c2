use Rattle.st_type_table.proofs.meaning.cases_of.Goals as goal

pub returns-in-Some : goal.returns-in-Some
returns-in-Some c = c.in-Some.ensures.has
