use Rattle.st_parse.proofs.ExpressionBroken.{parallel, all_kept, faultless, first_broken, broken_first}
use Rattle.st_parse.proofs.expression_laws.judging_of_expressions_agrees.Goals as goal

pub returns-clause-parallel : goal.returns-clause-parallel
returns-clause-parallel c = parallel

pub returns-clause-kept : goal.returns-clause-kept
returns-clause-kept c = all_kept

pub returns-clause-faultless : goal.returns-clause-faultless
returns-clause-faultless c = faultless

pub returns-clause-broken : goal.returns-clause-broken
returns-clause-broken c = first_broken

pub returns-clause-first : goal.returns-clause-first
returns-clause-first c = broken_first
