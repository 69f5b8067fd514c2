use Rattle.st_algo.proofs.Taken.{law_of_rules, law_of_clauses}
use Rattle.st_algo.proofs.AllTaken.{law_of_lowering}
use Rattle.st_algo.proofs.laws.steps_can_be_taken.Goals as goal

pub returns-clause-rules : goal.returns-clause-rules
returns-clause-rules c = law_of_rules

pub returns-clause-clauses : goal.returns-clause-clauses
returns-clause-clauses c = law_of_clauses

pub returns-clause-lowered : goal.returns-clause-lowered
returns-clause-lowered c = law_of_lowering
