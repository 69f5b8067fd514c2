use Rattle.st_parse.proofs.OneExpressionAnswer.{one_file, never_file, one_refusal}
use Rattle.st_parse.proofs.expression_laws.one_answer_of_expressions.Goals as goal

pub returns-clause-source : goal.returns-clause-source
returns-clause-source c = one_file

pub returns-clause-never : goal.returns-clause-never
returns-clause-never c = never_file

pub returns-clause-fault : goal.returns-clause-fault
returns-clause-fault c = one_refusal
