use Rattle.st_grammar.specs.Terminals.{declared_names}
use Rattle.st_parse.proofs.OneAnswer.{never_source, one_refusal}
use Rattle.st_parse.proofs.laws.one_answer.Goals as goal

pub returns-clause-source : goal.returns-clause-source
returns-clause-source c = λ tokens a b p q. c.one_source.ensures (declared_names tokens) tokens a b p.0.1 q.0.1

pub returns-clause-never : goal.returns-clause-never
returns-clause-never c = never_source

pub returns-clause-fault : goal.returns-clause-fault
returns-clause-fault c = one_refusal
