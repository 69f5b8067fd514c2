use Rattle.st_num.specs.declared.rule.RuleId.TheVariants.{S1, S4}
use Rattle.st_parse_faults.proofs.JudgingLemmas.{grammar_s1, grammar_s4}
use Rattle.st_parse.proofs.ExpressionBroken.{one_broken, never_kept, refused_there, none_later}
use Rattle.st_parse.proofs.expression_laws.faults_of_expressions.Goals as goal

pub returns-clause-never : goal.returns-clause-never
returns-clause-never c = never_kept

pub returns-clause-one : goal.returns-clause-one
returns-clause-one c = one_broken

pub returns-clause-source : goal.returns-clause-source
returns-clause-source c = λ names tokens h. (h.0, h.1)

pub returns-clause-refused : goal.returns-clause-refused
returns-clause-refused c = λ names tokens k f. refused_there names tokens k S1 grammar_s1 f

pub returns-clause-left_out : goal.returns-clause-left_out
returns-clause-left_out c = λ names tokens k f. refused_there names tokens k S4 grammar_s4 f

pub returns-clause-first : goal.returns-clause-first
returns-clause-first c = none_later
