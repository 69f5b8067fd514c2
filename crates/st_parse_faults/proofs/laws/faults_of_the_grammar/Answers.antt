use Rattle.st_parse_faults.proofs.BrokenFirst.{refused_there, none_later}
use Rattle.st_parse_faults.proofs.JudgingLemmas.{grammar_s1, grammar_s4}
use Rattle.st_num.specs.declared.rule.RuleId.TheVariants.{S1, S4}
use Rattle.st_parse_faults.proofs.laws.faults_of_the_grammar.Goals as goal

pub returns-clause-source : goal.returns-clause-source
returns-clause-source c = λ tokens h. (h.0, h.1)

pub returns-clause-refused : goal.returns-clause-refused
returns-clause-refused c = λ tokens k f. refused_there tokens k S1 grammar_s1 f

pub returns-clause-left_out : goal.returns-clause-left_out
returns-clause-left_out c = λ tokens k f. refused_there tokens k S4 grammar_s4 f

pub returns-clause-first : goal.returns-clause-first
returns-clause-first c = none_later
