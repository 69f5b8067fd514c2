use Rattle.st_parse_automaton.proofs.Exact.{never_both, one_token}
use Rattle.st_parse_automaton.proofs.laws.refused_once.Goals as goal

pub returns-clause-never : goal.returns-clause-never
returns-clause-never c = never_both

pub returns-clause-one : goal.returns-clause-one
returns-clause-one c = one_token
