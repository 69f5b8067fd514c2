use Rattle.st_ilcheck.proofs.Single.{HasTyping-single, PremBreaks-single, RuleBreaks-single, ClauseBreaks-single}
use Rattle.st_ilcheck.proofs.laws.one_typing.Goals as goal

pub returns-clause-expressions : goal.returns-clause-expressions
returns-clause-expressions c il ls e o p broken other h k = HasTyping-single il h k

pub returns-clause-premises : goal.returns-clause-premises
returns-clause-premises c il ls p broken other h k = PremBreaks-single il h k

pub returns-clause-rules : goal.returns-clause-rules
returns-clause-rules c il r broken other h k = RuleBreaks-single il r broken other h k

pub returns-clause-clauses : goal.returns-clause-clauses
returns-clause-clauses c il d broken other h k = ClauseBreaks-single il d broken other h k
