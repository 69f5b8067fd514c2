use Rattle.st_parse.proofs.ExpressionParsing.{one_meaning}
use Rattle.st_parse.proofs.expression_laws.one_meaning.Goals as goal

pub returns : goal.returns
returns c = one_meaning
