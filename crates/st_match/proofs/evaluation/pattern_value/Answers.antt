use Rattle.st_semantics.specs.Matching.{no_answers}
use Rattle.st_semantics.proofs.PatternParts.{Gives-pattern}
use Rattle.st_match.proofs.evaluation.pattern_value.Goals as goal

pub returns : goal.returns
returns c = Gives-pattern c.args.types.now no_answers _ c.requires.pattern c.in_ok-outcome.ensures
