use Rattle.std.proofs.Common.{refl}
use Rattle.st_ilread.proofs.Passed.{no_true}
use Rattle.st_ilread.proofs.DefinitionTrees.{direction_none, direction_is}
use Rattle.st_ilread.proofs.definition.read_direction.Goals as goal

pub returns-then-is_word : goal.returns-then-is_word
returns-then-is_word c = direction_is _ _ (c.is_word.ensures.0 c.if-is_word.true)

pub returns-then-is_word-2 : goal.returns-then-is_word-2
returns-then-is_word-2 c = direction_is _ _ (c.is_word-2.ensures.0 c.if-is_word-2.true)

pub returns : goal.returns
returns c = (refl, direction_none _ (λ e. no_true c.if-is_word.false (c.is_word.ensures.1 e)) (λ e. no_true c.if-is_word-2.false (c.is_word-2.ensures.1 e)))
