use Rattle.st_text.proofs.NumberWords.{integer_answer}
use Rattle.st_text.proofs.number.read_integer.Goals as goal

pub returns-in-Some : goal.returns-in-Some
returns-in-Some c = integer_answer _ _ _ _ c.in-Some.ensures c.read_natural.ensures c.negative.ensures
