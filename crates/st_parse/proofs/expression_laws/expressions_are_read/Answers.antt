use Rattle.st_parse.proofs.ExpressionReadings.{complete, sound, viable, dead}
use Rattle.st_parse.proofs.expression_laws.expressions_are_read.Goals as goal

pub returns-clause-complete : goal.returns-clause-complete
returns-clause-complete c = complete

pub returns-clause-sound : goal.returns-clause-sound
returns-clause-sound c = sound

pub returns-clause-viable : goal.returns-clause-viable
returns-clause-viable c = viable

pub returns-clause-dead : goal.returns-clause-dead
returns-clause-dead c = dead
