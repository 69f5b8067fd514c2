use Rattle.st_grammar.proofs.Steps.{sound}
use Rattle.st_grammar.proofs.Completions.{viable, dead}
use Rattle.st_grammar.proofs.laws.parts_are_read.Goals as goal

pub returns-clause-sound : goal.returns-clause-sound
returns-clause-sound c = sound

pub returns-clause-viable : goal.returns-clause-viable
returns-clause-viable c = viable

pub returns-clause-dead : goal.returns-clause-dead
returns-clause-dead c = dead
