use Rattle.st_grammar.proofs.PositionReading.{sound_defs}
use Rattle.st_grammar.proofs.PositionEnds.{viable}
use Rattle.st_grammar.proofs.PositionComplete.{dead_defs}
use Rattle.st_grammar.proofs.laws.definitions_are_read.Goals as goal

pub returns-clause-sound : goal.returns-clause-sound
returns-clause-sound c = sound_defs

pub returns-clause-viable : goal.returns-clause-viable
returns-clause-viable c = viable

pub returns-clause-dead : goal.returns-clause-dead
returns-clause-dead c = dead_defs
