use Rattle.st_type_table.proofs.flat.try_alternative.Goals as goal

pub add_alternative-requires-clause-ready : goal.add_alternative-requires-clause-ready
add_alternative-requires-clause-ready c = λ name e. let ends = c.if-not-is_ending.ensures name e in (ends, c.requires.known name e ends)
