use Rattle.st_parse.proofs.parser.read_definitions.Goals as goal

pub answer-requires : goal.answer-requires
answer-requires c = c.in_ok-fault.ensures c.requires c.begun_reader-reader.ensures
