use Rattle.st_parse_automaton.proofs.NameIndexLemmas.{length_added}
use Rattle.st_parse_automaton.proofs.name_index.lengths.Goals as goal

pub names-preserved : goal.names-preserved
names-preserved c =
    length_added c.args.names.now c.names.name-index c.name-item.result c.names.lengths.keys c.insert.new.self.keys c.len.result
    c.names-test.true c.name-item.is c.len.ensures c.in_ok-insert.ensures.keys c.names.invariant
