use Rattle.st_parse_automaton.proofs.NameIndexLemmas.{key_added}
use Rattle.st_parse_automaton.proofs.name_index.distinct.Goals as goal

pub names-preserved : goal.names-preserved
names-preserved c =
    key_added c.args.names.now c.names.name-index c.name-item.result c.names.distinct.keys c.insert.new.self.keys c.as_slice.result
    c.names-test.true c.name-item.is c.as_slice.ensures c.in_ok-insert.ensures.keys c.names.invariant
