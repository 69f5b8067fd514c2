use Rattle.st_index.proofs.PairParts.{has_pair-insert}
use Rattle.st_index.proofs.names.add_pair.Goals as goal

pub returns-clause-more : goal.returns-clause-more
returns-clause-more c = has_pair-insert c.args.pairs.now.keys c.insert.new.self.keys (c.args.first, c.args.second) c.in_ok-insert.ensures.keys
