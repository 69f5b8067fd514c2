use Rattle.st_ilcheck.specs.inner.Names.{pairs_at}
use Rattle.st_ilcheck.proofs.NamesLemmas.{pairs-more, kept-more}
use Rattle.st_ilcheck.proofs.names.keep.Goals as goal

pub returns-in-Ok-clause-kept : goal.returns-in-Ok-clause-kept
returns-in-Ok-clause-kept c =
    kept-more (pairs_at c.args.listed.now.items) (pairs_at c.push.new.self.items) c.args.distinct.now.keys c.add_pair.new.pairs.keys c.args.first.now c.args.second.now
    c.requires c.in-Ok.ensures.more (pairs-more c.args.listed.now.items c.push.new.self.items (c.args.first, c.args.second) c.in_ok-push.ensures.items)
