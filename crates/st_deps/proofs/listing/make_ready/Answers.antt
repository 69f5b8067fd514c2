use Rattle.st_deps.proofs.ReadyLemmas.{ready-more}
use Rattle.st_deps.proofs.listing.make_ready.Goals as goal

pub returns : goal.returns
returns c = λ a. ready-more c.args.ready.now c.insert.new.self c.args.group c.in_ok-insert.ensures.updates a
