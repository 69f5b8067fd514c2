use Rattle.st_modes.proofs.CitedByParts.{push-under}
use Rattle.st_modes.proofs.cited_by.push_under.Goals as goal

pub returns : goal.returns
returns c =
    push-under c.args.found.now.entries c.exchange.new.map.entries c.put.new.map.entries c.args.key c.args.name c.in_ok-was.was' c.new.result c.row_of-names.result c.push.new.self c.in_ok-was.ensures.was c.in_ok-was.ensures.put
    c.row_of-names.ensures c.in_ok-push.ensures.ok c.in_ok-put.ensures
