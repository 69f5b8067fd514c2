use Rattle.st_index.proofs.GroupParts.{members_added}
use Rattle.st_index.proofs.groups.add_under.Goals as goal

pub returns : goal.returns
returns g c q =
    members_added c.args.groups.now.entries c.take.new.groups.entries c.put.new.map.entries c.args.name.now c.args.one c.in_ok-row.row _ q
    (c.in_ok-put.ensures.more q) c.in_ok-push.ensures.ok c.in_ok-row.ensures.row (c.in_ok-row.ensures.rest q)
