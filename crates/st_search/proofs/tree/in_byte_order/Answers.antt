use Rattle.st_semantics.specs.Formed.{none}
use Rattle.st_search.proofs.TreeEnvs.{last_extension, extension_there}
use Rattle.st_search.proofs.tree.in_byte_order.Goals as goal

pub extensions-requires-clause-formed : goal.extensions-requires-clause-formed
extensions-requires-clause-formed c = none

pub returns-in-Some : goal.returns-in-Some
returns-in-Some c = last_extension c.args.types.now c.args.env.now c.in_ok-found.found c.pop.new.self c.in-Some.made c.in_ok-found.ensures c.in-Some.ensures

pub returns : goal.returns
returns c = absurd (extension_there c.args.types.now c.args.env.now c.in_ok-found.found c.in_ok-found.ensures c.in-None.ensures.0)
