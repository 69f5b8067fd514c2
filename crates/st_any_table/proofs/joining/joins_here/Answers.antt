use Rattle.std.proofs.Common.{rules}
use Rattle.st_any_table.proofs.HeadsLemmas.{head-within, joining-head, no-joining-head}
use Rattle.st_any_table.proofs.joining.joins_here.Goals as goal

pub is_joining-requires-clause-within : goal.is_joining-requires-clause-within
is_joining-requires-clause-within c = head-within c.args.defs.now c.args.ty.now c.in-Some.position c.in-Some.ensures

pub returns-in-Some : goal.returns-in-Some
returns-in-Some c = joining-head c.args.defs.now c.args.ty.now c.in-Some.position c.is_joining.result c.in-Some.ensures c.is_joining.ensures

pub returns-in-None : goal.returns-in-None
returns-in-None c = (λ f. search rules, λ h. absurd (no-joining-head c.args.defs.now c.args.ty.now c.in-None.ensures h))
