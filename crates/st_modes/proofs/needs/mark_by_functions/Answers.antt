use Rattle.st_modes.proofs.NeedsFun.{lacks_none, lacks_within, lacks_some}
use Rattle.st_modes.proofs.needs.mark_by_functions.Goals as goal

pub returns-in_default : goal.returns-in_default
returns-in_default c = lacks_none c.args.indexed.now c.requires c.args.relation.now.name c.first_under-found.result c.first_under-found.ensures c.in_default.is

pub fun_at-fun-requires : goal.fun_at-fun-requires
fun_at-fun-requires c =
    lacks_within c.args.indexed.now c.requires c.args.relation.now.name c.first_under-found.result c.first_under-found.ensures c.in-Some.number c.as_slice-lacking.result.now c.as_slice-lacking.ensures c.in-Some.is

pub returns : goal.returns
returns c =
    lacks_some c.args.indexed.now c.requires c.args.relation.now.name c.first_under-found.result c.first_under-found.ensures c.in-Some.number c.as_slice-lacking.result.now c.fun_at-fun.result.now c.in_ok-copy.field-0 c.as_slice-lacking.ensures
    c.in-Some.is c.fun_at-fun.ensures c.in_ok-copy.ensures
