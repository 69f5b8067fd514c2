use Rattle.st_elab_exp.proofs.Judging.{fills_none, fills_some, fills_length, judged_told}
use Rattle.st_elab_exp.proofs.judgement.judged.Goals as goal

pub returns-in_default : goal.returns-in_default
returns-in_default c = fills_none c.args.decls.now c.args.scope.now c.args.within.now c.args.relation.now c.args.exp.now c.in_ok-case.case c.in_ok-filled.field-0 c.in_ok-case.ensures c.in_default.is c.in_ok-filled.ensures

pub check_fillings-requires : goal.check_fillings-requires
check_fillings-requires c =
    fills_length c.args.decls.now c.args.relation.now c.args.exp.now c.in-Some.filled _ _ c.as_slice.ensures c.as_slice-tys.ensures
    (fills_some c.args.decls.now c.args.relation.now c.args.exp.now c.in_ok-case.case c.in_ok-filled.field-0 c.in-Some.filled c.in_ok-case.ensures c.in-Some.is c.in_ok-filled.ensures)

pub returns : goal.returns
returns c =
    judged_told c.args.decls.now c.args.scope.now c.args.within.now c.args.relation.now c.args.exp.now c.in-Some.filled _ _ c.check_fillings.result c.as_slice.ensures c.as_slice-tys.ensures
    (fills_some c.args.decls.now c.args.relation.now c.args.exp.now c.in_ok-case.case c.in_ok-filled.field-0 c.in-Some.filled c.in_ok-case.ensures c.in-Some.is c.in_ok-filled.ensures)
    c.check_fillings.ensures
