use Rattle.std.proofs.Common.{sym, subst, take, Some, None, arith}
use Rattle.st_type_table.specs.Breach.{Finds, on_field, on_fields}
use Rattle.st_type_table.proofs.PartLemmas.{fields-found, fields-step}
use Rattle.st_type_table.proofs.ReachLemmas.{run-end}
use Rattle.st_type_table.proofs.check.check_fields.Goals as goal

pub returns-in-Some : goal.returns-in-Some
returns-in-Some c =
    let h = c.loop-at-test.true in
    let m = c.min-at-end.ensures in
    c.loop-at.invariant (Some c.in-Some.found) (fields-found c.args.defs.now c.args.fields.now c.loop-at.at c.args.to c.index-fields-at.result (omega (arith, h, m)) (omega (arith, h, m)) c.index-fields-at.is c.in-Some.found
    (subst (Finds c.args.defs.now (on_field c.loop-at.at (take c.loop-at.at c.args.fields.now) c.index-fields-at.result)) c.in-Some.is
    (subst (λ n. Finds c.args.defs.now (on_field n (take c.loop-at.at c.args.fields.now) c.index-fields-at.result) c.in_ok-found.field-0) c.in_ok-part.ensures c.in_ok-found.ensures)))

pub loop-at-preserved : goal.loop-at-preserved
loop-at-preserved c =
    let h = c.loop-at-test.true in
    let m = c.min-at-end.ensures in
    λ found g. c.loop-at.invariant found (fields-step c.args.defs.now c.args.fields.now c.loop-at.at c.args.to c.index-fields-at.result (omega (arith, h, m)) (omega (arith, h, m)) c.index-fields-at.is found
    (subst (Finds c.args.defs.now (on_field c.loop-at.at (take c.loop-at.at c.args.fields.now) c.index-fields-at.result)) c.in-None.is
    (subst (λ n. Finds c.args.defs.now (on_field n (take c.loop-at.at c.args.fields.now) c.index-fields-at.result) c.in_ok-found.field-0) c.in_ok-part.ensures c.in_ok-found.ensures)) g)

pub returns : goal.returns
returns c = c.loop-at.invariant None (subst (λ z. Finds c.args.defs.now (on_fields c.loop-at.at (take c.loop-at.at c.args.fields.now) z) None)
    (sym (run-end c.args.fields.now c.loop-at.at c.args.to (let h = c.loop-at-test.false in let m = c.min-at-end.ensures in omega (arith, h, m)))) tt)
