use Rattle.std.proofs.Common.{◌≡◌, subst, arith}
use Rattle.st_type_table.specs.declared.fault.TypeFault.TheVariants as fault
use Rattle.st_type_table.specs.inner.Checking.{CheckedAt}
use Rattle.st_type_table.proofs.PartLemmas.{item-at}
use Rattle.st_type_table.proofs.BuildLemmas.{sound-next, breach-is}
use Rattle.st_type_table.proofs.build.check_all.Goals as goal

pub returns-in-Some-clause-refused : goal.returns-in-Some-clause-refused
returns-in-Some-clause-refused c = λ s b e.
    let h = c.loop-at-test.true in
    let l = c.len-at-end.ensures in
    let a = item-at c.args.defs.now c.loop-at.at (omega (arith, h, l)) in
    let f = subst (CheckedAt c.args.defs.now c.loop-at.at) c.in-Some.is c.in_ok-broken.ensures in
    let same : fault.Refused c.loop-at.at c.in-Some.broken ≡ fault.Refused s b = cc in
    breach-is c.args.defs.now c.loop-at.at c.in-Some.broken s b same (record { definition = a.0; there = a.2; before = c.loop-at.invariant; first = f a.0 a.2 })

pub loop-at-preserved : goal.loop-at-preserved
loop-at-preserved c = sound-next c.args.defs.now c.loop-at.at c.loop-at.invariant (subst (CheckedAt c.args.defs.now c.loop-at.at) c.in-None.is c.in_ok-broken.ensures)

pub returns-clause-ok : goal.returns-clause-ok
returns-clause-ok c = λ i h. let g = c.loop-at-test.false in let l = c.len-at-end.ensures in c.loop-at.invariant i (omega (arith, h, g, l))
