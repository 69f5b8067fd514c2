use Rattle.std.proofs.Common.{sym, subst, Some, None, arith, take}
use Rattle.st_type_table.specs.Breach.{Finds, on_alternatives}
use Rattle.st_type_table.specs.inner.Checking.{ChecksAt}
use Rattle.st_type_table.proofs.PartLemmas.{item-at, alternatives-found, alternatives-step}
use Rattle.st_type_table.proofs.ReachLemmas.{run-end, far-enough}
use Rattle.st_type_table.proofs.check.check_alternatives.Goals as goal

pub loop-at-init : goal.loop-at-init
loop-at-init c = (λ found f. f, far-enough c.args.defs.now c.args.parts.now c.args.target.now c.args.from c.args.reach c.requires.reach c.requires.before)

pub check_alternative-requires-clause-so_far : goal.check_alternative-requires-clause-so_far
check_alternative-requires-clause-so_far c = c.loop-at.invariant.1 (let h = c.loop-at-test.true in let m = c.min-at-end.ensures in omega (arith, h, m))

pub returns-in-Some : goal.returns-in-Some
returns-in-Some c =
    let h = c.loop-at-test.true in
    let m = c.min-at-end.ensures in
    let a = item-at c.args.parts.now c.loop-at.at (omega (arith, h, m)) in
    let f = subst (ChecksAt c.args.defs.now c.args.target.now c.args.parts.now c.args.reach c.loop-at.at) c.in-Some.is c.in_ok-found.ensures in
    c.loop-at.invariant.0 (Some c.in-Some.found)
    (alternatives-found c.args.defs.now c.args.target.now c.args.parts.now c.loop-at.at c.args.to a.0 (omega (arith, h, m)) (omega (arith, h, m)) a.1 c.in-Some.found (f.0 a.0 a.2))

pub loop-at-preserved : goal.loop-at-preserved
loop-at-preserved c =
    let h = c.loop-at-test.true in
    let m = c.min-at-end.ensures in
    let a = item-at c.args.parts.now c.loop-at.at (omega (arith, h, m)) in
    let f = subst (ChecksAt c.args.defs.now c.args.target.now c.args.parts.now c.args.reach c.loop-at.at) c.in-None.is c.in_ok-found.ensures in (
      λ found g. c.loop-at.invariant.0 found
          (alternatives-step c.args.defs.now c.args.target.now c.args.parts.now c.loop-at.at c.args.to a.0 (omega (arith, h, m)) (omega (arith, h, m)) a.1 found (f.0 a.0 a.2) g),
      λ l. let k = f.1 in omega (arith, k),
    )

pub returns : goal.returns
returns c = c.loop-at.invariant.0 None (subst (λ z. Finds c.args.defs.now (on_alternatives c.args.target.now c.loop-at.at (take c.loop-at.at c.args.parts.now) z) None)
    (sym (run-end c.args.parts.now c.loop-at.at c.args.to (let h = c.loop-at-test.false in let m = c.min-at-end.ensures in omega (arith, h, m)))) tt)
