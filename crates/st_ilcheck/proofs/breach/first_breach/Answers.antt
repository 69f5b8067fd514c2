use Rattle.std.proofs.Common.{◌≡◌, ◌<◌, ◌≤◌, refl, ap, subst, length, arith}
use Rattle.st_ilcheck.specs.declared.breach.IlFault.TheVariants as fault
use Rattle.st_ilcheck.specs.Typed.{IsTypeBreach}
use Rattle.st_ilcheck.proofs.SyntaxLemmas.{read-there}
use Rattle.st_ilcheck.proofs.DeclaredLemmas.{declared-none, declared-more}
use Rattle.st_ilcheck.proofs.TypedLemmas.{told-start, told-next, told-breach, told-end}
use Rattle.st_ilcheck.proofs.breach.first_breach.Goals as goal

pub loop-at-init : goal.loop-at-init
loop-at-init c = (told-start c.args.il.now c.args.il.now.defs, declared-none c.nothing_declared-before.result c.nothing_declared-before.ensures)

pub broken_at-requires-clause-within : goal.broken_at-requires-clause-within
broken_at-requires-clause-within c = let h = c.loop-at-test.true in let s = ap length c.as_slice-defs.ensures in omega (arith, h, s)

pub broken_at-requires-clause-before : goal.broken_at-requires-clause-before
broken_at-requires-clause-before c = c.loop-at.invariant.1

pub returns-in-Some-clause-refused : goal.returns-in-Some-clause-refused
returns-in-Some-clause-refused c = λ place rule e.
    let h = c.loop-at-test.true in
    let s = ap length c.as_slice-defs.ensures in
    let within : c.loop-at.at < length c.args.il.now.defs = omega (arith, h, s) in
    let breach = told-breach c.args.il.now c.args.il.now.defs c.loop-at.at c.loop-at.invariant.0 within c.in_ok-broken.broken c.in_ok-broken.ensures c.in-Some.rule c.in-Some.ensures in
    let same : fault.Refused c.loop-at.at c.in-Some.rule ≡ fault.Refused place rule = cc in
    let one : c.loop-at.at ≡ place = cc in
    let two : c.in-Some.rule ≡ rule = cc in
    subst (λ p. IsTypeBreach c.args.il.now p rule) one (subst (λ r. IsTypeBreach c.args.il.now c.loop-at.at r) two breach)

pub loop-at-preserved : goal.loop-at-preserved
loop-at-preserved c =
    let h = c.loop-at-test.true in
    let s = ap length c.as_slice-defs.ensures in
    let within : c.loop-at.at < length c.args.il.now.defs = omega (arith, h, s) in
    let there = read-there c.args.il.now.defs c.as_slice-defs.result.now c.loop-at.at c.index-defs-at.result c.index-defs-at.result c.as_slice-defs.ensures within c.index-defs-at.is refl in (
      told-next c.args.il.now c.args.il.now.defs c.loop-at.at c.loop-at.invariant.0 within c.in_ok-broken.broken c.in_ok-broken.ensures c.in-None.ensures,
      declared-more c.args.il.now.defs c.loop-at.at c.index-defs-at.result c.loop-at.before c.in_ok-longer.longer there c.in_ok-longer.ensures c.loop-at.invariant.1,
    )

pub returns-clause-ok : goal.returns-clause-ok
returns-clause-ok c =
    let h = c.loop-at-test.false in
    let s = ap length c.as_slice-defs.ensures in
    let end : length c.args.il.now.defs ≤ c.loop-at.at = omega (arith, h, s) in
    told-end c.args.il.now c.args.il.now.defs c.loop-at.at c.loop-at.invariant.0 end
