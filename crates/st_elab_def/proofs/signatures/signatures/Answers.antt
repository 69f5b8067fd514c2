use Rattle.std.proofs.Common.{rules, refl, take, drop, ◌+◌}
use Rattle.st_elab_def.specs.Phases.{on_signature}
use Rattle.st_elab_def.specs.inner.Walk.{standing}
use Rattle.st_elab_def.proofs.ChecksAll.{phase-stop, phase-next}
use Rattle.st_elab_def.proofs.Leaves.{Leaves-start, Leaves-end}
use Rattle.st_elab_def.proofs.signatures.signatures.Goals as goal

pub loop-i-init : goal.loop-i-init
loop-i-init c = λ D k. Leaves-start D on_signature c.args.defs.now

pub returns-in_err-numbered : goal.returns-in_err-numbered
returns-in_err-numbered c = λ D k.
    let defs = c.args.defs.now in
    let def = c.index-defs-i.result in
    phase-stop D on_signature defs c.loop-i.i def c.loop-i-test.true c.index-defs-i.is (c.loop-i.invariant D k)
    c.check_signature.result c.numbered.result c.from_residual.result c.in_err-numbered.field-0.0 c.numbered.ensures c.in_err-numbered.was (search rules)
    (c.check_signature.ensures D (standing (take c.loop-i.i defs) def (drop (c.loop-i.i + 1) defs)) k refl)

pub loop-i-preserved : goal.loop-i-preserved
loop-i-preserved c = λ D k.
    let defs = c.args.defs.now in
    let def = c.index-defs-i.result in
    phase-next D on_signature defs c.loop-i.i def c.loop-i-test.true c.index-defs-i.is (c.loop-i.invariant D k)
    c.check_signature.result c.numbered.result c.in_ok-numbered.field-0 c.numbered.ensures c.in_ok-numbered.was
    (c.check_signature.ensures D (standing (take c.loop-i.i defs) def (drop (c.loop-i.i + 1) defs)) k refl)

pub returns : goal.returns
returns c = λ D k. Leaves-end D on_signature c.args.defs.now c.loop-i.i c.loop-i-test.false (c.loop-i.invariant D k)
