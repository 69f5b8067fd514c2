use Rattle.std.proofs.Common.{subst, sym, true≢false, ◌∙◌}
use Rattle.std.specs.Prelude.{IfSome, IfNone, Contains}
use Rattle.st_il.specs.Small.{IsSmallIl}
use Rattle.st_ilcheck.specs.Typed.{Typed}
use Rattle.st_iltext.specs.IlText.{IlText}
use Rattle.st_answers.specs.inner.Checks.{TakenTo, HasNoLines}
use Rattle.st_answers.proofs.Verifications.{verify_answer, no_small, no_derivation}
use Rattle.st_verify.specs.Verifier.{Checking}
use Rattle.st_answers.proofs.verification.judge_files.Goals as goal

pub returns-then-not-branch : goal.returns-then-not-branch
returns-then-not-branch c = λ bytes text.
    no_small bytes c.args.derivation.now c.args.il c.unbuilt.result text c.requires.typed
    (λ small. true≢false (sym (c.in_ok-is_small_il.ensures.1 small) ∙ c.if-not-branch.true)) c.unbuilt.ensures

pub new-requires : goal.new-requires
new-requires c = c.in_ok-is_small_il.ensures.0 c.if-not-branch.false

pub returns-in_default-2 : goal.returns-in_default-2
returns-in_default-2 c = λ bytes text.
    no_derivation bytes c.args.derivation.now c.args.il c.unbuilt-in_default-2.result text c.requires.typed
    (subst (λ taken. IfNone taken (HasNoLines c.args.derivation.now)) c.in_default-2.is c.in_ok-rest.ensures.none) c.unbuilt-in_default-2.ensures

pub returns : goal.returns
returns c = λ bytes text.
    let il = c.in-Ok.verifier.il in
    let (taken, ends) = subst (λ taken. IfSome taken (λ rest. TakenTo il c.args.derivation.now c.take_lines.new.verifier rest.now × (Contains rest.now 10 → ⊥))) c.in-Some.is c.in_ok-rest.ensures.some in
    let same_text = subst (λ (v : Checking). IlText v.il bytes) (sym c.in-Ok.ensures) text in
    let typed = subst (λ (v : Checking). Typed v.il) (sym c.in-Ok.ensures) c.requires.typed in
    let small = subst (λ (v : Checking). IsSmallIl v.il) (sym c.in-Ok.ensures) (c.in_ok-is_small_il.ensures.0 c.if-not-branch.false) in
    verify_answer bytes c.args.derivation.now c.in-Some.rest.now il c.take_lines.new.verifier c.finished.result c.verdict_answer.result
    same_text typed small taken ends c.finished.ensures c.verdict_answer.ensures
