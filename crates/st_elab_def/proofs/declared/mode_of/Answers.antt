use Rattle.std.proofs.Common.{◌≡◌, sym, ap, ◌∙◌, subst, map}
use Rattle.std.specs.Prelude.{IfOk}
use Rattle.st_num.specs.declared.token.Token.{Token}
use Rattle.st_elab_def.specs.DeclsOf.{is_input_kind}
use Rattle.st_elab_def.proofs.DeclaredLists.{mode-first}
use Rattle.st_elab_def.proofs.declared.mode_of.Goals as goal

pub returns-then-is_mode : goal.returns-then-is_mode
returns-then-is_mode c =
    subst (λ z. IfOk c.inputs_of.result (λ mode. mode ≡ z))
    (ap (map (λ (word : Token). is_input_kind word.kind)) c.as_slice.ensures
    ∙ mode-first c.args.hints.now c.loop-hint.hint-index c.hint-item.result c.loop-hint-test.true c.hint-item.is c.loop-hint.invariant (sym c.is_mode.ensures ∙ c.if-is_mode.true))
    c.inputs_of.ensures
