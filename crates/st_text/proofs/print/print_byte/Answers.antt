use Rattle.std.proofs.Common.{[], ◌∷◌, ◌∙◌}
use Rattle.st_text.proofs.CutOff.{OnErr-any, cut_off_here, escaped-letter}
use Rattle.st_text.proofs.print.print_byte.Goals as goal

pub returns-in_err-push-3-clause-err : goal.returns-in_err-push-3-clause-err
returns-in_err-push-3-clause-err c =
    OnErr-any _ _ (cut_off_here _ _ _ (92 ∷ []) _ (c.in_err-push-3.ensures.items ∙ c.in_ok-push-2.ensures.items)
    (escaped-letter c.args.byte (λ e. c.if-letter-eq0.false (c.escape_letter-letter.ensures ∙ e))))
