use Rattle.std.proofs.Common.{◌++◌, ap, ◌∙◌}
use Rattle.st_elab_sig.specs.inner.Words.{words_in, trailed}
use Rattle.st_elab_sig.proofs.Spacing.{last_off}
use Rattle.st_elab_sig.proofs.signature.tag_of.Goals as goal

pub returns : goal.returns
returns c =
    let words = words_in c.args.notation.now in
    last_off words c.push_words.new.tag c.pop-last.new.self c.pop-last.result
    (c.in_ok-push_words.ensures ∙ ap (λ old. old ++ trailed words) c.new-tag.ensures) c.pop-last.ensures
