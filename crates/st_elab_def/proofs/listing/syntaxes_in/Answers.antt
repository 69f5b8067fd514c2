use Rattle.std.proofs.Common.{sym, ap, ◌∙◌, take, [], ◌∷◌, ◌++◌}
use Rattle.st_dims.proofs.Lists.{next_taken}
use Rattle.st_elab_law.specs.Agreement.{syntaxes}
use Rattle.st_elab_def.proofs.DeclaredLists.{syntaxes-append}
use Rattle.st_elab_def.proofs.listing.syntaxes_in.Goals as goal

pub loop-def-preserved : goal.loop-def-preserved
loop-def-preserved c =
    let defs = c.args.defs.now in
    c.in_ok-push_syntax.ensures ∙ ap (λ out. out ++ syntaxes (c.def-item.result ∷ [])) c.loop-def.invariant
    ∙ sym (syntaxes-append (take c.loop-def.def-index defs) (c.def-item.result ∷ []))
    ∙ ap syntaxes (sym (next_taken defs c.loop-def.def-index c.def-item.result c.loop-def-test.true c.def-item.is))
