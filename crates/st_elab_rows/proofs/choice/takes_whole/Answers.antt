use Rattle.std.proofs.Common.{◌≡◌, ◌∙◌, subst}
use Rattle.std.specs.Prelude.{IfSome}
use Rattle.st_il.specs.declared.template.Template.{out-Template}
use Rattle.st_il.specs.Template.{HasTag}
use Rattle.st_il.proofs.Tags.{one_template}
use Rattle.st_elab_table.specs.Choice.{takes_whole_at}
use Rattle.st_elab_rows.proofs.choice.takes_whole.Goals as goal

pub returns-in-Some : goal.returns-in-Some
returns-in-Some c = λ t h.
    let tag = c.args.case.now.tag in
    let tagged : HasTag c.in-Some.template tag = subst (λ z. IfSome z (λ u. HasTag u tag)) c.in-Some.is c.in_ok-template.ensures.some in
    let same : c.in-Some.template ≡ t = one_template tag c.in-Some.template t tagged h in
    c.takes_whole_at.ensures ∙ (λ i. takes_whole_at (out-Template (same i)) (c.is_single.ensures i))
