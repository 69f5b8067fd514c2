use Rattle.std.proofs.Common.{ap, ◌∙◌}
use Rattle.st_il.specs.Tags.{template_of}
use Rattle.st_il.proofs.Tags.{one_template}
use Rattle.st_il.proofs.TagTemplates.{template-told}
use Rattle.st_il.proofs.reading.template_of.Goals as goal

pub returns-in_err-found-clause-one : goal.returns-in_err-found-clause-one
returns-in_err-found-clause-one c = one_template c.args.tag.now

pub returns-clause-one : goal.returns-clause-one
returns-clause-one c = one_template c.args.tag.now

pub returns-clause-gives : goal.returns-clause-gives
returns-clause-gives c =
    template-told c.in_ok-found.found c.as_slice.result.now c.in_ok-found.ensures.some c.in_ok-found.ensures.none (one_template c.as_slice.result.now)
    ∙ ap template_of c.as_slice.ensures
