use Rattle.std.proofs.Common.{ap, ◌∙◌}
use Rattle.st_type_table.specs.Cases.{operands_of}
use Rattle.st_type_table.proofs.HasTypeLemmas.{operands-found}
use Rattle.st_types.proofs.typing.operands.Goals as goal

pub returns-in-Some : goal.returns-in-Some
returns-in-Some c = operands-found _ c.args.ty.now c.args.tag.now c.in-Some.cases.now c.operands_of.result c.in-Some.ensures.some
    (c.operands_of.ensures ∙ ap (λ cs. operands_of cs c.args.tag.now) c.as_slice.ensures)

pub returns-in-None : goal.returns-in-None
returns-in-None c = λ operands h. c.in-None.ensures.none h.cases h.has
