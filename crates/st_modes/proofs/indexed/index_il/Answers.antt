use Rattle.std.proofs.Common.{ap, ◌∙◌, filter, not, is_some}
use Rattle.st_il.specs.declared.definition.FunDef.{FunDef}
use Rattle.st_order.specs.Known.{all_now, at}
use Rattle.st_modes.proofs.IsIndexed.{is_indexed, lacks_as}
use Rattle.st_modes.proofs.indexed.index_il.Goals as goal

pub returns : goal.returns
returns c = (
  is_indexed c.args.il.now _ c.in_ok-directions.ensures.0 c.in_ok-directions.ensures.1 c.in_ok-citations.ensures
      (c.in_ok-lacking.ensures ∙ ap (λ z. filter (λ (f : FunDef). not (is_some (at c.in_ok-citations.citations.calls.entries f.name))) (all_now z)) c.as_slice.ensures)
      (lacks_as c.as_slice-2.result.now c.args.il.now.defs c.as_slice-3.result.now c.in_ok-lacking.lacking c.in_ok-lacks.lacks.entries c.as_slice-2.ensures c.as_slice-3.ensures c.in_ok-lacks.ensures) c.requires,
  c.in_ok-directions.ensures.1,
)
