use Rattle.std.proofs.Common.{sym, ap, ◌∙◌, take}
use Rattle.st_il.specs.declared.definition.SyntaxDef.{SyntaxDef}
use Rattle.st_type_table.specs.inner.Graph.{position_of}
use Rattle.st_type_table.proofs.PartLemmas.{same-item, position-here, position-front}
use Rattle.st_type_table.proofs.parts.check_parts.Goals as goal

pub check_again-requires-clause-first : goal.check_again-requires-clause-first
check_again-requires-clause-first c = λ d there.
    let same = same-item c.args.defs.now c.args.at c.nth-def.result.now d c.nth-def.ensures there in
    position-front c.args.defs.now c.args.at d.name c.in-Some.first
    (ap (λ (z : SyntaxDef). position_of (take c.args.at c.args.defs.now) z.name) (sym same) ∙ sym c.in-Some.ensures)

pub check_first-requires-clause-first : goal.check_first-requires-clause-first
check_first-requires-clause-first c = λ d there.
    let same = same-item c.args.defs.now c.args.at c.nth-def.result.now d c.nth-def.ensures there in
    position-here c.args.defs.now c.args.at d there
    (ap (λ (z : SyntaxDef). position_of (take c.args.at c.args.defs.now) z.name) (sym same) ∙ sym c.in-None.ensures)
