use Rattle.std.proofs.Common.{refl, [], ◌∷◌}
use Rattle.st_il.specs.declared.definition.IlDef.{IlDef}
use Rattle.st_il.specs.Definitions.{syntaxes_in}
use Rattle.st_ilcheck.proofs.SyntaxLemmas.{syntaxes-step}
use Rattle.st_ilcheck.proofs.Walks.{walk-next, walk-end}
use Rattle.st_ilcheck.proofs.declarations.syntaxes_in.Goals as goal

pub loop-def-preserved : goal.loop-def-preserved
loop-def-preserved c =
    walk-next syntaxes_in (λ (x : IlDef). syntaxes_in (x ∷ [])) c.args.defs.now c.loop-def.def-index syntaxes-step c.def-item.result c.loop-def.found c.in_ok-longer.longer c.loop-def-test.true c.def-item.is
    c.in_ok-longer.ensures c.loop-def.invariant

pub returns : goal.returns
returns c = walk-end syntaxes_in (λ (x : IlDef). syntaxes_in (x ∷ [])) c.args.defs.now c.loop-def.def-index refl c.loop-def.found c.loop-def-test.false c.loop-def.invariant
