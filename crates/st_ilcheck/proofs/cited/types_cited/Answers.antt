use Rattle.std.proofs.Common.{refl, ap, ◌∙◌, ◌++◌, List}
use Rattle.st_il.specs.declared.ty.Ty.{Ty}
use Rattle.st_type_table.specs.Leads.{names_in}
use Rattle.st_ilcheck.specs.Declarations.{types_cited}
use Rattle.st_ilcheck.proofs.Walks.{walk-next, walk-end}
use Rattle.st_ilcheck.proofs.cited.types_cited.Goals as goal

pub loop-ty-preserved : goal.loop-ty-preserved
loop-ty-preserved c =
    walk-next (λ (ts : List Ty). types_cited ts) (λ (t : Ty). names_in t) c.args.tys.now c.loop-ty.ty-index (λ x rest. refl) c.ty-item.result c.loop-ty.names c.in_ok-longer.longer c.loop-ty-test.true c.ty-item.is
    (c.in_ok-longer.ensures ∙ ap (λ z. c.loop-ty.names ++ z) c.in_ok-more.ensures) c.loop-ty.invariant

pub returns : goal.returns
returns c = walk-end (λ (ts : List Ty). types_cited ts) (λ (t : Ty). names_in t) c.args.tys.now c.loop-ty.ty-index refl c.loop-ty.names c.loop-ty-test.false c.loop-ty.invariant
