use Rattle.std.proofs.Common.{refl, ap, ◌∙◌, ◌++◌, List}
use Rattle.st_il.specs.declared.definition.Listed.{Listed}
use Rattle.st_type_table.specs.Leads.{names_in}
use Rattle.st_ilcheck.specs.Declarations.{types_cited, listed_types}
use Rattle.st_ilcheck.proofs.Walks.{walk-next, walk-end}
use Rattle.st_ilcheck.proofs.cited.listed_cited.Goals as goal

pub loop-variable-preserved : goal.loop-variable-preserved
loop-variable-preserved c =
    walk-next (λ (ls : List Listed). types_cited (listed_types ls)) (λ (l : Listed). names_in l.ty) c.args.listed.now c.loop-variable.variable-index (λ x rest. refl) c.variable-item.result c.loop-variable.names c.in_ok-longer.longer c.loop-variable-test.true c.variable-item.is
    (c.in_ok-longer.ensures ∙ ap (λ z. c.loop-variable.names ++ z) c.in_ok-more.ensures) c.loop-variable.invariant

pub returns : goal.returns
returns c = walk-end (λ (ls : List Listed). types_cited (listed_types ls)) (λ (l : Listed). names_in l.ty) c.args.listed.now c.loop-variable.variable-index refl c.loop-variable.names c.loop-variable-test.false c.loop-variable.invariant
