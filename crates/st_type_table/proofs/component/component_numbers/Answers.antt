use Rattle.std.proofs.Common.{sym, ◌∙◌, subst, ℕ, List}
use Rattle.st_graph.specs.Graph.{IsWithin, IsNumbering}
use Rattle.st_type_table.specs.inner.Components.{AreComponents}
use Rattle.st_type_table.proofs.ComponentsLemmas.{rows-within, rows-components}
use Rattle.st_type_table.proofs.component.component_numbers.Goals as goal

pub numbering-requires : goal.numbering-requires
numbering-requires c =
    record { graph = subst IsWithin (sym (c.as_slice.ensures ∙ c.in_ok-rows.ensures)) (rows-within c.args.graph.now c.requires) }

pub returns : goal.returns
returns c =
    subst (AreComponents c.args.graph.now) (sym c.from_vec.ensures)
    (rows-components c.args.graph.now _ _
    (subst (λ (rows : List (List ℕ)). IsNumbering rows c.in_ok-components.components.numbers.items c.in_ok-components.components.count) (c.as_slice.ensures ∙ c.in_ok-rows.ensures) c.in_ok-components.ensures))
