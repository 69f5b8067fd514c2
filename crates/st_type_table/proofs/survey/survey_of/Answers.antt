use Rattle.std.proofs.Common.{sym, ◌∙◌, subst}
use Rattle.st_type_table.specs.inner.Components.{StaysWithin}
use Rattle.st_type_table.proofs.ComponentsLemmas.{graph-within}
use Rattle.st_type_table.proofs.survey.survey_of.Goals as goal

pub component_numbers-requires : goal.component_numbers-requires
component_numbers-requires c = subst StaysWithin (sym (c.as_slice.ensures ∙ c.in_ok-graph.ensures)) (graph-within c.args.defs.now)
