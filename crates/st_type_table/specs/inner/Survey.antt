-- What is known of all definitions together, before their conditions are asked.
use Rattle.std.specs.Prelude.{◌≡◌, List, length}
use Rattle.st_il.specs.declared.definition.SyntaxDef.{SyntaxDef}
use Rattle.st_type_table.specs.declared.survey.Survey.{Survey}
use Rattle.st_type_table.specs.inner.Graph.{graph_of, AreRanks}
use Rattle.st_type_table.specs.inner.Components.{AreComponents}
use Rattle.st_type_table.specs.inner.Flat.{AreFlats, AllReached}

-- the survey is right of these definitions
pub record IsSurvey (defs : List SyntaxDef) (s : Survey) : Type 0 where
  pub graph : s.graph ≡ graph_of defs
  pub components : AreComponents (graph_of defs) s.numbers
  pub ranked : AreRanks (graph_of defs) s.ranks
  pub flat : AreFlats defs s.ranks (length defs) s.flats
  pub reached : AllReached defs s.flats
