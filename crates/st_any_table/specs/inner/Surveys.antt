-- What a table of any syntaxes keeps.
use Rattle.st_type_table.specs.inner.Graph.{AreRanks}
use Rattle.st_type_table.specs.inner.JoinGraph.{join_graph}
use Rattle.st_any_table.specs.declared.survey.Survey.{Survey}
use Rattle.st_any_table.specs.inner.Heads.{head_graph}
use Rattle.st_any_table.specs.inner.Flats.{AreFlats, AreFilled}

-- what was found out about the definitions is right
pub record IsSurvey (s : Survey) : Type 0 where
  pub heads : AreRanks (head_graph s.defs) s.heads
  pub joins : AreRanks (join_graph s.defs) s.joins
  pub flats : AreFlats s.defs s.flats s.cases
  pub filled : AreFilled s.defs s.flats
