use Rattle.std.proofs.Common.{◌∙◌, subst}
use Rattle.st_type_table.specs.inner.Graph.{AreRanks}
use Rattle.st_any_table.proofs.survey.survey_of.Goals as goal

pub returns-clause-right : goal.returns-clause-right
returns-clause-right c = record {
  heads = subst (λ g. AreRanks g c.in_ok-heads.heads) (c.as_slice.ensures ∙ c.in_ok-graph.ensures) c.in_ok-heads.ensures;
  joins = subst (λ g. AreRanks g c.in_ok-joins.joins) (c.as_slice-2.ensures ∙ c.in_ok-waits.ensures) c.in_ok-joins.ensures;
  flats = c.in_ok-cases.ensures.flats;
  filled = c.in_ok-cases.ensures.filled;
}
