use Rattle.std.proofs.Common.{◌↔◌, sym, subst}
use Rattle.std.specs.Prelude.{IsTrue}
use Rattle.st_type_table.specs.Joins.{Joins}
use Rattle.st_type_table.specs.inner.JoinGraph.{join_graph}
use Rattle.st_type_table.specs.inner.Graph.{AreRanks}
use Rattle.st_any_table.specs.inner.Heads.{head_graph}
use Rattle.st_any_table.proofs.table.AnyTable.joinable.Goals as goal

pub joins-requires-clause-heads : goal.joins-requires-clause-heads
joins-requires-clause-heads c = subst (AreRanks (head_graph c.self.inside.survey.defs)) (sym c.as_slice-heads.ensures) c.self.invariant.heads

pub joins-requires-clause-joins : goal.joins-requires-clause-joins
joins-requires-clause-joins c = subst (AreRanks (join_graph c.self.inside.survey.defs)) (sym c.as_slice-ranks.ensures) c.self.invariant.joins

pub returns : goal.returns
returns c = subst (λ d. IsTrue c.joins.result ↔ Joins d c.args.ty.now) c.self.view_is c.joins.ensures
