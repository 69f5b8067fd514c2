-- Evaluation is stable in its depth.
use Rattle.st_semantics.specs.Laws.{LawOfDepths}
use Rattle.st_semantics.proofs.CanRun.{clauses_can_be_run}
use Rattle.st_semantics.proofs.Clauses.{value_stable, deep_below}

pub law_of_depths : LawOfDepths
law_of_depths il keep kinds = (value_stable il (clauses_can_be_run il keep kinds), deep_below il (clauses_can_be_run il keep kinds))
