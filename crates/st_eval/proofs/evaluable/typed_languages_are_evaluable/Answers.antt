use Rattle.std.proofs.Common.{refl}
use Rattle.st_eval.proofs.IsFormedLemmas.{IsFormed-typed}
use Rattle.st_eval.proofs.TypedClauses.{IsEvaluable-typed}
use Rattle.st_eval.proofs.evaluable.typed_languages_are_evaluable.Goals as goal

pub returns-clause-languages : goal.returns-clause-languages
returns-clause-languages c = IsEvaluable-typed

pub returns-clause-expressions : goal.returns-clause-expressions
returns-clause-expressions c il ls e t h = IsFormed-typed il h refl
