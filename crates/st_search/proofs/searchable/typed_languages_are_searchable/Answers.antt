use Rattle.st_search.proofs.TypedRules.{IsSearchable-typed, conclusions_typed}
use Rattle.st_search.proofs.searchable.typed_languages_are_searchable.Goals as goal

pub returns-clause-languages : goal.returns-clause-languages
returns-clause-languages c il modes algos typed proper keep few are_modes lowered = IsSearchable-typed il typed proper keep few modes algos are_modes lowered

pub returns-clause-conclusions : goal.returns-clause-conclusions
returns-clause-conclusions c = conclusions_typed
