use Rattle.st_elab_typed.proofs.Table.{Answered-checked, Answered-inferred, ListingKeepsTypes-holds}
use Rattle.st_elab_typed.proofs.laws.elaborated_expressions_are_typed.Goals as goal

pub returns-clause-checked : goal.returns-clause-checked
returns-clause-checked c = λ il D S declared sound w at p e t m h ls ok k. Answered-checked il D S declared sound w at p e t m h ls ok k

pub returns-clause-inferred : goal.returns-clause-inferred
returns-clause-inferred c = λ il D S declared sound w at e m h ls ok k. Answered-inferred il D S declared sound w at e m h ls ok k

pub returns-clause-listing : goal.returns-clause-listing
returns-clause-listing c = ListingKeepsTypes-holds
