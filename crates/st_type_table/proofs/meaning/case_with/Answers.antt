use Rattle.std.proofs.Common.{sym, subst}
use Rattle.std.specs.Prelude.{MatchOption}
use Rattle.st_il.specs.Key.{plain}
use Rattle.st_type_table.specs.Keys.{KeysDiffer, NoneHasKey, IsFirstWith}
use Rattle.st_type_table.specs.inner.Kept.{defs_of}
use Rattle.st_type_table.specs.inner.KeyIndexes.{IsKeyIndex}
use Rattle.st_type_table.proofs.CasesLemmas.{CaseWith-found}
use Rattle.st_type_table.proofs.meaning.case_with.Goals as goal

pub first_with-requires-clause-differ : goal.first_with-requires-clause-differ
first_with-requires-clause-differ c = subst KeysDiffer (sym c.as_slice.ensures) c.in-Some.ensures.differ

pub first_with-requires-clause-index : goal.first_with-requires-clause-index
first_with-requires-clause-index c = subst (λ cs. IsKeyIndex cs c.in-Some.entry.now.index) (sym c.as_slice.ensures) c.in-Some.ensures.indexed

pub returns-in-Some : goal.returns-in-Some
returns-in-Some c = CaseWith-found (defs_of c.args.entries.now.entries) c.args.ty.now (plain c.args.key.now) c.in-Some.entry.now.cases c.first_with.result c.in-Some.ensures.has
    (subst (λ cs. MatchOption c.first_with.result (NoneHasKey (plain c.args.key.now) cs) (λ d. IsFirstWith (plain c.args.key.now) cs d.now)) c.as_slice.ensures c.first_with.ensures)

pub returns-in-None : goal.returns-in-None
returns-in-None c = λ cs h. absurd (c.in-None.ensures cs h)
