use Rattle.std.proofs.Common.{subst, List}
use Rattle.std.specs.Prelude.{MatchOption}
use Rattle.st_il.specs.Key.{plain}
use Rattle.st_type_table.specs.declared.entry.CaseDef.{CaseDef}
use Rattle.st_type_table.specs.Cases.{HasCases}
use Rattle.st_type_table.specs.Keys.{NoneHasKey, IsCaseWith}
use Rattle.st_type_table.proofs.CasesLemmas.{match_none, match_some}
use Rattle.st_type_table.proofs.table.TypeTable.case_with.Goals as goal

pub returns-clause-some : goal.returns-clause-some
returns-clause-some c = match_some ((xs : List CaseDef) → HasCases c.args.self.now c.args.ty.now xs → NoneHasKey (plain c.args.key.now) xs) (λ x. IsCaseWith c.args.self.now c.args.ty.now (plain c.args.key.now) x.now)
    (λ x. IsCaseWith c.args.self.now c.args.ty.now (plain c.args.key.now) x.now) c.case_with.result
    (subst (λ d. MatchOption c.case_with.result ((xs : List CaseDef) → HasCases d c.args.ty.now xs → NoneHasKey (plain c.args.key.now) xs) (λ x. IsCaseWith d c.args.ty.now (plain c.args.key.now) x.now)) c.self.view_is c.case_with.ensures)
    (λ x h. h)

pub returns-clause-none : goal.returns-clause-none
returns-clause-none c = match_none ((xs : List CaseDef) → HasCases c.args.self.now c.args.ty.now xs → NoneHasKey (plain c.args.key.now) xs) (λ x. IsCaseWith c.args.self.now c.args.ty.now (plain c.args.key.now) x.now)
    c.case_with.result
    (subst (λ d. MatchOption c.case_with.result ((xs : List CaseDef) → HasCases d c.args.ty.now xs → NoneHasKey (plain c.args.key.now) xs) (λ x. IsCaseWith d c.args.ty.now (plain c.args.key.now) x.now)) c.self.view_is c.case_with.ensures)
