use Rattle.std.proofs.Common.{◌≡◌, subst, List}
use Rattle.std.specs.Prelude.{MatchOption}
use Rattle.st_type_table.specs.declared.entry.CaseDef.{CaseDef}
use Rattle.st_type_table.specs.Cases.{HasCases}
use Rattle.st_type_table.proofs.CasesLemmas.{match_none, match_some, HasCases-single}
use Rattle.st_type_table.proofs.table.TypeTable.cases.Goals as goal

pub returns-clause-none : goal.returns-clause-none
returns-clause-none c = match_none ((xs : List CaseDef) → HasCases c.args.self.now c.args.ty.now xs → ⊥) (λ x. HasCases c.args.self.now c.args.ty.now x.now) c.cases_of.result
    (subst (λ d. MatchOption c.cases_of.result ((xs : List CaseDef) → HasCases d c.args.ty.now xs → ⊥) (λ x. HasCases d c.args.ty.now x.now)) c.self.view_is c.cases_of.ensures)

pub returns-clause-one : goal.returns-clause-one
returns-clause-one c = match_some ((xs : List CaseDef) → HasCases c.args.self.now c.args.ty.now xs → ⊥) (λ x. HasCases c.args.self.now c.args.ty.now x.now)
    (λ x. (others : List CaseDef) → HasCases c.args.self.now c.args.ty.now others → others ≡ x.now) c.cases_of.result
    (subst (λ d. MatchOption c.cases_of.result ((xs : List CaseDef) → HasCases d c.args.ty.now xs → ⊥) (λ x. HasCases d c.args.ty.now x.now)) c.self.view_is c.cases_of.ensures)
    (λ x h others o. HasCases-single c.args.self.now c.args.ty.now others x.now o h)
