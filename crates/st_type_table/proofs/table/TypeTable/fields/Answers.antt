use Rattle.std.proofs.Common.{◌≡◌, subst, List, ℕ}
use Rattle.std.specs.Prelude.{MatchOption}
use Rattle.st_il.specs.declared.ty.Ty.{Ty}
use Rattle.st_type_table.specs.Cases.{HasFields}
use Rattle.st_type_table.proofs.CasesLemmas.{match_none, match_some, HasFields-single}
use Rattle.st_type_table.proofs.table.TypeTable.fields.Goals as goal

pub returns-clause-none : goal.returns-clause-none
returns-clause-none c = match_none ((xs : List (List ℕ × Ty)) → HasFields c.args.self.now c.args.ty.now xs → ⊥) (λ x. HasFields c.args.self.now c.args.ty.now x.now) c.fields_of.result
    (subst (λ d. MatchOption c.fields_of.result ((xs : List (List ℕ × Ty)) → HasFields d c.args.ty.now xs → ⊥) (λ x. HasFields d c.args.ty.now x.now)) c.self.view_is c.fields_of.ensures)

pub returns-clause-one : goal.returns-clause-one
returns-clause-one c = match_some ((xs : List (List ℕ × Ty)) → HasFields c.args.self.now c.args.ty.now xs → ⊥) (λ x. HasFields c.args.self.now c.args.ty.now x.now)
    (λ x. (others : List (List ℕ × Ty)) → HasFields c.args.self.now c.args.ty.now others → others ≡ x.now) c.fields_of.result
    (subst (λ d. MatchOption c.fields_of.result ((xs : List (List ℕ × Ty)) → HasFields d c.args.ty.now xs → ⊥) (λ x. HasFields d c.args.ty.now x.now)) c.self.view_is c.fields_of.ensures)
    (λ x h others o. HasFields-single c.args.self.now c.args.ty.now others x.now o h)
