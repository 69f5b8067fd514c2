use Rattle.std.proofs.Common.{◌≡◌, subst, ℕ, List}
use Rattle.std.specs.Prelude.{MatchOption}
use Rattle.st_il.specs.declared.ty.Ty.{Ty}
use Rattle.st_type_table.specs.Cases.{HasFields}
use Rattle.st_il.specs.Definitions.{syntaxes}
use Rattle.st_ilcheck.proofs.language.Language.fields.Goals as goal

pub returns : goal.returns
returns c = let same : c.self.inside.table.now ≡ syntaxes c.args.self.now = cc in subst (λ z. MatchOption c.fields.result ((fields : List (List ℕ × Ty)) → HasFields z c.args.ty.now fields → ⊥) (λ fields. HasFields z c.args.ty.now fields.now)) same c.fields.ensures
