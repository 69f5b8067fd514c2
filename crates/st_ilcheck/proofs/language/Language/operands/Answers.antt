use Rattle.std.proofs.Common.{◌≡◌, subst, List}
use Rattle.std.specs.Prelude.{MatchOption}
use Rattle.st_il.specs.declared.ty.Ty.{Ty}
use Rattle.st_type_table.specs.inner.TypedLevels.{HasOperands}
use Rattle.st_il.specs.Definitions.{syntaxes}
use Rattle.st_ilcheck.proofs.language.Language.operands.Goals as goal

pub returns : goal.returns
returns c = let same : c.self.inside.table.now ≡ syntaxes c.args.self.now = cc in subst (λ z. MatchOption c.operands.result ((operands : List Ty) → HasOperands z c.args.ty.now c.args.tag.now operands → ⊥) (λ operands. HasOperands z c.args.ty.now c.args.tag.now operands.now)) same c.operands.ensures
