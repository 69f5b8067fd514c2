use Rattle.std.proofs.Common.{◌≡◌, ◌↔◌, subst}
use Rattle.std.specs.Prelude.{IsTrue, IfOk}
use Rattle.st_type_table.specs.Sub.{Sub}
use Rattle.st_il.specs.Definitions.{syntaxes}
use Rattle.st_ilcheck.proofs.language.Language.is_sub.Goals as goal

pub returns : goal.returns
returns c = let same : c.self.inside.table.now ≡ syntaxes c.args.self.now = cc in subst (λ z. IfOk c.is_sub.result (λ yes. IsTrue yes ↔ Sub z c.args.lower.now c.args.upper.now)) same c.is_sub.ensures
