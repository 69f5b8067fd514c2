use Rattle.std.proofs.Common.{◌≡◌, ◌↔◌, subst}
use Rattle.std.specs.Prelude.{IsTrue, IfOk}
use Rattle.st_type_table.specs.Same.{Same}
use Rattle.st_il.specs.Definitions.{syntaxes}
use Rattle.st_ilcheck.proofs.language.Language.same.Goals as goal

pub returns : goal.returns
returns c = let same : c.self.inside.table.now ≡ syntaxes c.args.self.now = cc in subst (λ z. IfOk c.same.result (λ yes. IsTrue yes ↔ Same z c.args.a.now c.args.b.now)) same c.same.ensures
