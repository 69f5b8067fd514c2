use Rattle.std.proofs.Common.{◌≡◌, ◌↔◌, subst}
use Rattle.std.specs.Prelude.{IsTrue}
use Rattle.st_type_table.specs.Joins.{Joins}
use Rattle.st_il.specs.Definitions.{syntaxes}
use Rattle.st_ilcheck.proofs.language.Language.joins.Goals as goal

pub returns : goal.returns
returns c = let same : c.self.inside.table.now ≡ syntaxes c.args.self.now = cc in subst (λ z. IsTrue c.joinable.result ↔ Joins z c.args.ty.now) same c.joinable.ensures
