use Rattle.std.proofs.Common.{◌↔◌, subst}
use Rattle.std.specs.Prelude.{IsTrue, IfOk}
use Rattle.st_type_table.specs.Sub.{Sub}
use Rattle.st_any_table.proofs.table.AnyTable.is_sub.Goals as goal

pub returns : goal.returns
returns c = subst (λ d. IfOk c.is_below.result (λ yes. IsTrue yes ↔ Sub d c.args.lower.now c.args.upper.now)) c.self.view_is c.is_below.ensures
