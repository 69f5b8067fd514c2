use Rattle.std.proofs.Common.{◌↔◌, subst}
use Rattle.std.specs.Prelude.{IsTrue, IfOk}
use Rattle.st_type_table.specs.Same.{Same}
use Rattle.st_any_table.proofs.table.AnyTable.same.Goals as goal

pub returns : goal.returns
returns c = subst (λ d. IfOk c.are_equal.result (λ yes. IsTrue yes ↔ Same d c.args.a.now c.args.b.now)) c.self.view_is c.are_equal.ensures
