use Rattle.std.proofs.Common.{sym, ap, ◌∙◌, ◌-◌, length, arith}
use Rattle.st_ilcheck.specs.Rules.{before_last}
use Rattle.st_ilcheck.proofs.Lasts.{before-last-at, none-left}
use Rattle.st_ilcheck.proofs.keeping.before_last.Goals as goal

pub returns-then-count-eq0 : goal.returns-then-count-eq0
returns-then-count-eq0 c = let e = none-left c.args.types.now (omega arith) in e ∙ sym (ap before_last e)

pub returns : goal.returns
returns c = before-last-at c.args.types.now (length c.args.types.now - 1) (omega arith)
