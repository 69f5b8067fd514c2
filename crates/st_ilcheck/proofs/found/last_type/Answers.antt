use Rattle.std.proofs.Common.{sym, ap, ◌∙◌, ◌-◌, length, arith}
use Rattle.st_ilcheck.specs.FoundTypes.{last_type}
use Rattle.st_ilcheck.proofs.Lasts.{last-at, none-left}
use Rattle.st_ilcheck.proofs.found.last_type.Goals as goal

pub returns-then-count-eq0 : goal.returns-then-count-eq0
returns-then-count-eq0 c = sym (ap last_type (none-left c.args.types.now (omega arith)))

pub returns : goal.returns
returns c = c.as_ref.ensures.value ∙ sym (last-at c.args.types.now (length c.args.types.now - 1) c.index-types-at.result (omega arith) c.index-types-at.is)
