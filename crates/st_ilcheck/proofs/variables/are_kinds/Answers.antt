use Rattle.std.proofs.Common.{rules, sym, ap, length}
use Rattle.st_ilcheck.proofs.KindLemmas.{begins-all, begins-itself}
use Rattle.st_ilcheck.proofs.variables.are_kinds.Goals as goal

pub returns-then-dim-kinds : goal.returns-then-dim-kinds
returns-then-dim-kinds c = (λ f. search rules, λ e. absurd (c.if-dim-kinds.true (ap length (sym e))))

pub returns : goal.returns
returns c = (
  λ y. begins-all c.args.dim.now c.args.kinds.now c.if-dim-kinds.false (c.begins_with.ensures.0 y),
  λ e. c.begins_with.ensures.1 (begins-itself c.args.dim.now c.args.kinds.now e),
)
