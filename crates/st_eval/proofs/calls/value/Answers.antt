use Rattle.std.proofs.Common.{subst}
use Rattle.st_il.specs.declared.definition.Il.{Il}
use Rattle.st_semantics.specs.Calls.{ValueAt}
use Rattle.st_eval.proofs.calls.value.Goals as goal

pub returns : goal.returns
returns c = subst (λ (il : Il). ValueAt il c.args.depth c.args.env.now c.args.exp.now c.in_ok-outcome.outcome) c.in_ok-index.ensures c.in_ok-outcome.ensures
