use Rattle.std.proofs.Common.{refl, sym, ap, subst, Some, rules}
use Rattle.st_type_table.specs.Meaning.{Means}
use Rattle.st_any_table.specs.inner.Pairs.{EqualWaits}
use Rattle.st_any_table.proofs.PairsLemmas.{parts-waits, no-left, no-right}
use Rattle.st_any_table.proofs.equal.equal_waits.Goals as goal
use Rattle.st_any_table.proofs.equal.equal_waits.Goals.{in_default-via-in-Some+in_default, in_default-via-in_default}

pub returns-then-are_one-clause-waits : goal.returns-then-are_one-clause-waits
returns-then-are_one-clause-waits c =
    EqualWaits.equal c.in-Some-Some.one.now c.in-Some-Some.ensures (subst (Means c.args.survey.now.defs c.args.right.now) (sym (c.are_one.ensures.0 (search rules))) c.in-Some-Some.ensures') (ap Some c.new.ensures)

pub returns-in_ok-node-in-Some-Some-clause-waits : goal.returns-in_ok-node-in-Some-Some-clause-waits
returns-in_ok-node-in-Some-Some-clause-waits c =
    parts-waits c.args.survey.now.defs c.parts_wait.new.pairs c.args.left.now c.args.right.now c.in-Some-Some.one.now c.in-Some-Some.other.now c.in_ok-node-in-Some-Some.node c.in-Some-Some.ensures c.in-Some-Some.ensures'
    (λ e. let f = c.are_one.ensures.1 e in cc) c.in_ok-node-in-Some-Some.ensures.node

pub returns-in_default-clause-waits : goal.returns-in_default-clause-waits
returns-in_default-clause-waits c = elim c.in_default.branch [
  | in_default-via-in-Some+in_default w ↦ EqualWaits.never (no-right c.args.survey.now.defs c.args.left.now c.args.right.now w.in_default.ensures') refl
  | in_default-via-in_default w ↦ EqualWaits.never (no-left c.args.survey.now.defs c.args.left.now c.args.right.now w.in_default.ensures) refl
]
