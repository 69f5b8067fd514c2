use Rattle.std.proofs.Common.{refl, sym, ◌∙◌, ap, Some, true≢false}
use Rattle.st_any_table.specs.inner.Pairs.{BelowWaits}
use Rattle.st_any_table.proofs.PairsLemmas.{below-here, elements-waits, no-below}
use Rattle.st_any_table.proofs.below.below_waits.Goals as goal
use Rattle.st_any_table.proofs.below.below_waits.Goals.{in_default-via-in-Some+in_default, in_default-via-in_default}

pub returns-then-here-clause-waits : goal.returns-then-here-clause-waits
returns-then-here-clause-waits c = BelowWaits.holds (below-here c.args.survey.now.defs c.args.left.now c.args.right.now (c.in_ok-here.ensures.0 c.if-here.true)) (ap Some c.new.ensures)

pub returns-in_ok-node-in-Some-Some-clause-waits : goal.returns-in_ok-node-in-Some-Some-clause-waits
returns-in_ok-node-in-Some-Some-clause-waits c =
    elements-waits c.args.survey.now.defs c.elements_wait.new.pairs c.args.left.now c.args.right.now c.in-Some-Some.one.now c.in-Some-Some.other.now c.in_ok-node-in-Some-Some.node c.in-Some-Some.ensures c.in-Some-Some.ensures'
    (λ h. true≢false (sym (c.in_ok-here.ensures.1 h) ∙ c.if-here.false)) c.in_ok-node-in-Some-Some.ensures.node

pub returns-in_default-clause-waits : goal.returns-in_default-clause-waits
returns-in_default-clause-waits c = elim c.in_default.branch [
  | in_default-via-in-Some+in_default w ↦ BelowWaits.never (no-below c.args.survey.now.defs c.args.left.now c.args.right.now (λ h. true≢false (sym (c.in_ok-here.ensures.1 h) ∙ c.if-here.false)) (λ u v m n. w.in_default.ensures' v n)) refl
  | in_default-via-in_default w ↦ BelowWaits.never (no-below c.args.survey.now.defs c.args.left.now c.args.right.now (λ h. true≢false (sym (c.in_ok-here.ensures.1 h) ∙ c.if-here.false)) (λ u v m n. w.in_default.ensures u m)) refl
]
