use Rattle.std.proofs.Common.{List, ℕ}
use Rattle.st_ilread.proofs.NameOrder.{follow_step, follow_fails, follow_end, ordered_names}
use Rattle.st_ilread.proofs.name.are_in_order.Goals as goal

pub loop-name-preserved : goal.loop-name-preserved
loop-name-preserved c =
    follow_step (λ (x : List ℕ). x) _ _ _ _ _ _ c.loop-name.invariant c.loop-name-test.true c.name-item.is c.follows.ensures c.if-not-follows.false

pub returns-then-not-follows : goal.returns-then-not-follows
returns-then-not-follows c =
    ordered_names _ _ _ _ c.in-Some.ensures.cases.0 (follow_fails (λ (x : List ℕ). x) _ _ _ _ _ _ c.loop-name.invariant c.loop-name-test.true c.name-item.is c.follows.ensures c.if-not-follows.true)

pub returns : goal.returns
returns c =
    ordered_names _ _ _ _ c.in-Some.ensures.cases.0 (follow_end (λ (x : List ℕ). x) _ _ _ _ c.loop-name.invariant c.loop-name-test.false)
