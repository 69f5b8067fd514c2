use Rattle.std.proofs.Common.{rules, ◌≡◌, ℕ, List, [], sym, ◌∙◌, subst, Ok}
use Rattle.std.specs.List.{AllByRecursion}
use Rattle.st_semantics.specs.declared.outcome.Outcome.TheVariants.{Deep}
use Rattle.st_semantics.specs.Directions.{mask}
use Rattle.st_semantics.specs.Goals.{Goal}
use Rattle.st_semantics.specs.OrderOf.{order_of}
use Rattle.st_semantics.specs.Orders.{in_order}
use Rattle.st_search.specs.declared.answer.SearchFault.{SearchFault}
use Rattle.st_search.specs.declared.found.Partial.{Partial}
use Rattle.st_search.specs.declared.stop.Stop.{Stop}
use Rattle.st_search.specs.declared.tree.Place.{Place}
use Rattle.st_search.specs.inner.Chains.{EndsBehind}
use Rattle.st_search.specs.inner.Holes.{SomeGives}
use Rattle.st_search.specs.inner.Lists.{Exists}
use Rattle.st_search.specs.inner.Rules.{IsPartial}
use Rattle.st_search.specs.inner.Running.{IsRuleOf, end_seeks}
use Rattle.st_search.specs.inner.Sought.{Finds, StopsIf, sought_from}
use Rattle.st_search.proofs.EndFinds.{AreAll, place_is, empty_ends}
use Rattle.st_search.proofs.Finds.{Finds-start}
use Rattle.st_search.proofs.RuleFinds.{output_ends}
use Rattle.st_search.proofs.RunSteps.{told_of}
use Rattle.st_search.proofs.Sequences.{ends_again, ok_again}
use Rattle.st_search.proofs.conclude.concluded.Goals as goal

pub returns-then-is_empty-clause-found : goal.returns-then-is_empty-clause-found
returns-then-is_empty-clause-found c = λ goal_of order same is_relation is right.
    let none = empty_ends c.args.ends.now c.is_empty.result c.is_empty.ensures c.if-is_empty.true in
    subst (λ z. Finds c.args.search.now.setting.index.now c.args.search.now.setting.depth 0 (sought_from (end_seeks c.args.search.now.setting.index.now c.args.search.now.setting.depth goal_of c.args.rule.now) z) c.new.result) (sym none)
    (subst (Finds c.args.search.now.setting.index.now c.args.search.now.setting.depth 0 (sought_from (end_seeks c.args.search.now.setting.index.now c.args.search.now.setting.depth goal_of c.args.rule.now) [])) (sym c.new.ensures) (Finds-start c.args.search.now.setting.index.now c.args.search.now.setting.depth (end_seeks c.args.search.now.setting.index.now c.args.search.now.setting.depth goal_of c.args.rule.now) 0))

pub returns-in_err-found-clause-ends : goal.returns-in_err-found-clause-ends
returns-in_err-found-clause-ends c =
    ends_again (λ (f : SearchFault). (left : ℕ) (goal_of : Goal) (order : List ℕ) → IsRuleOf c.args.search.now.setting.index.now goal_of.relation c.args.number c.args.rule.now order → AllByRecursion (IsPartial c.args.search.now.setting.index.now c.args.search.now.setting.depth goal_of c.args.number c.args.rule.now (in_order c.args.rule.now.premises order)) c.args.ends.now → EndsBehind c.args.search.now.setting.index.now c.args.search.now.setting.depth left goal_of f) c.from_residual-in_err-found.result c.in_err-found.field-0.0 c.from_residual-in_err-found.ensures.1
    (λ left goal_of order is right.
    told_of (EndsBehind c.args.search.now.setting.index.now c.args.search.now.setting.depth left goal_of) (StopsIf (Exists (λ (end : Partial). SomeGives c.args.search.now.setting.index.now c.args.search.now.setting.depth end.env c.args.outs.now Deep) c.args.ends.now)) c.args.rule.now 0 c.all_given-found.result c.in_err-found.field-0.0
    c.all_given-found.ensures.stops c.in_err-found.ensures.stopped tt
    (λ (stop : Stop) stops. output_ends c.args.search.now.setting.index.now c.args.search.now.setting.depth goal_of c.args.number c.args.rule.now c.requires.rule order is left c.args.ends.now right stop
    (subst (λ z. StopsIf (Exists (λ (end : Partial). SomeGives c.args.search.now.setting.index.now c.args.search.now.setting.depth end.env z Deep) c.args.ends.now) stop) c.requires.outputs stops)))

pub returns-clause-found : goal.returns-clause-found
returns-clause-found c = λ goal_of order same is_relation is right.
    let place : Place = record { relation = c.args.relation; number = c.args.number; rule = c.args.rule; order = c.as_slice-order.result; holes = c.mask_under-holes.result } in
    let one : c.as_slice-order.result.now ≡ order = c.as_slice-order.ensures ∙ c.in_ok-order.ensures order is.is_order in
    let ordered : order_of c.args.search.now.setting.index.now c.args.rule.now ≡ Ok c.as_slice-order.result.now = subst (λ z. order_of c.args.search.now.setting.index.now c.args.rule.now ≡ Ok z) (sym one) is.is_order in
    let holes : c.mask_under-holes.result.now ≡ mask c.args.search.now.setting.index.now c.args.rule.now.relation = search rules in
    ok_again (AreAll c.args.search.now.setting.index.now c.args.search.now.setting.depth place c.args.inputs.now c.args.ends.now) c.all_given-found.result c.in_ok-found.found c.in_ok-found.ensures.found c.all_given-found.ensures.found goal_of same
    (place_is c.args.search.now.setting.index.now goal_of place order is_relation is ordered holes)
    (subst (λ z. AllByRecursion (IsPartial c.args.search.now.setting.index.now c.args.search.now.setting.depth goal_of c.args.number c.args.rule.now (in_order c.args.rule.now.premises z)) c.args.ends.now) (sym one) right)
