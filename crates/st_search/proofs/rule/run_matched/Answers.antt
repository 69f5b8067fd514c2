use Rattle.std.proofs.Common.{ℕ, List, [], sym, subst}
use Rattle.std.specs.List.{AllByRecursion}
use Rattle.st_semantics.specs.Goals.{Goal}
use Rattle.st_semantics.specs.Orders.{in_order}
use Rattle.st_search.specs.declared.answer.SearchFault.{SearchFault}
use Rattle.st_search.specs.inner.Chains.{EndsBehind}
use Rattle.st_search.specs.inner.Rules.{CanBeSearched, IsPartial, run_seeks}
use Rattle.st_search.specs.inner.Running.{IsRuleOf, end_seeks}
use Rattle.st_search.specs.inner.Search.{AnswersGoals}
use Rattle.st_search.specs.inner.Sought.{Finds, sought_from}
use Rattle.st_search.proofs.RuleFinds.{rule_found}
use Rattle.st_search.proofs.Sequences.{ends_again}
use Rattle.st_search.proofs.rule.run_matched.Goals as goal

pub returns-in_err-run-clause-ends : goal.returns-in_err-run-clause-ends
returns-in_err-run-clause-ends g c =
    ends_again (λ (f : SearchFault). (left : ℕ) (goal_of : Goal) (order : List ℕ) → AnswersGoals c.args.search.now.setting.index.now c.args.search.now.setting.depth left (g.F.Finder.answers c.args.finder.now) → CanBeSearched c.args.search.now.setting.index.now goal_of.relation
    → IsRuleOf c.args.search.now.setting.index.now goal_of.relation c.args.number c.args.rule.now order → Finds c.args.search.now.setting.index.now c.args.search.now.setting.depth 0 (run_seeks c.args.search.now.setting.index.now c.args.search.now.setting.depth goal_of c.args.number c.args.rule.now []) c.args.starts → EndsBehind c.args.search.now.setting.index.now c.args.search.now.setting.depth left goal_of f) c.from_residual.result c.in_err-run.field-0.0 c.from_residual.ensures.1
    (λ left goal_of order answers can is start. c.in_err-run.ensures.ends left goal_of c.args.number order answers can is start)

pub returns-in_err-items-clause-ends : goal.returns-in_err-items-clause-ends
returns-in_err-items-clause-ends g c =
    ends_again (λ (f : SearchFault). (left : ℕ) (goal_of : Goal) (order : List ℕ) → AnswersGoals c.args.search.now.setting.index.now c.args.search.now.setting.depth left (g.F.Finder.answers c.args.finder.now) → CanBeSearched c.args.search.now.setting.index.now goal_of.relation
    → IsRuleOf c.args.search.now.setting.index.now goal_of.relation c.args.number c.args.rule.now order → Finds c.args.search.now.setting.index.now c.args.search.now.setting.depth 0 (run_seeks c.args.search.now.setting.index.now c.args.search.now.setting.depth goal_of c.args.number c.args.rule.now []) c.args.starts → EndsBehind c.args.search.now.setting.index.now c.args.search.now.setting.depth left goal_of f) c.from_residual-in_err-items.result c.in_err-items.field-0.0 c.from_residual-in_err-items.ensures.1
    (λ left goal_of order answers can is start.
    let run = c.in_ok-run.ensures.found left goal_of c.args.number order answers can is start in
    c.in_err-items.ensures.ends left goal_of order is (subst (AllByRecursion (IsPartial c.args.search.now.setting.index.now c.args.search.now.setting.depth goal_of c.args.number c.args.rule.now (in_order c.args.rule.now.premises order))) (sym c.as_slice-ends.ensures) run.sound))

pub returns-clause-found : goal.returns-clause-found
returns-clause-found g c = λ left goal_of order answers can same is_relation is quiet start.
    let run = c.in_ok-run.ensures.found left goal_of c.args.number order answers can is start in
    rule_found c.args.search.now.setting.index.now c.args.search.now.setting.depth goal_of c.args.number c.args.rule.now c.requires.rule order is c.in_ok-run.run'.longest c.in_ok-run.run'.items run c.in_ok-items.items
    (subst (λ z. Finds c.args.search.now.setting.index.now c.args.search.now.setting.depth 0 (sought_from (end_seeks c.args.search.now.setting.index.now c.args.search.now.setting.depth goal_of c.args.rule.now) z) c.in_ok-items.items) c.as_slice-ends.ensures
    (c.in_ok-items.ensures.found goal_of order same is_relation is (subst (AllByRecursion (IsPartial c.args.search.now.setting.index.now c.args.search.now.setting.depth goal_of c.args.number c.args.rule.now (in_order c.args.rule.now.premises order))) (sym c.as_slice-ends.ensures) run.sound))) quiet
