use Rattle.std.proofs.Common.{rules, ◌≡◌, ℕ, ◌<◌, ◌^◌, List, [], length, subst}
use Rattle.st_il.specs.declared.definition.RuleDef.{RuleDef}
use Rattle.st_il.specs.Definitions.{rules_in, IsRelation}
use Rattle.st_semantics.specs.Goals.{Goal}
use Rattle.st_semantics.specs.RuleDepth.{no_variables}
use Rattle.st_search.specs.declared.answer.SearchFault.{SearchFault}
use Rattle.st_search.specs.declared.holes.Evaluated.TheVariants.{Closed}
use Rattle.st_search.specs.declared.found.Partial.{Partial}
use Rattle.st_search.specs.declared.stop.Stop.{Stop}
use Rattle.st_search.specs.inner.Chains.{EndsBehind}
use Rattle.st_search.specs.inner.Holes.{HasDeepHole}
use Rattle.st_search.specs.inner.Rules.{CanBeSearched, run_seeks, rule_seeks}
use Rattle.st_search.specs.inner.Running.{IsRuleOf}
use Rattle.st_search.specs.inner.Search.{AnswersGoals}
use Rattle.st_search.specs.inner.Sought.{Finds, StopsIf}
use Rattle.st_search.proofs.AlgorithmParts.{no_other, parts_are}
use Rattle.st_search.proofs.EndFinds.{AreStarts, starts_only, none_found}
use Rattle.st_search.proofs.Masks.{rule_can, rule_with}
use Rattle.st_search.proofs.RuleFinds.{rule_none, input_ends}
use Rattle.st_search.proofs.RunSteps.{told_of}
use Rattle.st_search.proofs.Sequences.{ends_again, ok_again}
use Rattle.st_search.proofs.rule.run_rule.Goals as goal

pub returns-in_default-clause-found : goal.returns-in_default-clause-found
returns-in_default-clause-found g c = λ left goal_of order answers can same is_relation is. absurd (no_other c.args.search.now.setting.index.now c.requires.ruled.0 c.args.number c.args.rule.now c.args.algorithm.now c.requires.ruled.1 c.in_default.ensures)

pub matched-starts-requires-clause-rule : goal.matched-starts-requires-clause-rule
matched-starts-requires-clause-rule g c = rule_can c.args.search.now.setting.index.now c.requires.search.searchable.rules c.requires.ruled.0 c.args.number c.args.rule.now c.requires.ruled.1.is_rule

pub returns-in_err-starts-clause-ends : goal.returns-in_err-starts-clause-ends
returns-in_err-starts-clause-ends g c =
    ends_again (λ (f : SearchFault). (left : ℕ) (goal_of : Goal) (order : List ℕ) → AnswersGoals c.args.search.now.setting.index.now c.args.search.now.setting.depth left (g.F.Finder.answers c.args.finder.now) → CanBeSearched c.args.search.now.setting.index.now goal_of.relation → goal_of.inputs ≡ c.args.inputs.now → IsRelation c.args.search.now.setting.index.now c.args.relation goal_of.relation
    → IsRuleOf c.args.search.now.setting.index.now goal_of.relation c.args.number c.args.rule.now order → EndsBehind c.args.search.now.setting.index.now c.args.search.now.setting.depth left goal_of f) c.from_residual.result c.in_err-starts.field-0.0 c.from_residual.ensures.1
    (λ left goal_of order answers can same is_relation is.
    told_of (EndsBehind c.args.search.now.setting.index.now c.args.search.now.setting.depth left goal_of) (StopsIf (HasDeepHole c.args.search.now.setting.index.now c.args.search.now.setting.depth no_variables Closed c.in-Some.parts.inputs.now)) c.args.rule.now 0 c.matched-starts.result c.in_err-starts.field-0.0
    c.matched-starts.ensures.stops c.in_err-starts.ensures.stopped tt
    (λ (stop : Stop) stops. input_ends c.args.search.now.setting.index.now c.args.search.now.setting.depth goal_of c.args.number c.args.rule.now (rule_can c.args.search.now.setting.index.now c.requires.search.searchable.rules c.requires.ruled.0 c.args.number c.args.rule.now c.requires.ruled.1.is_rule) order is left stop
    (subst (λ z. StopsIf (HasDeepHole c.args.search.now.setting.index.now c.args.search.now.setting.depth no_variables Closed z) stop) (parts_are c.args.search.now.setting.index.now c.requires.ruled.0 c.args.number c.args.rule.now c.args.algorithm.now c.requires.ruled.1 c.in-Some.parts.inputs.now c.in-Some.parts.outputs.now c.in-Some.parts.steps.now c.in-Some.ensures).0 stops)))

pub returns-then-is_empty-clause-found : goal.returns-then-is_empty-clause-found
returns-then-is_empty-clause-found g c = λ left goal_of order answers can same is_relation is.
    let none : c.in_ok-starts.starts ≡ [] = search rules in
    none_found c.args.search.now.setting.index.now c.args.search.now.setting.depth (rule_seeks c.args.search.now.setting.index.now c.args.search.now.setting.depth goal_of c.args.number c.args.rule.now order) c.nothing-then-is_empty.result c.nothing-then-is_empty.ensures.items c.nothing-then-is_empty.ensures.longest
    (rule_none c.args.search.now.setting.index.now c.args.search.now.setting.depth goal_of c.args.number c.args.rule.now (rule_can c.args.search.now.setting.index.now c.requires.search.searchable.rules c.requires.ruled.0 c.args.number c.args.rule.now c.requires.ruled.1.is_rule) order is 0 (subst (Finds c.args.search.now.setting.index.now c.args.search.now.setting.depth 0 (run_seeks c.args.search.now.setting.index.now c.args.search.now.setting.depth goal_of c.args.number c.args.rule.now [])) none (ok_again (AreStarts c.args.search.now.setting.index.now c.args.search.now.setting.depth c.args.rule.now c.args.inputs.now) c.matched-starts.result c.in_ok-starts.starts c.in_ok-starts.ensures.found c.matched-starts.ensures.found goal_of c.args.number same)) (subst (λ z. HasDeepHole c.args.search.now.setting.index.now c.args.search.now.setting.depth no_variables Closed z → ⊥) (parts_are c.args.search.now.setting.index.now c.requires.ruled.0 c.args.number c.args.rule.now c.args.algorithm.now c.requires.ruled.1 c.in-Some.parts.inputs.now c.in-Some.parts.outputs.now c.in-Some.parts.steps.now c.in-Some.ensures).0 (ok_again (λ (starts : List Partial). HasDeepHole c.args.search.now.setting.index.now c.args.search.now.setting.depth no_variables Closed c.in-Some.parts.inputs.now → ⊥) c.matched-starts.result c.in_ok-starts.starts c.in_ok-starts.ensures.found c.matched-starts.ensures.quiet)))

pub run_matched-requires-clause-rule : goal.run_matched-requires-clause-rule
run_matched-requires-clause-rule g c = rule_can c.args.search.now.setting.index.now c.requires.search.searchable.rules c.requires.ruled.0 c.args.number c.args.rule.now c.requires.ruled.1.is_rule

pub run_matched-requires-clause-few : goal.run_matched-requires-clause-few
run_matched-requires-clause-few g c =
    rule_with (λ (r : RuleDef). length r.premises < 2 ^ 32) c.requires.ruled.0 (rules_in c.args.search.now.setting.index.now.defs) c.args.number c.args.rule.now c.requires.search.searchable.few.1 c.requires.ruled.1.is_rule

pub run_matched-requires-clause-steps : goal.run_matched-requires-clause-steps
run_matched-requires-clause-steps g c = (c.requires.ruled.1.order, c.requires.ruled.1.is_order, (parts_are c.args.search.now.setting.index.now c.requires.ruled.0 c.args.number c.args.rule.now c.args.algorithm.now c.requires.ruled.1 c.in-Some.parts.inputs.now c.in-Some.parts.outputs.now c.in-Some.parts.steps.now c.in-Some.ensures).1)

pub run_matched-requires-clause-starts : goal.run_matched-requires-clause-starts
run_matched-requires-clause-starts g c = starts_only c.args.search.now.setting.index.now c.args.search.now.setting.depth c.args.rule.now c.args.inputs.now c.in_ok-starts.starts (ok_again (AreStarts c.args.search.now.setting.index.now c.args.search.now.setting.depth c.args.rule.now c.args.inputs.now) c.matched-starts.result c.in_ok-starts.starts c.in_ok-starts.ensures.found c.matched-starts.ensures.found)

pub returns-in_err-found-clause-ends : goal.returns-in_err-found-clause-ends
returns-in_err-found-clause-ends g c =
    ends_again (λ (f : SearchFault). (left : ℕ) (goal_of : Goal) (order : List ℕ) → AnswersGoals c.args.search.now.setting.index.now c.args.search.now.setting.depth left (g.F.Finder.answers c.args.finder.now) → CanBeSearched c.args.search.now.setting.index.now goal_of.relation → goal_of.inputs ≡ c.args.inputs.now → IsRelation c.args.search.now.setting.index.now c.args.relation goal_of.relation
    → IsRuleOf c.args.search.now.setting.index.now goal_of.relation c.args.number c.args.rule.now order → EndsBehind c.args.search.now.setting.index.now c.args.search.now.setting.depth left goal_of f) c.from_residual-in_err-found.result c.in_err-found.field-0.0 c.from_residual-in_err-found.ensures.1
    (λ left goal_of order answers can same is_relation is. c.in_err-found.ensures.ends left goal_of order answers can is (ok_again (AreStarts c.args.search.now.setting.index.now c.args.search.now.setting.depth c.args.rule.now c.args.inputs.now) c.matched-starts.result c.in_ok-starts.starts c.in_ok-starts.ensures.found c.matched-starts.ensures.found goal_of c.args.number same))

pub returns-clause-found : goal.returns-clause-found
returns-clause-found g c = λ left goal_of order answers can same is_relation is.
    c.in_ok-found.ensures.found left goal_of order answers can same is_relation is
    (subst (λ z. HasDeepHole c.args.search.now.setting.index.now c.args.search.now.setting.depth no_variables Closed z → ⊥) (parts_are c.args.search.now.setting.index.now c.requires.ruled.0 c.args.number c.args.rule.now c.args.algorithm.now c.requires.ruled.1 c.in-Some.parts.inputs.now c.in-Some.parts.outputs.now c.in-Some.parts.steps.now c.in-Some.ensures).0 (ok_again (λ (starts : List Partial). HasDeepHole c.args.search.now.setting.index.now c.args.search.now.setting.depth no_variables Closed c.in-Some.parts.inputs.now → ⊥) c.matched-starts.result c.in_ok-starts.starts c.in_ok-starts.ensures.found c.matched-starts.ensures.quiet))
    (ok_again (AreStarts c.args.search.now.setting.index.now c.args.search.now.setting.depth c.args.rule.now c.args.inputs.now) c.matched-starts.result c.in_ok-starts.starts c.in_ok-starts.ensures.found c.matched-starts.ensures.found goal_of c.args.number same)
