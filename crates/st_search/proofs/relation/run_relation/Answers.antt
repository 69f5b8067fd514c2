use Rattle.std.proofs.Common.{ℕ, refl}
use Rattle.st_search.specs.declared.answer.SearchFault.{SearchFault}
use Rattle.st_search.specs.Answers.{goal_of}
use Rattle.st_search.specs.inner.Chains.{EndsBehind}
use Rattle.st_search.specs.inner.Rules.{CanBeSearched}
use Rattle.st_search.specs.inner.Search.{AnswersGoals}
use Rattle.st_search.proofs.NumberedFinds.{first_is, undeclared}
use Rattle.st_search.proofs.Solved.{told_again}
use Rattle.st_search.proofs.relation.run_relation.Goals as goal

pub run_all-requires-clause-rules : goal.run_all-requires-clause-rules
run_all-requires-clause-rules g c = (
  c.args.relation.now,
  c.in-Some.ensures.first,
  c.rules_of-rules.ensures,
)

pub returns-in_err-found-in-Some-clause-ends : goal.returns-in_err-found-in-Some-clause-ends
returns-in_err-found-in-Some-clause-ends g c =
    told_again (λ (fault : SearchFault). (left : ℕ) → AnswersGoals c.args.search.now.setting.index.now c.args.search.now.setting.depth left (g.F.Finder.answers c.args.finder.now) → CanBeSearched c.args.search.now.setting.index.now c.args.relation.now → EndsBehind c.args.search.now.setting.index.now c.args.search.now.setting.depth left (goal_of c.args.relation.now c.args.inputs.now) fault) c.from_residual.result c.in_err-found-in-Some.field-0.0 c.from_residual.ensures.1 (λ left answers can.
    c.in_err-found-in-Some.ensures.ends left (goal_of c.args.relation.now c.args.inputs.now) answers can refl (first_is c.args.search.now.setting.index.now c.in-Some.number c.args.relation.now c.in-Some.ensures.first))

pub returns-in-None-clause-found : goal.returns-in-None-clause-found
returns-in-None-clause-found g c left answers can =
    absurd (undeclared c.args.search.now.setting.index.now c.args.relation.now c.in-None.ensures.first can)

pub returns-in_ok-found-in-Some-clause-found : goal.returns-in_ok-found-in-Some-clause-found
returns-in_ok-found-in-Some-clause-found g c left answers can =
    c.in_ok-found-in-Some.ensures.found left (goal_of c.args.relation.now c.args.inputs.now) answers can refl (first_is c.args.search.now.setting.index.now c.in-Some.number c.args.relation.now c.in-Some.ensures.first)
