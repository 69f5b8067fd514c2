use Rattle.std.proofs.Common.{false, sym, subst, ◌+◌, take, ◌∙◌}
use Rattle.st_il.specs.Definitions.{syntaxes}
use Rattle.st_semantics.specs.Calls.{ValueAt}
use Rattle.st_match.proofs.FitAll.{formed_at}
use Rattle.st_search.proofs.SomeGives.{AreValued, valued_next, valued_none, valued_deep}
use Rattle.st_search.proofs.conclude.each_value.Goals as goal
use Rattle.st_search.proofs.conclude.each_value.Goals.{in-Val+in_ok-push-in-Val, in-NoValue}

pub outcome_of-requires-clause-formed : goal.outcome_of-requires-clause-formed
outcome_of-requires-clause-formed c = formed_at (syntaxes c.args.search.now.setting.index.now) c.args.exps.now c.loop-exp.exp-index c.exp-item.result c.loop-exp-test.true c.exp-item.is c.requires.formed

pub returns-in-Deep-clause-stops : goal.returns-in-Deep-clause-stops
returns-in-Deep-clause-stops c = valued_deep c.args.search.now.setting.index.now c.args.search.now.setting.depth c.args.env.now c.args.exps.now c.loop-exp.exp-index c.exp-item.result c.loop-exp-test.true c.exp-item.is (subst (ValueAt c.args.search.now.setting.index.now c.args.search.now.setting.depth c.args.env.now c.exp-item.result) c.in-Deep.is c.in_ok-outcome.ensures)

pub loop-exp-preserved : goal.loop-exp-preserved
loop-exp-preserved c = elim c.match-outcome.branch [
  | in-Val+in_ok-push-in-Val w ↦
      subst (λ z. AreValued c.args.search.now.setting.index.now c.args.search.now.setting.depth c.args.env.now (take (c.loop-exp.exp-index + 1) c.args.exps.now) z c.match-outcome.values) (sym w.whole-is)
      (valued_next c.args.search.now.setting.index.now c.args.search.now.setting.depth c.args.env.now c.args.exps.now c.loop-exp.exp-index c.exp-item.result c.loop-exp-test.true c.exp-item.is c.loop-exp.whole c.loop-exp.values c.loop-exp.invariant c.requires.search.searchable.evaluable.single w.in-Val.value c.match-outcome.values
      (subst (ValueAt c.args.search.now.setting.index.now c.args.search.now.setting.depth c.args.env.now c.exp-item.result) w.in-Val.is c.in_ok-outcome.ensures) (w.values-is ∙ w.in_ok-push-in-Val.ensures.ok))
  | in-NoValue w ↦
      subst (λ z. AreValued c.args.search.now.setting.index.now c.args.search.now.setting.depth c.args.env.now (take (c.loop-exp.exp-index + 1) c.args.exps.now) z c.match-outcome.values) (sym w.whole-is)
      (subst (AreValued c.args.search.now.setting.index.now c.args.search.now.setting.depth c.args.env.now (take (c.loop-exp.exp-index + 1) c.args.exps.now) false) (sym w.values-is)
      (valued_none c.args.search.now.setting.index.now c.args.search.now.setting.depth c.args.env.now c.args.exps.now c.loop-exp.exp-index c.exp-item.result c.loop-exp-test.true c.exp-item.is c.loop-exp.whole c.loop-exp.values c.loop-exp.invariant c.requires.search.searchable.evaluable.single (subst (ValueAt c.args.search.now.setting.index.now c.args.search.now.setting.depth c.args.env.now c.exp-item.result) w.in-NoValue.is c.in_ok-outcome.ensures)))
]
