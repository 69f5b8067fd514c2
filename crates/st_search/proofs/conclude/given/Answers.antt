use Rattle.std.proofs.Common.{rules, sym, subst, not, map}
use Rattle.st_semantics.specs.declared.outcome.Outcome.TheVariants.{NoValue, Deep}
use Rattle.st_il.specs.Definitions.{syntaxes}
use Rattle.st_semantics.specs.Directions.{mask}
use Rattle.st_semantics.specs.Evaluation.{tasks}
use Rattle.st_semantics.specs.Formed.{AreFormed}
use Rattle.st_semantics.specs.Holding.{HaveValues}
use Rattle.st_semantics.specs.Calls.{has_value_at}
use Rattle.st_search.specs.inner.Holes.{SomeGives}
use Rattle.st_search.proofs.AreFormed.{formed_by}
use Rattle.st_search.proofs.EndFinds.{IsTreeAt, at_none, at_found}
use Rattle.st_search.proofs.conclude.given.Goals as goal

pub each_value-requires-clause-formed : goal.each_value-requires-clause-formed
each_value-requires-clause-formed c = subst (AreFormed (syntaxes c.args.search.now.setting.index.now)) (sym c.requires.outputs) (formed_by (syntaxes c.args.search.now.setting.index.now) (map not (mask c.args.search.now.setting.index.now c.args.place.now.rule.now.relation)) c.args.place.now.rule.now.conclusion c.requires.rule.formed.0)

pub returns-in-None-clause-found : goal.returns-in-None-clause-found
returns-in-None-clause-found c =
    let none : SomeGives c.args.search.now.setting.index.now c.args.search.now.setting.depth c.args.end.now.env c.args.outs.now NoValue = search rules in
    at_none c.args.search.now.setting.index.now c.args.search.now.setting.depth c.args.place.now c.args.inputs.now c.requires.search.searchable.stable c.requires.search.searchable.evaluable.single c.args.end.now c.new-found.result c.new-found.ensures (subst (λ z. SomeGives c.args.search.now.setting.index.now c.args.search.now.setting.depth c.args.end.now.env z NoValue) c.requires.outputs none)
    (λ deep. c.in_ok-values.ensures.quiet (subst (λ z. SomeGives c.args.search.now.setting.index.now c.args.search.now.setting.depth c.args.end.now.env z Deep) (sym c.requires.outputs) deep))

pub returns-in_ok-push-in-Some-clause-found : goal.returns-in_ok-push-in-Some-clause-found
returns-in_ok-push-in-Some-clause-found c =
    let have : HaveValues (has_value_at c.args.search.now.setting.index.now c.args.search.now.setting.depth) (tasks c.args.end.now.env c.args.outs.now) c.in-Some.values = search rules in
    at_found c.args.search.now.setting.index.now c.args.search.now.setting.depth c.args.place.now c.args.inputs.now c.requires.search.searchable.stable c.requires.search.searchable.evaluable.single c.requires.search.searchable.rules c.args.end.now c.push.new.self c.in-Some.values c.in_ok-tree-in-Some.tree
    (subst (λ z. HaveValues (has_value_at c.args.search.now.setting.index.now c.args.search.now.setting.depth) (tasks c.args.end.now.env z) c.in-Some.values) c.requires.outputs have)
    (subst (λ z. IsTreeAt c.args.search.now.setting.index.now c.args.search.now.setting.depth c.args.place.now c.args.inputs.now c.args.end.now z c.in_ok-tree-in-Some.tree) c.as_slice.ensures c.in_ok-tree-in-Some.ensures)
    (search rules)
