use Rattle.std.proofs.Common.{sym}
use Rattle.st_search.proofs.NumberedFinds.{relation_small, rule_small, numbered_finds, unordered_finds, numbered_ruled, numbered_of, numbered_none}
use Rattle.st_search.proofs.RunRules.{Ended}
use Rattle.st_search.proofs.Solved.{told_again}
use Rattle.st_search.proofs.relation.run_numbered.Goals as goal

pub overflow_cast-relation : goal.overflow_cast-relation
overflow_cast-relation g c = record { fits = relation_small c.args.search.now.setting.index.now c.args.relation c.requires.rule.1.declared c.requires.search.searchable.few c.requires.rule.1.is }

pub overflow_cast-number : goal.overflow_cast-number
overflow_cast-number g c = record { fits = rule_small c.args.search.now.setting.index.now c.requires.rule.0 c.args.number c.args.rule.now c.requires.search.searchable.few c.requires.rule.2 }

pub run_rule-requires-clause-ruled : goal.run_rule-requires-clause-ruled
run_rule-requires-clause-ruled g c =
    numbered_ruled c.args.search.now.setting.index.now c.args.search.now.setting.types.now c.args.search.now.algos.now c.requires.search.searchable c.args.relation c.args.number c.args.rule.now c.requires.rule.0 c.requires.rule.1 c.requires.rule.2 c.in-Some.algorithm.now (sym c.in-Some.ensures)

pub returns-in_err-found-in-Some-clause-ends : goal.returns-in_err-found-in-Some-clause-ends
returns-in_err-found-in-Some-clause-ends g c =
    let w =
    numbered_ruled c.args.search.now.setting.index.now c.args.search.now.setting.types.now c.args.search.now.algos.now c.requires.search.searchable c.args.relation c.args.number c.args.rule.now c.requires.rule.0 c.requires.rule.1 c.requires.rule.2 c.in-Some.algorithm.now (sym c.in-Some.ensures) in
    told_again (Ended c.args.search.now.setting.index.now c.args.search.now.setting.depth (g.F.Finder.answers c.args.finder.now) c.args.relation c.args.inputs.now) c.from_residual.result c.in_err-found-in-Some.field-0.0 c.from_residual.ensures.1 (λ left goal_is answers can same is.
    c.in_err-found-in-Some.ensures.ends left goal_is w.1.order answers can same is
    (numbered_of c.args.search.now.setting.index.now c.args.search.now.setting.types.now c.args.search.now.algos.now c.requires.search.searchable c.args.relation c.args.number c.args.rule.now c.requires.rule.0 c.requires.rule.1 c.requires.rule.2 goal_is is w.1.order w.1.is_order))

pub returns-in-None-clause-found : goal.returns-in-None-clause-found
returns-in-None-clause-found g c left goal_is answers can same is =
    unordered_finds c.args.search.now.setting.index.now c.args.search.now.setting.depth goal_is c.args.number c.args.rule.now
    (numbered_none c.args.search.now.setting.index.now c.args.search.now.setting.types.now c.args.search.now.algos.now c.requires.search.searchable c.args.relation c.args.number c.args.rule.now c.requires.rule.0 c.requires.rule.1 c.requires.rule.2 (sym c.in-None.ensures) goal_is can is)
    _ _ c.nothing.ensures.items

pub returns-in_ok-found-in-Some-clause-found : goal.returns-in_ok-found-in-Some-clause-found
returns-in_ok-found-in-Some-clause-found g c left goal_is answers can same is =
    let w =
    numbered_ruled c.args.search.now.setting.index.now c.args.search.now.setting.types.now c.args.search.now.algos.now c.requires.search.searchable c.args.relation c.args.number c.args.rule.now c.requires.rule.0 c.requires.rule.1 c.requires.rule.2 c.in-Some.algorithm.now (sym c.in-Some.ensures) in
    numbered_finds c.args.search.now.setting.index.now c.args.search.now.setting.depth goal_is c.args.number c.args.rule.now w.1.order w.1.is_order _ _
    (c.in_ok-found-in-Some.ensures.found left goal_is w.1.order answers can same is
    (numbered_of c.args.search.now.setting.index.now c.args.search.now.setting.types.now c.args.search.now.algos.now c.requires.search.searchable c.args.relation c.args.number c.args.rule.now c.requires.rule.0 c.requires.rule.1 c.requires.rule.2 goal_is is w.1.order w.1.is_order))
