use Rattle.std.proofs.Common.{rules, [], ◌∷◌}
use Rattle.st_elab_table.specs.Questions.{Breach}
use Rattle.st_elab_rows.proofs.Builds.{Told-stops}
use Rattle.st_elab_table.specs.Rules.{RuleBreach}
use Rattle.st_elab_def.specs.Phases.{Placed, rule, on_rule}
use Rattle.st_elab_def.specs.inner.Heads.{HasHead, on_head}
use Rattle.st_elab_def.specs.inner.Walk.{FirstBreachAt}
use Rattle.st_elab_def.proofs.HasHead.{rule_breach, makes_rule}
use Rattle.st_elab_def.proofs.contents.rule_of.Goals as goal

pub returns-in_err-found-clause-told : goal.returns-in_err-found-clause-told
returns-in_err-found-clause-told c = λ before finds knows.
    let D = c.args.decls.now in
    let asked : Placed = record { at = c.args.place; asked = rule c.args.relation.now c.args.name.now c.args.conclusion.now c.args.premises.now } in
    Told-stops _ _ (λ (b : Breach). FirstBreachAt D (on_head before c.args.place c.args.relation.now c.args.name.now (asked ∷ [])) b)
    (λ (b : Breach). FirstBreachAt D (on_rule before c.args.place c.args.relation.now c.args.name.now c.args.conclusion.now c.args.premises.now) b)
    c.head.result c.from_residual.result c.in_err-found.field-0.0 c.in_err-found.was (search rules) (λ b k. k)
    (c.head.ensures.told D before (asked ∷ []) finds knows)

pub returns-in_err-rule-clause-told : goal.returns-in_err-rule-clause-told
returns-in_err-rule-clause-told c = λ before finds knows.
    let D = c.args.decls.now in
    let head : HasHead D before c.args.relation.now c.args.name.now c.in_ok-found.found.now = c.in_ok-found.ensures.told D before [] finds knows in
    Told-stops _ _ (λ (b : Breach). RuleBreach D c.in_ok-found.found.now c.args.conclusion.now c.args.premises.now b)
    (λ (b : Breach). FirstBreachAt D (on_rule before c.args.place c.args.relation.now c.args.name.now c.args.conclusion.now c.args.premises.now) b)
    c.elaborate_rule.result c.from_residual-in_err-rule.result c.in_err-rule.field-0.0 c.in_err-rule.was (search rules)
    (λ b k. rule_breach D before c.args.place c.args.relation.now c.args.name.now c.args.conclusion.now c.args.premises.now c.in_ok-found.found.now b head k)
    c.elaborate_rule.ensures.told

pub returns-clause-told : goal.returns-clause-told
returns-clause-told c = λ before finds knows.
    let D = c.args.decls.now in
    let head : HasHead D before c.args.relation.now c.args.name.now c.in_ok-found.found.now = c.in_ok-found.ensures.told D before [] finds knows in
    makes_rule D before c.args.place c.args.relation.now c.args.name.now c.args.conclusion.now c.args.premises.now c.in_ok-found.found.now c.in_ok-rule.rule head c.in_ok-rule.ensures.told
