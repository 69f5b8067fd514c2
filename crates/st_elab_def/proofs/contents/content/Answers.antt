use Rattle.std.proofs.Common.{refl}
use Rattle.std.specs.Prelude.{Option, IsSomeAnd}
use Rattle.st_el.specs.declared.definition.DefNode.TheVariants.{Syntax, Var, Relation, Fun, Clause}
use Rattle.st_il.specs.declared.definition.IlDef.{IlDef}
use Rattle.st_elab_table.specs.Clauses.{parts_of}
use Rattle.st_elab_def.specs.Phases.{on_rule, on_clause, on_content}
use Rattle.st_elab_def.specs.inner.Contents.{MakesRule, MakesClause, MakesContent}
use Rattle.st_elab_def.specs.inner.Walk.{standing, FirstBreachAt}
use Rattle.st_elab_def.proofs.ContentLemmas.{some_rule, rule_content_breach, some_clause, clause_content_breach, no_content, told_both, ok_both, ok_any}
use Rattle.st_elab_def.proofs.HasHead.{more_rules, same_rules}
use Rattle.st_elab_def.proofs.contents.content.Goals as goal

pub returns-in-Rule-clause-told : goal.returns-in-Rule-clause-told
returns-in-Rule-clause-told c = λ before behind finds knows.
    let D = c.args.decls.now in
    let d = standing before c.args.def.now behind in
    let arm = c.in-Rule in
    told_both (λ (made : Option IlDef). IsSomeAnd made (MakesRule D before c.args.def.now.at arm.relation arm.name arm.conclusion arm.premises)) (MakesContent D d)
    (FirstBreachAt D (on_rule before c.args.def.now.at arm.relation arm.name arm.conclusion arm.premises)) (FirstBreachAt D (on_content d)) c.rule_of.result
    (λ made m. some_rule D d arm.relation arm.name arm.conclusion arm.premises made arm.is m)
    (λ b k. rule_content_breach D d arm.relation arm.name arm.conclusion arm.premises b arm.is k)
    (c.rule_of.ensures.told before finds knows)

pub returns-in-Rule-clause-more : goal.returns-in-Rule-clause-more
returns-in-Rule-clause-more c =
    ok_both c.rule_of.result
    (λ more before knows. more_rules before c.args.def.now c.in-Rule.relation c.in-Rule.name c.in-Rule.conclusion c.in-Rule.premises c.args.rules.now.keys c.rule_of.new.rules.keys c.in-Rule.is knows more)
    c.rule_of.ensures.more

pub returns-in-Clause-clause-told : goal.returns-in-Clause-clause-told
returns-in-Clause-clause-told c = λ before behind finds knows.
    let D = c.args.decls.now in
    let d = standing before c.args.def.now behind in
    let arm = c.in-Clause in
    let parts = parts_of arm.args arm.value arm.premises in
    told_both (λ (made : Option IlDef). IsSomeAnd made (MakesClause D c.args.def.now.at arm.name parts)) (MakesContent D d)
    (FirstBreachAt D (on_clause c.args.def.now.at arm.name parts)) (FirstBreachAt D (on_content d)) c.clause_of.result
    (λ made m. some_clause D d arm.name arm.args arm.value arm.premises made arm.is m)
    (λ b k. clause_content_breach D d arm.name arm.args arm.value arm.premises b arm.is k)
    (c.clause_of.ensures finds)

pub returns-in-Clause-clause-more : goal.returns-in-Clause-clause-more
returns-in-Clause-clause-more c =
    ok_any c.clause_of.result
    (λ before knows. same_rules before c.args.def.now (Clause c.in-Clause.name c.in-Clause.args c.in-Clause.value c.in-Clause.premises) c.args.rules.now.keys c.in-Clause.is (λ p q. refl) knows)

pub returns-in-Syntax-clause-told : goal.returns-in-Syntax-clause-told
returns-in-Syntax-clause-told c = λ before behind finds knows. no_content c.args.decls.now (standing before c.args.def.now behind) (Syntax c.in-Syntax.name c.in-Syntax.fragment c.in-Syntax.body) c.in-Syntax.is refl refl

pub returns-in-Syntax-clause-more : goal.returns-in-Syntax-clause-more
returns-in-Syntax-clause-more c = λ before knows. same_rules before c.args.def.now (Syntax c.in-Syntax.name c.in-Syntax.fragment c.in-Syntax.body) c.args.rules.now.keys c.in-Syntax.is (λ p q. refl) knows

pub returns-in-Var-clause-told : goal.returns-in-Var-clause-told
returns-in-Var-clause-told c = λ before behind finds knows. no_content c.args.decls.now (standing before c.args.def.now behind) (Var c.in-Var.name c.in-Var.typ) c.in-Var.is refl refl

pub returns-in-Var-clause-more : goal.returns-in-Var-clause-more
returns-in-Var-clause-more c = λ before knows. same_rules before c.args.def.now (Var c.in-Var.name c.in-Var.typ) c.args.rules.now.keys c.in-Var.is (λ p q. refl) knows

pub returns-in-Relation-clause-told : goal.returns-in-Relation-clause-told
returns-in-Relation-clause-told c = λ before behind finds knows. no_content c.args.decls.now (standing before c.args.def.now behind) (Relation c.in-Relation.name c.in-Relation.notation) c.in-Relation.is refl refl

pub returns-in-Relation-clause-more : goal.returns-in-Relation-clause-more
returns-in-Relation-clause-more c = λ before knows. same_rules before c.args.def.now (Relation c.in-Relation.name c.in-Relation.notation) c.args.rules.now.keys c.in-Relation.is (λ p q. refl) knows

pub returns-in-Fun-clause-told : goal.returns-in-Fun-clause-told
returns-in-Fun-clause-told c = λ before behind finds knows. no_content c.args.decls.now (standing before c.args.def.now behind) (Fun c.in-Fun.name c.in-Fun.params c.in-Fun.result) c.in-Fun.is refl refl

pub returns-in-Fun-clause-more : goal.returns-in-Fun-clause-more
returns-in-Fun-clause-more c = λ before knows. same_rules before c.args.def.now (Fun c.in-Fun.name c.in-Fun.params c.in-Fun.result) c.args.rules.now.keys c.in-Fun.is (λ p q. refl) knows
