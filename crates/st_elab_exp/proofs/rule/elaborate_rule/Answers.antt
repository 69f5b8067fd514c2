use Rattle.std.proofs.Common.{rules, ap, ◌∙◌, ◌≡◌, subst, [], ◌∷◌}
use Rattle.st_dims.specs.Mentions.{mentions_in}
use Rattle.st_elab_table.specs.Questions.{Breach}
use Rattle.st_elab_rows.specs.Told.{Told}
use Rattle.st_elab_rows.proofs.Builds.{Told-stops}
use Rattle.st_elab_table.specs.Scopes.{VariableBreach}
use Rattle.st_elab_table.specs.Rules.{ElabRule, RuleBreach, at_variable}
use Rattle.st_elab_exp.specs.Erasing.{RuleErases}
use Rattle.st_elab_exp.proofs.Outcomes.{told_given, told_refused}
use Rattle.st_elab_exp.proofs.Erasing.{rule_erases, told_ok}
use Rattle.st_elab_exp.proofs.Defining.{rule_one}
use Rattle.st_elab_exp.proofs.rule.elaborate_rule.Goals as goal

pub returns-in_err-scope : goal.returns-in_err-scope
returns-in_err-scope c =
    let D = c.args.decls.now in
    let R = c.args.relation.now in
    let name = c.args.name.now in
    let e = c.args.conclusion.now in
    let ps = c.args.premises.now in
    let mentions : c.as_slice.result.now ≡ mentions_in (e ∷ []) ps = c.as_slice.ensures.value ∙ c.in_ok-mentions.ensures ∙ ap (mentions_in (e ∷ [])) c.as_slice-prems.ensures in
    let told : Told (ElabRule D R name e ps) (RuleBreach D R e ps) c.from_residual-in_err-scope.result =
    Told-stops _ _ (λ (b : Breach). VariableBreach D c.as_slice.result.now b) (RuleBreach D R e ps)
    c.scope_of.result c.from_residual-in_err-scope.result c.in_err-scope.field-0.0 c.in_err-scope.was (search rules)
    (λ b k. at_variable (subst (λ z. VariableBreach D z b) mentions k)) c.scope_of.ensures in
    record {
      told = told;
      gives = λ rule h. told_given (ElabRule D R name e ps) (RuleBreach D R e ps) _ rule (rule_one D R name e ps) told h;
      refuses = λ b h. told_refused (ElabRule D R name e ps) (RuleBreach D R e ps) _ b (rule_one D R name e ps) told h;
      erased = λ il declares known. told_ok (ElabRule D R name e ps) (RuleErases il R name e ps) (RuleBreach D R e ps) _ (λ rule h. rule_erases il D declares R name e ps rule known h) told;
    }

pub returns : goal.returns
returns c =
    let D = c.args.decls.now in
    let R = c.args.relation.now in
    let name = c.args.name.now in
    let e = c.args.conclusion.now in
    let ps = c.args.premises.now in
    let told : Told (ElabRule D R name e ps) (RuleBreach D R e ps) c.rule_in.result =
    subst (λ z. Told (ElabRule D R name e z) (RuleBreach D R e z) c.rule_in.result) c.as_slice-prems.ensures c.rule_in.ensures in
    record {
      told = told;
      gives = λ rule h. told_given (ElabRule D R name e ps) (RuleBreach D R e ps) _ rule (rule_one D R name e ps) told h;
      refuses = λ b h. told_refused (ElabRule D R name e ps) (RuleBreach D R e ps) _ b (rule_one D R name e ps) told h;
      erased = λ il declares known. told_ok (ElabRule D R name e ps) (RuleErases il R name e ps) (RuleBreach D R e ps) _ (λ rule h. rule_erases il D declares R name e ps rule known h) told;
    }
