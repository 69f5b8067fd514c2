use Rattle.std.proofs.Common.{refl, sym, ap, ◌∙◌, Err}
use Rattle.std.proofs.lemmas.Result.{err_from_is_err_and}
use Rattle.st_iltext.proofs.Rows.{first_of, rest_of}
use Rattle.st_ilread.proofs.Passed.{passed, two_and}
use Rattle.st_ilread.proofs.DefinitionTrees.{rule_none, rule_is}
use Rattle.st_ilread.proofs.definition.read_rule.Goals as goal

pub returns-in_default : goal.returns-in_default
returns-in_default c = (refl, rule_none _ (λ r x vs es ps p q s e. c.in_default.ensures _ _ _ e))

pub returns-in_default-behind_two : goal.returns-in_default-behind_two
returns-in_default-behind_two c = (refl, rule_none _ (λ r x vs es ps p q s e. c.in_default-behind_two.ensures _ _ _ (rest_of (rest_of (sym c.in-Some.ensures ∙ e)))))

pub returns-in_err-relation : goal.returns-in_err-relation
returns-in_err-relation c =
    let failed = err_from_is_err_and c.from_residual.result c.from_residual.ensures.1 in
    passed _ _ _ _ _ _ c.in_err-relation.ensures (λ n. rule_none _ (λ r x vs es ps p q s e. n.never r refl (first_of (sym c.in-Some.ensures ∙ e)))) (failed.1 ∙ ap Err failed.2)

pub returns-in_err-name : goal.returns-in_err-name
returns-in_err-name c =
    let failed = err_from_is_err_and c.from_residual-in_err-name.result c.from_residual-in_err-name.ensures.1 in
    passed _ _ _ _ _ _ c.in_err-name.ensures (λ n. rule_none _ (λ r x vs es ps p q s e. n.never x refl (first_of (rest_of (sym c.in-Some.ensures ∙ e))))) (failed.1 ∙ ap Err failed.2)

pub returns-in_err-variables : goal.returns-in_err-variables
returns-in_err-variables c =
    let failed = err_from_is_err_and c.from_residual-in_err-variables.result c.from_residual-in_err-variables.ensures.1 in
    passed _ _ _ _ _ _ c.in_err-variables.ensures (λ n. rule_none _ (λ r x vs es ps p q s e. n.never vs p (first_of (sym c.in-Some-behind_two.ensures ∙ rest_of (rest_of (sym c.in-Some.ensures ∙ e)))))) (failed.1 ∙ ap Err failed.2)

pub returns-in_err-conclusion : goal.returns-in_err-conclusion
returns-in_err-conclusion c =
    let failed = err_from_is_err_and c.from_residual-in_err-conclusion.result c.from_residual-in_err-conclusion.ensures.1 in
    passed _ _ _ _ _ _ c.in_err-conclusion.ensures (λ n. rule_none _ (λ r x vs es ps p q s e. n.never es q (first_of (rest_of (sym c.in-Some-behind_two.ensures ∙ rest_of (rest_of (sym c.in-Some.ensures ∙ e))))))) (failed.1 ∙ ap Err failed.2)

pub returns-in_err-premises : goal.returns-in_err-premises
returns-in_err-premises c =
    let failed = err_from_is_err_and c.from_residual-in_err-premises.result c.from_residual-in_err-premises.ensures.1 in
    passed _ _ _ _ _ _ c.in_err-premises.ensures (λ n. rule_none _ (λ r x vs es ps p q s e. n.never ps s (rest_of (rest_of (sym c.in-Some-behind_two.ensures ∙ rest_of (rest_of (sym c.in-Some.ensures ∙ e))))))) (failed.1 ∙ ap Err failed.2)

pub returns : goal.returns
returns c = rule_is _ _ _ _ _ _ c.in_ok-variables.ensures.fits c.in_ok-conclusion.ensures.fits c.in_ok-premises.ensures.fit (two_and c.in-Some.ensures c.in_ok-relation.ensures.is c.in_ok-name.ensures.is (two_and c.in-Some-behind_two.ensures c.in_ok-variables.ensures.is c.in_ok-conclusion.ensures.is c.in_ok-premises.ensures.are))
