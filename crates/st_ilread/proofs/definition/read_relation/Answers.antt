use Rattle.std.proofs.Common.{refl, sym, ap, ◌∙◌, Err}
use Rattle.std.proofs.lemmas.Result.{err_from_is_err_and}
use Rattle.st_iltext.proofs.Rows.{first_of, rest_of}
use Rattle.st_ilread.proofs.Passed.{passed, two_and, two_parts}
use Rattle.st_ilread.proofs.DefinitionTrees.{relation_none, relation_is}
use Rattle.st_ilread.proofs.definition.read_relation.Goals as goal

pub returns-in_default : goal.returns-in_default
returns-in_default c = (refl, relation_none _ (λ x tag hs mode p e. c.in_default.ensures _ _ _ _ e))

pub returns-in_err-name : goal.returns-in_err-name
returns-in_err-name c =
    let failed = err_from_is_err_and c.from_residual.result c.from_residual.ensures.1 in
    passed _ _ _ _ _ _ c.in_err-name.ensures (λ n. relation_none _ (λ x tag hs mode p e. n.never x refl (first_of (sym c.in-Some.ensures ∙ e)))) (failed.1 ∙ ap Err failed.2)

pub returns-in_err-tag : goal.returns-in_err-tag
returns-in_err-tag c =
    let failed = err_from_is_err_and c.from_residual-in_err-tag.result c.from_residual-in_err-tag.ensures.1 in
    passed _ _ _ _ _ _ c.in_err-tag.ensures (λ n. relation_none _ (λ x tag hs mode p e. n.never tag refl (first_of (rest_of (sym c.in-Some.ensures ∙ e))))) (failed.1 ∙ ap Err failed.2)

pub returns-in_err-holes : goal.returns-in_err-holes
returns-in_err-holes c =
    let failed = err_from_is_err_and c.from_residual-in_err-holes.result c.from_residual-in_err-holes.ensures.1 in
    passed _ _ _ _ _ _ c.in_err-holes.ensures (λ n. relation_none _ (λ x tag hs mode p e. n.never hs p (first_of (rest_of (rest_of (sym c.in-Some.ensures ∙ e)))))) (failed.1 ∙ ap Err failed.2)

pub returns-in_err-mode : goal.returns-in_err-mode
returns-in_err-mode c =
    let failed = err_from_is_err_and c.from_residual-in_err-mode.result c.from_residual-in_err-mode.ensures.1 in
    passed _ _ _ _ _ _ c.in_err-mode.ensures (λ n. relation_none _ (λ x tag hs mode p e. n.never mode refl (first_of (rest_of (rest_of (rest_of (sym c.in-Some.ensures ∙ e))))))) (failed.1 ∙ ap Err failed.2)

pub returns : goal.returns
returns c = relation_is _ _ _ _ _ c.in_ok-holes.ensures.fits (two_and c.in-Some.ensures c.in_ok-name.ensures.is c.in_ok-tag.ensures.is (two_parts refl c.in_ok-holes.ensures.is c.in_ok-mode.ensures.is))
