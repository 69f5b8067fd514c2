use Rattle.std.proofs.Common.{sym, ◌∙◌, ap, subst, [], ◌∷◌, ◌++◌}
use Rattle.st_semantics.specs.Environments.{names_of}
use Rattle.st_match.specs.inner.Covering.{AreCandidatesOfAll}
use Rattle.st_match.specs.inner.Names.{AreOrdered}
use Rattle.st_match.specs.inner.Types.{asked_of}
use Rattle.st_match.proofs.FitAll.{all_told}
use Rattle.st_match.proofs.FoundMatches.{extensions-none, extensions-found}
use Rattle.st_match.proofs.matching.extensions.Goals as goal

pub vars_of-requires : goal.vars_of-requires
vars_of-requires c = all_told c.args.patterns.now c.requires.patterns

pub found_among-requires : goal.found_among-requires
found_among-requires c = record { formed = c.requires.formed; patterns = c.requires.patterns }

pub returns-then-is_empty : goal.returns-then-is_empty
returns-then-is_empty c =
    let start = c.as_slice.ensures ∙ (c.in_ok-start.ensures ∙ ap (λ z. z ∷ []) c.in_ok-copy_env.ensures) in
    extensions-none c.args.types.now c.args.variables.now _ _ _ c.in_ok-all.all (c.is_empty.ensures.0 c.if-is_empty.true) c.requires.patterns
    (subst (λ z. AreCandidatesOfAll c.args.patterns.now c.args.values.now z c.in_ok-all.all) start c.in_ok-all.ensures)

pub returns : goal.returns
returns c =
    let start = c.as_slice.ensures ∙ (c.in_ok-start.ensures ∙ ap (λ z. z ∷ []) c.in_ok-copy_env.ensures) in
    let own = c.in_ok-own.ensures in
    let asked = c.as_slice-6.ensures ∙ (c.in_ok-asked.ensures ∙ ap (asked_of c.args.variables.now) (c.as_slice-2.ensures ∙ own)) in
    let names = c.as_slice-4.ensures ∙ (c.in_ok-names.ensures ∙ ap (λ z. names_of c.args.env.now ++ z) (c.as_slice-3.ensures ∙ own)) in
    let ordered = subst (λ z. AreOrdered z c.as_slice-5.result.now) names (subst (AreOrdered c.as_slice-4.result.now) (sym c.as_slice-5.ensures) c.in_ok-ordered.ensures) in
    let all =
    subst (AreCandidatesOfAll c.args.patterns.now c.args.values.now (c.args.env.now ∷ [])) (sym c.as_slice-7.ensures)
    (subst (λ z. AreCandidatesOfAll c.args.patterns.now c.args.values.now z c.in_ok-all.all) start c.in_ok-all.ensures) in
    extensions-found _ c.args.variables.now _ c.in_ok-found.found c.in_ok-found.ensures asked ordered c.requires.patterns c.requires.bound all
