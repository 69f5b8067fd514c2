use Rattle.std.proofs.Common.{◌++◌, sym, ◌∙◌, ap, ap₂, subst, List, [], ◌∷◌, map, true, ◌&&◌, append-nil}
use Rattle.std.specs.List.{list_all}
use Rattle.st_il.specs.declared.expression.IlExp.{IlExp}
use Rattle.st_il.specs.declared.value.Value.{Value}
use Rattle.st_il.specs.Names.{flattened, all_known}
use Rattle.st_semantics.specs.Environments.{names_of}
use Rattle.st_semantics.specs.Formed.{AreFormed}
use Rattle.st_semantics.specs.Formed as formed
use Rattle.st_semantics.specs.Patterns.{is_pattern, binds}
use Rattle.st_semantics.specs.Variables.{vars, vars_of}
use Rattle.st_match.specs.inner.Found.{AreExtensions}
use Rattle.st_match.proofs.FitAll.{matches-alone}
use Rattle.st_match.proofs.matching.matches.Goals as goal

pub extensions-requires-clause-patterns : goal.extensions-requires-clause-patterns
extensions-requires-clause-patterns c = ap (list_all is_pattern) c.from_ref-patterns.ensures.value ∙ ap (λ z. z && true) c.requires.pattern

pub extensions-requires-clause-formed : goal.extensions-requires-clause-formed
extensions-requires-clause-formed c = subst (AreFormed c.args.types.now) (sym c.from_ref-patterns.ensures.value) (formed.more c.requires.formed formed.none)

pub extensions-requires-clause-bound : goal.extensions-requires-clause-bound
extensions-requires-clause-bound c =
    ap (λ (z : List IlExp). all_known (names_of c.args.env.now ++ flattened (map binds z)) (vars_of z)) c.from_ref-patterns.ensures.value
    ∙ (ap₂ (λ y z. all_known (names_of c.args.env.now ++ y) z) (append-nil (binds c.args.pattern.now)) (append-nil (vars c.args.pattern.now)) ∙ c.requires.bound)

pub returns : goal.returns
returns c =
    matches-alone c.args.types.now c.args.variables.now c.args.pattern.now c.args.value.now c.args.env.now c.in_ok-found.found
    (subst (λ (z : List Value). AreExtensions c.args.types.now c.args.variables.now (c.args.pattern.now ∷ []) z c.args.env.now c.in_ok-found.found) c.from_ref-values.ensures.value
    (subst (λ (z : List IlExp). AreExtensions c.args.types.now c.args.variables.now z c.from_ref-values.result.now c.args.env.now c.in_ok-found.found) c.from_ref-patterns.ensures.value c.in_ok-found.ensures))
