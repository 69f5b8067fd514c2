use Rattle.std.proofs.Common.{rules, ◌≡◌, sym, subst, List, [], ◌∷◌, ◌++◌}
use Rattle.st_il.specs.declared.value.Env.{Env}
use Rattle.st_il.specs.Definitions.{syntaxes}
use Rattle.st_semantics.specs.Formed.{IsFormed}
use Rattle.st_match.specs.Matches.{AreMatches}
use Rattle.st_eval.proofs.Equations.{one_matches, none_matches}
use Rattle.st_eval.proofs.condition.matched.Goals as goal

pub matches-requires-clause-formed : goal.matches-requires-clause-formed
matches-requires-clause-formed c = subst (λ z. IsFormed z c.args.pattern.now) (sym c.requires.setting.types_are) c.requires.formed

pub returns-in-None : goal.returns-in-None
returns-in-None c =
    none_matches (syntaxes c.args.setting.now.index.now) c.args.variables.now c.args.pattern.now c.args.value.now c.args.env.now c.in_ok-found.found
    (subst (λ z. AreMatches z c.args.variables.now c.args.pattern.now c.args.value.now c.args.env.now c.in_ok-found.found) c.requires.setting.types_are c.in_ok-found.ensures) (search rules)

pub returns-in-Some : goal.returns-in-Some
returns-in-Some c =
    let w : (others : List Env) × (c.in_ok-found.found ≡ others ++ c.in-Some.more ∷ []) = search rules in
    one_matches (syntaxes c.args.setting.now.index.now) c.args.variables.now c.args.pattern.now c.args.value.now c.args.env.now c.in_ok-found.found w.0 c.in-Some.more
    (subst (λ z. AreMatches z c.args.variables.now c.args.pattern.now c.args.value.now c.args.env.now c.in_ok-found.found) c.requires.setting.types_are c.in_ok-found.ensures) w.1
