use Rattle.std.proofs.Common.{rules, ◌≡◌, true, sym, subst, List, [], ◌∷◌, ◌++◌}
use Rattle.std.specs.List.{list_all}
use Rattle.st_il.specs.declared.value.Env.{Env}
use Rattle.st_il.specs.Names.{all_known}
use Rattle.st_il.specs.Definitions.{syntaxes}
use Rattle.st_semantics.specs.Formed.{AreFormed}
use Rattle.st_semantics.specs.Patterns.{is_pattern, bound_by}
use Rattle.st_semantics.specs.Variables.{vars_of}
use Rattle.st_eval.proofs.Trying.{clause_binds}
use Rattle.st_eval.proofs.Tried.{unmatched_args, some_args, matched_slices}
use Rattle.st_eval.proofs.clause.try_clause.Goals as goal

pub all_match-requires-clause-patterns : goal.all_match-requires-clause-patterns
all_match-requires-clause-patterns g c =
    subst (λ z. list_all is_pattern z ≡ true) (sym c.as_slice-patterns.ensures) (clause_binds c.args.setting.now.index.now c.args.clause.now c.requires.clause.runnable).patterns

pub all_match-requires-clause-formed : goal.all_match-requires-clause-formed
all_match-requires-clause-formed g c =
    subst (AreFormed c.args.setting.now.types.now) (sym c.as_slice-patterns.ensures) (subst (λ z. AreFormed z c.args.clause.now.args) (sym c.requires.setting.types_are) c.requires.clause.arguments)

pub all_match-requires-clause-bound : goal.all_match-requires-clause-bound
all_match-requires-clause-bound g c =
    subst (λ z. all_known (bound_by z) (vars_of z) ≡ true) (sym c.as_slice-patterns.ensures) (clause_binds c.args.setting.now.index.now c.args.clause.now c.requires.clause.runnable).args

pub returns-in-None : goal.returns-in-None
returns-in-None g c =
    unmatched_args c.args.setting.now.index.now c.args.setting.now.depth c.args.clause.now c.requires.clause c.args.args.now c.in_ok-found.found
    (matched_slices c.args.setting.now.types.now (syntaxes c.args.setting.now.index.now) c.args.clause.now c.as_slice-variables.result.now c.as_slice-patterns.result.now c.args.args.now c.in_ok-found.found c.requires.setting.types_are
    c.as_slice-variables.ensures c.as_slice-patterns.ensures c.in_ok-found.ensures) (search rules)

pub meet_all-requires-clause-variables : goal.meet_all-requires-clause-variables
meet_all-requires-clause-variables g c =
    let w : (others : List Env) × (c.in_ok-found.found ≡ others ++ c.in-Some.first ∷ []) = search rules in
    (some_args c.args.setting.now.index.now c.args.setting.now.depth c.args.clause.now c.requires.clause c.args.args.now c.in_ok-found.found
    (matched_slices c.args.setting.now.types.now (syntaxes c.args.setting.now.index.now) c.args.clause.now c.as_slice-variables.result.now c.as_slice-patterns.result.now c.args.args.now c.in_ok-found.found c.requires.setting.types_are
    c.as_slice-variables.ensures c.as_slice-patterns.ensures c.in_ok-found.ensures) w.0 c.in-Some.first w.1).variables

pub returns-in_ok-decided-in-Some : goal.returns-in_ok-decided-in-Some
returns-in_ok-decided-in-Some g c =
    let w : (others : List Env) × (c.in_ok-found.found ≡ others ++ c.in-Some.first ∷ []) = search rules in
    c.in_ok-decided-in-Some.ensures c.args.args.now (c.in_ok-met-in-Some.ensures c.args.args.now
    (some_args c.args.setting.now.index.now c.args.setting.now.depth c.args.clause.now c.requires.clause c.args.args.now c.in_ok-found.found
    (matched_slices c.args.setting.now.types.now (syntaxes c.args.setting.now.index.now) c.args.clause.now c.as_slice-variables.result.now c.as_slice-patterns.result.now c.args.args.now c.in_ok-found.found c.requires.setting.types_are
    c.as_slice-variables.ensures c.as_slice-patterns.ensures c.in_ok-found.ensures) w.0 c.in-Some.first w.1))
