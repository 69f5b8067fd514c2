-- What is found where the inputs of a rule are matched, whatever the goal is.
use Rattle.std.proofs.Common.{◌≡◌, sym, ◌∙◌, ap, subst, ℕ, true, List, [], ◌++◌, map, Ok, Option, Some, None, MatchOption}
use Rattle.std.specs.List.{list_all}
use Rattle.st_il.specs.declared.definition.Listed.{Listed}
use Rattle.st_il.specs.declared.definition.RuleDef.{RuleDef}
use Rattle.st_il.specs.declared.expression.IlExp.{IlExp}
use Rattle.st_il.specs.declared.value.Env.{Env}
use Rattle.st_il.specs.declared.value.Value.{Value}
use Rattle.st_il.specs.Names.{all_known, flattened}
use Rattle.st_il.specs.Definitions.{syntaxes}
use Rattle.st_semantics.specs.Environments.{names_of}
use Rattle.st_semantics.specs.Formed.{AreFormed}
use Rattle.st_semantics.specs.Variables.{vars_of}
use Rattle.st_semantics.specs.Patterns.{is_pattern, binds}
use Rattle.st_semantics.specs.Orders.{inputs_of_rule}
use Rattle.st_semantics.specs.OrderOf.{order_of}
use Rattle.st_semantics.specs.Goals.{Goal}
use Rattle.st_semantics.specs.RuleDepth.{no_variables}
use Rattle.st_match.specs.inner.Found.{AreExtensions}
use Rattle.st_eval.specs.inner.Beside.{entries_among}
use Rattle.st_search.specs.Searchable.{CanBeRun}
use Rattle.st_search.specs.declared.found.Partial.{Partial}
use Rattle.st_search.specs.declared.holes.Evaluated.TheVariants.{Closed}
use Rattle.st_search.specs.declared.holes.Hole.{Hole}
use Rattle.st_search.specs.declared.setting.Search.{Search}
use Rattle.st_search.specs.inner.Holes.{AreHoles, HasDeepHole, AreFitting, matched_of}
use Rattle.st_search.specs.inner.Rules.{run_seeks, started}
use Rattle.st_search.specs.inner.Search.{IsSearch}
use Rattle.st_search.specs.inner.Sought.{Finds}
use Rattle.st_search.proofs.GoalFinds.{holes_not_deep}
use Rattle.st_search.proofs.MatchedInputs.{inputs_formed, matched_formed, matched_patterns, matched_bound}
use Rattle.st_search.proofs.Starts.{start_misfit, starts_right, start_wanted, starts_found}

-- the values at the patterns, where those of a goal fit
abbrev pub AreFittingIf : List Hole → List Value → Option (List Value) → Type 0
AreFittingIf holes inputs r = MatchOption r ((values : List Value) → AreFitting holes inputs values → ⊥) (λ values. AreFitting holes inputs values)

-- environments in which patterns have values
abbrev pub AreExtended : Search → List Listed → List IlExp → List Value → List Env → Type 0
AreExtended s ls patterns values envs = (few : Env) × (few.entries ≡ entries_among no_variables (vars_of patterns)) × AreExtensions (syntaxes s.setting.index.now) ls patterns values few envs

module _ (s : Search) (known : IsSearch s) (rule : RuleDef) (can : CanBeRun s.setting.index.now rule) (ins : List IlExp) (ins_are : ins ≡ inputs_of_rule s.setting.index.now rule) where
  pub ins_formed : AreFormed (syntaxes s.setting.index.now) ins
  ins_formed = subst (AreFormed (syntaxes s.setting.index.now)) (sym ins_are) (inputs_formed s.setting.index.now rule can)

  -- none of the inputs that are evaluated is Deep
  pub closed_quiet : (holes : List Hole) → AreHoles s.setting.index.now s.setting.depth no_variables Closed ins holes → HasDeepHole s.setting.index.now s.setting.depth no_variables Closed ins → ⊥
  closed_quiet holes are = holes_not_deep s.setting.index.now known.searchable.evaluable.single s.setting.depth Closed no_variables ins holes are

  module _ (ordered : (order : List ℕ) × (order_of s.setting.index.now rule ≡ Ok order)) where
    module _ (patterns : List IlExp) (patterns_are : patterns ≡ matched_of Closed ins) where
      back : matched_of Closed (inputs_of_rule s.setting.index.now rule) ≡ patterns
      back = sym (patterns_are ∙ ap (matched_of Closed) ins_are)

      pub patterns_all : list_all is_pattern patterns ≡ true
      patterns_all = subst (λ z. list_all is_pattern z ≡ true) back (matched_patterns s.setting.index.now rule can ordered.0 ordered.1)

      pub patterns_formed : AreFormed (syntaxes s.setting.index.now) patterns
      patterns_formed = subst (AreFormed (syntaxes s.setting.index.now)) back (matched_formed s.setting.index.now rule can)

      pub patterns_bound : all_known (names_of no_variables ++ flattened (map binds patterns)) (vars_of patterns) ≡ true
      patterns_bound = subst (λ z. all_known (names_of no_variables ++ flattened (map binds z)) (vars_of z) ≡ true) back (matched_bound s.setting.index.now rule can ordered.0 ordered.1)

    module _ (inputs : List Value) where
      abbrev pub StartsFound : List Partial → Type 0
      StartsFound starts = (g : Goal) (number : ℕ) → g.inputs ≡ inputs → Finds s.setting.index.now s.setting.depth 0 (run_seeks s.setting.index.now s.setting.depth g number rule []) starts

      module _ (holes : List Hole) (are : AreHoles s.setting.index.now s.setting.depth no_variables Closed ins holes) where
        all_are : AreHoles s.setting.index.now s.setting.depth no_variables Closed (inputs_of_rule s.setting.index.now rule) holes
        all_are = subst (λ z. AreHoles s.setting.index.now s.setting.depth no_variables Closed z holes) ins_are are

        module _ (r : Option (List Value)) (fit : AreFittingIf holes inputs r) where
          pub misfit_finds : r ≡ None → (starts : List Partial) → starts ≡ [] → StartsFound starts
          misfit_finds is starts none g number same = subst (Finds s.setting.index.now s.setting.depth 0 (run_seeks s.setting.index.now s.setting.depth g number rule [])) (sym none)
              (starts_found s.setting.index.now s.setting.depth g number rule [] tt (λ env reached. absurd (start_misfit s.setting.index.now s.setting.depth g number rule can ordered.0 ordered.1 holes all_are known.searchable.stable known.searchable.evaluable.single
              (λ values fits. never values (subst (λ z. AreFitting holes z values) same fits)) env reached)))
            where
              never : (values : List Value) → AreFitting holes inputs values → ⊥
              never = subst (AreFittingIf holes inputs) is fit

          pub fit_finds : (values : List Value) → r ≡ Some values → (patterns : List IlExp) → patterns ≡ matched_of Closed ins → (envs : List Env) → AreExtended s rule.variables patterns values envs
              → (starts : List Partial) → starts ≡ started envs → StartsFound starts
          fit_finds values is patterns patterns_are envs extended starts starts_are g number same =
              let w = subst (λ z. AreExtended s rule.variables z values envs) (sym (back patterns patterns_are)) extended in
              let fitting : AreFitting holes g.inputs values = subst (λ z. AreFitting holes z values) (sym same) (subst (AreFittingIf holes inputs) is fit) in
              subst (Finds s.setting.index.now s.setting.depth 0 (run_seeks s.setting.index.now s.setting.depth g number rule [])) (sym starts_are)
              (starts_found s.setting.index.now s.setting.depth g number rule (started envs)
              (starts_right s.setting.index.now s.setting.depth g number rule can ordered.0 ordered.1 holes all_are values fitting w.0 w.1 envs w.2)
              (start_wanted s.setting.index.now s.setting.depth g number rule can ordered.0 ordered.1 holes all_are values fitting w.0 w.1 envs w.2 known.searchable.stable known.searchable.evaluable.single))
