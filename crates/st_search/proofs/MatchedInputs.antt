-- What is matched of the inputs of a rule: patterns whose variables these patterns bind.
use Rattle.std.proofs.Common.{◌≡◌, refl, ap₂, ℕ, Bool, true, false, not, ◌&&◌, ◌||◌, if◌then◌else◌, nat_eq, List, [], ◌∷◌, ◌++◌, length, map, filter, inl, inr, Ok}
use Rattle.std.specs.List.{list_all}
use Rattle.st_il.specs.declared.definition.Il.{Il}
use Rattle.st_il.specs.declared.definition.RuleDef.{RuleDef}
use Rattle.st_il.specs.declared.definition.SyntaxDef.{SyntaxDef}
use Rattle.st_il.specs.declared.expression.IlExp.{IlExp}
use Rattle.st_il.specs.Names.{has_name, all_known, flattened}
use Rattle.st_il.specs.Definitions.{syntaxes}
use Rattle.st_semantics.specs.Directions.{mask}
use Rattle.st_semantics.specs.Environments.{names_of}
use Rattle.st_semantics.specs.Formed as formed
use Rattle.st_semantics.specs.Formed.{AreFormed}
use Rattle.st_semantics.specs.Variables.{vars, vars_of}
use Rattle.st_semantics.specs.Patterns.{is_pattern, binds, bound_by}
use Rattle.st_semantics.specs.Orders.{inputs_of_rule, is_input}
use Rattle.st_semantics.specs.OrderOf.{order_of}
use Rattle.st_semantics.specs.RuleDepth.{no_variables}
use Rattle.st_semantics.proofs.Names.{Within, within-cases, within-left, within-right, known-within, and-both}
use Rattle.st_eval.proofs.Trying.{known_all}
use Rattle.st_search.specs.Searchable.{CanBeRun}
use Rattle.st_search.specs.declared.holes.Evaluated.TheVariants.{Closed}
use Rattle.st_search.specs.inner.Holes.{is_evaluated, matched_of}
use Rattle.st_search.proofs.AreFormed.{formed_filtered, formed_by}
use Rattle.st_search.proofs.GoalParts.{vars_filtered}
use Rattle.st_search.proofs.PatternBinds.{binds_within}
use Rattle.st_search.proofs.Starts.{closed_none}
use Rattle.st_search.proofs.TreeOf.{order_parts}

-- inputs that are not closed are patterns
open_patterns : (es : List IlExp) → list_all is_input es ≡ true → list_all is_pattern (matched_of Closed es) ≡ true
open_patterns [] h = refl
open_patterns (e ∷ es) h =
    let both = and-both (is_input e) (list_all is_input es) h in
    at (is_pattern e) (nat_eq (length (vars e)) 0) refl both.0 (open_patterns es both.1)
  where
    at : (p c : Bool) → is_pattern e ≡ p → (p || c) ≡ true → list_all is_pattern (matched_of Closed es) ≡ true → list_all is_pattern (if not c then e ∷ matched_of Closed es else matched_of Closed es) ≡ true
    at p true h k rest = rest
    at true false h k rest = ap₂ (λ a b. a && b) h rest
    at false false h k rest = cc

-- what inputs bind is bound by those that are matched, since what is closed binds nothing
bound_matched : (defs : List SyntaxDef) (es : List IlExp) → AreFormed defs es → Within (bound_by es) (flattened (map binds (matched_of Closed es)))
bound_matched defs [] all x i = i
bound_matched defs (e ∷ es) (formed.more first rest) x i = at (is_pattern e) (nat_eq (length (vars e)) 0) refl refl i (bound_matched defs es rest x)
  where
    at : (p c : Bool) → is_pattern e ≡ p → nat_eq (length (vars e)) 0 ≡ c → has_name (flattened (map binds (if p then e ∷ filter is_pattern es else filter is_pattern es))) x ≡ true
        → (has_name (bound_by es) x ≡ true → has_name (flattened (map binds (matched_of Closed es))) x ≡ true)
        → has_name (flattened (map binds (if not c then e ∷ matched_of Closed es else matched_of Closed es))) x ≡ true
    at true true h k i later = elim (within-cases (binds e) (bound_by es) x i) [ inl j ↦ absurd (closed_none (vars e) k x (binds_within defs first h x j)) | inr j ↦ later j ]
    at true false h k i later = elim (within-cases (binds e) (bound_by es) x i) [
      | inl j ↦ within-left (binds e) (flattened (map binds (matched_of Closed es))) x j
      | inr j ↦ within-right (binds e) (flattened (map binds (matched_of Closed es))) x (later j)
    ]
    at false true h k i later = later i
    at false false h k i later = within-right (binds e) (flattened (map binds (matched_of Closed es))) x (later i)

module _ (il : Il) (rule : RuleDef) (can : CanBeRun il rule) where
  pub inputs_formed : AreFormed (syntaxes il) (inputs_of_rule il rule)
  inputs_formed = formed_by (syntaxes il) (mask il rule.relation) rule.conclusion can.formed.0

  pub matched_formed : AreFormed (syntaxes il) (matched_of Closed (inputs_of_rule il rule))
  matched_formed = formed_filtered (syntaxes il) (λ (e : IlExp). not (is_evaluated Closed e)) (inputs_of_rule il rule) inputs_formed

  module _ (order : List ℕ) (is_order_of : order_of il rule ≡ Ok order) where
    input_parts : (list_all is_input (inputs_of_rule il rule) ≡ true) × (all_known (bound_by (inputs_of_rule il rule)) (vars_of (inputs_of_rule il rule)) ≡ true)
    input_parts = and-both (list_all is_input (inputs_of_rule il rule)) (all_known (bound_by (inputs_of_rule il rule)) (vars_of (inputs_of_rule il rule))) (order_parts il rule can order is_order_of).1

    pub matched_patterns : list_all is_pattern (matched_of Closed (inputs_of_rule il rule)) ≡ true
    matched_patterns = open_patterns (inputs_of_rule il rule) input_parts.0

    pub matched_bound : all_known (names_of no_variables ++ flattened (map binds (matched_of Closed (inputs_of_rule il rule)))) (vars_of (matched_of Closed (inputs_of_rule il rule))) ≡ true
    matched_bound = known_all (flattened (map binds (matched_of Closed (inputs_of_rule il rule)))) (vars_of (matched_of Closed (inputs_of_rule il rule))) (λ x i.
        bound_matched (syntaxes il) (inputs_of_rule il rule) inputs_formed x
        (known-within (bound_by (inputs_of_rule il rule)) (vars_of (inputs_of_rule il rule)) input_parts.1 x (vars_filtered (λ (e : IlExp). not (is_evaluated Closed e)) (inputs_of_rule il rule) x i)))
