-- What meets an answer to a goal makes the goal hold.
use Rattle.std.proofs.Common.{◌≡◌, refl, sym, ◌∙◌, subst, ℕ, Bool, true, false, not, List, [], ◌∷◌, ◌++◌, All}
use Rattle.std.specs.Prelude.{Contains}
use Rattle.std.specs.List.{list_all, AllByRecursion}
use Rattle.std.proofs.lemmas.List.Elements.{All-head, All-tail, All-contains_itself}
use Rattle.st_il.specs.declared.definition.Il.{Il}
use Rattle.st_il.specs.declared.definition.Listed.{Listed}
use Rattle.st_il.specs.declared.expression.IlExp.{IlExp}
use Rattle.st_il.specs.declared.expression.IlPrem.{IlPrem, out-IlPrem}
use Rattle.st_il.specs.declared.expression.IlPrem.TheOpen.{IlPrem-F}
use Rattle.st_il.specs.declared.tree.Child.{Child}
use Rattle.st_il.specs.declared.tree.Child.TheVariants as child
use Rattle.st_il.specs.declared.value.Env.{Env}
use Rattle.st_il.specs.declared.value.Value.{Value}
use Rattle.st_il.specs.Names.{Name}
use Rattle.st_il.specs.Definitions.{syntaxes, rules_in}
use Rattle.st_semantics.specs.Directions.{mask, inputs_of, outputs_of}
use Rattle.st_semantics.specs.Environments.{AgreeOn}
use Rattle.st_semantics.specs.Evaluation.{tasks}
use Rattle.st_semantics.specs.Variables.{vars, vars_of}
use Rattle.st_semantics.specs.Patterns.{is_pattern, bound_by}
use Rattle.st_semantics.specs.Executable.{is_met}
use Rattle.st_semantics.specs.Matching.{no_answers}
use Rattle.st_semantics.specs.Holding.{HaveValues, value_by}
use Rattle.st_semantics.specs.Calls.{CallAt, has_value_at}
use Rattle.st_semantics.specs.Derivation as derivation
use Rattle.st_semantics.specs.Derivation.{Root}
use Rattle.st_semantics.specs.Chains.{excluded_at}
use Rattle.st_semantics.proofs.Names.{known-within, and-both}
use Rattle.st_semantics.proofs.Agree.{HaveValues-agree, value_by-local}
use Rattle.st_match.specs.inner.Found.{IsExtension}
use Rattle.st_eval.specs.Steps.{HasOnly}
use Rattle.st_eval.specs.inner.Beside.{beside, entries_among}
use Rattle.st_search.specs.Searchable.{CanBeRun}
use Rattle.st_search.specs.Answers.{goal_of, IsOutput}
use Rattle.st_search.specs.declared.answer.Output.{Output}
use Rattle.st_search.specs.declared.found.Solution.{Solution}
use Rattle.st_search.specs.declared.holes.Evaluated.TheVariants.{Computed}
use Rattle.st_search.specs.declared.holes.Hole.{Hole}
use Rattle.st_search.specs.inner.Holes.{AreHoles, AreFitting, matched_of}
use Rattle.st_search.specs.inner.Meeting.{MeetsAnswer}
use Rattle.st_search.specs.inner.RunBy.{IsJudged}
use Rattle.st_search.specs.inner.Solutions.{with_children}
use Rattle.st_search.specs.inner.Steps.{IsSolution}
use Rattle.st_search.proofs.Extended.{beside_inside, beside_agrees, beside_only}
use Rattle.st_search.proofs.FittingValues.{IsSettled, fitting_values}
use Rattle.st_search.proofs.Masks.{values_of_both, values_long}
use Rattle.st_search.proofs.GoalParts.{met_known, bound_behind_goal}

-- what is right of each environment is so of each solution with the same children
pub each_with : (Q : Solution → Type 0) (P : Env → Type 0) (children : List Child) → ((env : Env) → P env → Q (record { env = env; children = children })) → (envs : List Env) → All P envs → AllByRecursion Q (with_children children envs)
each_with Q P children right [] all = tt
each_with Q P children right (env ∷ envs) all = (right env (All-head P env envs all), each_with Q P children right envs (All-tail P env envs all))

-- outputs that are met are settled: those that are no patterns are bound
pub outputs_settled : (bound after : List Name) (env wide : Env) → AgreeOn bound env wide → (es : List IlExp) → list_all (is_met bound after) es ≡ true → AllByRecursion (IsSettled Computed env wide) es
outputs_settled bound after env wide g [] met = tt
outputs_settled bound after env wide g (e ∷ es) met =
    let both = and-both (is_met bound after e) (list_all (is_met bound after) es) met in (
      record {
        evaluated = λ k x i. g x (known-within bound (vars e) (met_known bound after e both.0 (no_pattern (is_pattern e) k)) x i);
        matched = λ k. some_pattern (is_pattern e) k;
      },
      outputs_settled bound after env wide g es both.1,
    )
  where
    some_pattern : (b : Bool) → not b ≡ false → b ≡ true
    some_pattern true k = refl
    some_pattern false k = cc

    no_pattern : (b : Bool) → not b ≡ true → b ≡ false
    no_pattern true k = cc
    no_pattern false k = refl

module _ (il : Il) (rules : All (CanBeRun il) (rules_in il.defs)) (n : ℕ) (root : Root) (bound : List Name) (ls : List Listed) (env : Env) (only : HasOnly il ls bound env) (p : IlPrem) (relation : Name) (es : List IlExp)
    (is : out-IlPrem p ≡ IlPrem-F.Goal relation es) (judged : IsJudged il bound ls relation es) (inputs : List Value) (have : HaveValues (has_value_at il n) (tasks env (inputs_of il relation es)) inputs)
    (o : Output) (right : IsOutput il n (goal_of relation inputs) o) (holes : List Hole) (are : AreHoles il n env Computed (outputs_of il relation es) holes) where
  abbrev patterns : List IlExp
  patterns = matched_of Computed (outputs_of il relation es)

  module _ (values : List Value) (fit : AreFitting holes o.values values) (few : Env) (few_are : few.entries ≡ entries_among env (vars_of patterns)) where
    solution_one : (more : Env) → IsExtension (syntaxes il) ls patterns values few more → IsSolution il n root bound ls env p (record { env = more; children = child.One o.tree ∷ [] })
    solution_one more m = record {
      agrees = g;
      variables = record {
        names_are = λ x. all.names_are x ∙ bound_behind_goal il bound ls p relation es is judged x;
        typed = λ x i l at. all.typed x (bound_behind_goal il bound ls p relation es is judged x ∙ i) l at;
      };
      proved = derivation.goal relation es o.tree is (child.outs-One o.tree) right.valid right.relation_is values_are derivation.done;
    }
      where
        g : AgreeOn bound env (beside env more)
        g = beside_agrees il bound ls env only (vars_of patterns) few few_are more m.names m.extends

        all : HasOnly il ls (bound ++ vars_of patterns) (beside env more)
        all = beside_only il bound ls env only (vars_of patterns) few few_are more m.names m.extends m.typed

        ins_are : HaveValues (has_value_at il n) (tasks (beside env more) (inputs_of il relation es)) (inputs_of il relation o.tree.values)
        ins_are = subst (HaveValues (has_value_at il n) (tasks (beside env more) (inputs_of il relation es))) (sym right.inputs_are)
            (HaveValues-agree (has_value_at il n) (value_by-local (syntaxes il) (CallAt il n)) (inputs_of il relation es) inputs env (beside env more) (λ x i. g x (known-within bound (vars_of (inputs_of il relation es)) judged.known x i)) have)

        fits_there : HaveValues (value_by (syntaxes il) no_answers) (tasks (beside env more) patterns) values
        fits_there = HaveValues-agree (value_by (syntaxes il) no_answers) (value_by-local (syntaxes il) no_answers) patterns values more (beside env more)
            (λ x i. sym (beside_inside il bound ls env only (vars_of patterns) few few_are more m.names m.extends x i)) m.fit

        outs_are : HaveValues (has_value_at il n) (tasks (beside env more) (outputs_of il relation es)) (outputs_of il relation o.tree.values)
        outs_are = subst (HaveValues (has_value_at il n) (tasks (beside env more) (outputs_of il relation es))) (sym right.outputs_are)
            (fitting_values il n Computed env (beside env more) (outputs_of il relation es) holes o.values values are fit
            (outputs_settled bound (bound ++ bound_by (outputs_of il relation es)) env (beside env more) g (outputs_of il relation es) judged.met) fits_there)

        values_are : HaveValues (has_value_at il n) (tasks (beside env more) es) o.tree.values
        values_are = values_of_both (has_value_at il n) (beside env more) (mask il relation) es o.tree.values judged.typed.long
            (values_long il rules (has_value_at il n) (excluded_at il n) o.tree relation right.valid right.relation_is) ins_are outs_are

  -- each solution that meets the answer is right
  pub solution_goal : (found : List Solution) → MeetsAnswer (syntaxes il) ls env holes patterns o found → AllByRecursion (IsSolution il n root bound ls env p) found
  solution_goal found meets = subst (AllByRecursion (IsSolution il n root bound ls env p)) (sym meets.found_are)
      (each_with (IsSolution il n root bound ls env p) (Contains meets.envs) (child.One o.tree ∷ [])
      (λ more contains. solution_one meets.values meets.fit meets.few meets.few_are more ((meets.extend.exactly more).0 contains)) meets.envs (All-contains_itself meets.envs))
