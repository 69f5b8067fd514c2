-- What is found of a condition makes it hold.
use Rattle.std.proofs.Common.{◌≡◌, refl, sym, ◌∙◌, ap, subst, ℕ, true, false, ◌||◌, List, [], ◌++◌, bytes_eq}
use Rattle.std.specs.Prelude.{is_some}
use Rattle.std.proofs.lemmas.List.Folds.{list_any-append}
use Rattle.st_il.specs.declared.definition.Il.{Il}
use Rattle.st_il.specs.declared.definition.Listed.{Listed}
use Rattle.st_il.specs.declared.expression.IlExp.{IlExp}
use Rattle.st_il.specs.declared.expression.IlPrem.{IlPrem, out-IlPrem}
use Rattle.st_il.specs.declared.expression.IlPrem.TheOpen.{IlPrem-F}
use Rattle.st_il.specs.declared.value.Env.{Env}
use Rattle.st_il.specs.declared.value.Value.{Value}
use Rattle.st_il.specs.declared.value.Value.TheVariants as value
use Rattle.st_semantics.specs.declared.outcome.Outcome.TheVariants.{Val}
use Rattle.st_il.specs.Names.{Name, has_name, all_known}
use Rattle.st_il.specs.Definitions.{syntaxes}
use Rattle.st_semantics.specs.Environments.{IsSomeTyped, names_of, type_of, listed_names}
use Rattle.st_semantics.specs.Variables.{vars, prem_vars, cites}
use Rattle.st_semantics.specs.Matching.{no_answers, IsMatch}
use Rattle.st_semantics.specs.Holding as h
use Rattle.st_semantics.specs.Calls.{no_goal, CallAt, ValueAt}
use Rattle.st_semantics.specs.Derivation.{Root, done, plain}
use Rattle.st_semantics.specs.Laws.{CallsAreSingle}
use Rattle.st_semantics.proofs.Names.{Within, within-right, known-within, prem-level}
use Rattle.st_semantics.proofs.Agree.{Gives-agree}
use Rattle.st_semantics.proofs.Acceptance.{cites-level}
use Rattle.st_semantics.proofs.Inverse.{holds_condition}
use Rattle.st_eval.specs.Meeting.{IsEquation}
use Rattle.st_eval.specs.Steps.{value_at, HasOnly, HoldsWith}
use Rattle.st_eval.specs.inner.Beside.{beside, entries_among}
use Rattle.st_eval.proofs.InByteOrder.{in_byte_order, is_in_order, in_order_value}
use Rattle.st_eval.proofs.Conditions.{absorbed, match_holds}
use Rattle.st_eval.proofs.Lookups.{lookup-names}
use Rattle.st_search.specs.inner.Steps.{IsSolution}
use Rattle.st_search.proofs.Extended.{beside_inside, beside_agrees, beside_only}

-- in byte order an environment has the same names
pub order_names : (env : Env) (x : Name) → has_name (names_of (in_byte_order env)) x ≡ has_name (names_of env) x
order_names env x = lookup-names x (in_byte_order env).entries ∙ (ap is_some (in_order_value env x) ∙ sym (lookup-names x env.entries))

-- the same names before others
pub names_alike : (xs ys zs : List Name) (x : Name) → has_name xs x ≡ has_name ys x → has_name (xs ++ zs) x ≡ has_name (ys ++ zs) x
names_alike xs ys zs x same = list_any-append (bytes_eq x) xs zs ∙ (ap (λ z. z || has_name zs x) same ∙ sym (list_any-append (bytes_eq x) ys zs))

-- a condition cites nothing
pub condition_cites : (p : IlPrem) (e : IlExp) → out-IlPrem p ≡ IlPrem-F.If e → cites p ≡ false
condition_cites p e is = cites-level p (IlPrem-F.If e) is

module _ (il : Il) (n : ℕ) (root : Root) (bound : List Name) (ls : List Listed) (env : Env) (p : IlPrem) (e : IlExp) (is : out-IlPrem p ≡ IlPrem-F.If e) (only : HasOnly il ls bound env) where
  -- a test that is true binds nothing
  pub solution_test : all_known bound (vars e) ≡ true → ValueAt il n env e (Val (value.Bool true)) → IsSolution il n root bound ls env p (record { env = record { entries = [] }; children = [] })
  solution_test known gives = record {
    agrees = λ x i. refl;
    variables = record {
      names_are = λ x. only.names_are x ∙ absorbed bound (prem_vars p) within x;
      typed = λ x i. only.typed x (absorbed bound (prem_vars p) within x ∙ i);
    };
    proved = plain (condition_cites p e is) (h.condition e is gives) done;
  }
    where
      within : Within (prem_vars p) bound
      within x i = known-within bound (vars e) known x (subst (λ z. has_name z x ≡ true) (prem-level p (IlPrem-F.If e) is) i)

  module _ (single : CallsAreSingle il) (side pattern : IlExp) (equation : IsEquation il bound ls e side pattern) (v : Value) (gives : ValueAt il n env side (Val v)) (few : Env) (few_are : few.entries ≡ entries_among env (vars pattern)) where
    -- what matches the pattern makes an equation hold
    pub solution_bind : (more : Env) → IsMatch (syntaxes il) ls pattern v few more → IsSolution il n root bound ls env p (record { env = more; children = [] })
    solution_bind more m = record {
      agrees = beside_agrees il bound ls env only (vars pattern) few few_are more m.names m.extends;
      variables = record {
        names_are = λ x. sym (order_names (beside env more) x) ∙ holds.variables.names_are x;
        typed = λ x i l at. subst (IsSomeTyped (syntaxes il) (type_of l)) (in_order_value (beside env more) x) (holds.variables.typed x i l at);
      };
      proved = plain (condition_cites p e is)
          (h.condition e is (Gives-agree (syntaxes il) (CallAt il n) (holds_condition (value_at il n) (Unit {0}) no_goal (in_byte_order (beside env more)) p e holds.holds is) (beside env more) (λ x i. in_order_value (beside env more) x))) done;
    }
      where
        all : HasOnly il ls (bound ++ vars pattern) (beside env more)
        all = beside_only il bound ls env only (vars pattern) few few_are more m.names m.extends m.typed

        same_bound : (x : Name) → has_name (bound ++ vars pattern) x ≡ has_name (names_of env ++ vars pattern) x
        same_bound x = names_alike bound (names_of env) (vars pattern) x (sym (only.names_are x))

        match : IsMatch (syntaxes il) ls pattern v env (in_byte_order (beside env more))
        match = record {
          ordered = is_in_order (beside env more);
          names = λ x. order_names (beside env more) x ∙ (all.names_are x ∙ same_bound x);
          extends = λ x i. beside_agrees il bound ls env only (vars pattern) few few_are more m.names m.extends x (sym (only.names_are x) ∙ i) ∙ sym (in_order_value (beside env more) x);
          typed = λ x i l at. subst (IsSomeTyped (syntaxes il) (type_of l)) (sym (in_order_value (beside env more) x)) (all.typed x (within-right bound (vars pattern) x i) l at);
          value = Gives-agree (syntaxes il) no_answers m.value (in_byte_order (beside env more)) (λ x i. sym (in_order_value (beside env more) x ∙ beside_inside il bound ls env only (vars pattern) few few_are more m.names m.extends x i));
        }

        holds : HoldsWith il n bound ls env p (in_byte_order (beside env more))
        holds = match_holds il single n bound ls env p e side pattern is equation.sides v equation.matched
            (subst (λ z. all_known (listed_names ls) z ≡ true) (sym (prem-level p (IlPrem-F.If e) is)) equation.listed) only gives (in_byte_order (beside env more)) match
