-- The variables of an expression by its operands, and those of an iteration by its parts.
use Rattle.std.proofs.Common.{◌≡◌, refl, sym, ◌∙◌, ap, ap₂, subst, List, [], ◌∷◌, ◌++◌, Bool, true, false, not, ◌&&◌, ◌||◌, if◌then◌else◌, bytes_eq}
use Rattle.std.proofs.lemmas.List.Folds.{list_all-append, list_any-append}
use Rattle.st_il.specs.declared.definition.SyntaxDef.{SyntaxDef}
use Rattle.st_il.specs.declared.expression.IlExp.{IlExp, out-IlExp, roll-IlExp, roll-out-IlExp}
use Rattle.st_il.specs.declared.expression.IlExp.TheOpen.{IlExp-F}
use Rattle.st_il.specs.declared.expression.IlExp.TheVariants as exp
use Rattle.st_il.specs.declared.expression.Iteration.{Iteration}
use Rattle.st_il.specs.Names.{Name, has_name, all_known, without}
use Rattle.st_semantics.specs.Operands.{operands_at, item_exp, segment_exps}
use Rattle.st_semantics.specs.Forms.{HasForm, Strict, Variable, Calls, Iterates, by_itself, structure, absent_list, absent_option}
use Rattle.st_semantics.specs.Formed.{IsFormed, AreFormed}
use Rattle.st_semantics.specs.Formed as formed
use Rattle.st_semantics.specs.Variables.{vars, vars_of}
use Rattle.st_semantics.proofs.Names.{vars-form}
use Rattle.st_match.proofs.FormLevels.{operands_form, variable_level, call_level, iteration_level}

module _ (defs : List SyntaxDef) where
  variable_out : (e : IlExp) (x : Name) → HasForm defs e (Variable x) → out-IlExp e ≡ IlExp-F.Var x
  variable_out e x (by_itself is) = variable_level (out-IlExp e) x is
  variable_out e x (structure type gs declared is has long k) = cc
  variable_out e x (absent_list type element is means k) = cc
  variable_out e x (absent_option type element is means k) = cc

  call_out : (e : IlExp) (f : Name) (gs : List IlExp) → HasForm defs e (Calls f gs) → out-IlExp e ≡ IlExp-F.Call f gs
  call_out e f gs (by_itself is) = call_level (out-IlExp e) f gs is
  call_out e f gs (structure type es declared is has long k) = cc
  call_out e f gs (absent_list type element is means k) = cc
  call_out e f gs (absent_option type element is means k) = cc

  iteration_out : (e : IlExp) (how : Iteration) (xs : List Name) (body : IlExp) → HasForm defs e (Iterates how xs body) → out-IlExp e ≡ IlExp-F.Iter how xs body
  iteration_out e how xs body (by_itself is) = iteration_level (out-IlExp e) how xs body is
  iteration_out e how xs body (structure type es declared is has long k) = cc
  iteration_out e how xs body (absent_list type element is means k) = cc
  iteration_out e how xs body (absent_option type element is means k) = cc

  -- the operands of an expression that is no variable and no iteration have forms, and its variables
  pub record Parts (e : IlExp) : Type 0 where
    pub formed : AreFormed defs (operands_at item_exp segment_exps (out-IlExp e))
    pub vars_are : vars e ≡ vars_of (operands_at item_exp segment_exps (out-IlExp e))

  pub operand_parts : (e : IlExp) → IsFormed defs e → ((x : Name) → e ≡ exp.Var x → ⊥) → ((how : Iteration) (xs : List Name) (body : IlExp) → e ≡ exp.Iter how xs body → ⊥) → Parts e
  operand_parts e (formed.strict es f h all) v k =
      let same = operands_form defs e es f h in
      record { formed = subst (AreFormed defs) (sym same) all; vars_are = vars-form defs e (Strict es f) h ∙ ap vars_of (sym same) }
  operand_parts e (formed.variable x h) v k = absurd (v x (sym (roll-out-IlExp e) ∙ (ap roll-IlExp (variable_out e x h) ∙ exp.rolls-Var x)))
  operand_parts e (formed.call fun args h all) v k =
      let is = call_out e fun args h in
      record {
        formed = subst (λ z. AreFormed defs (operands_at item_exp segment_exps z)) (sym is) all;
        vars_are = vars-form defs e (Calls fun args) h ∙ ap (λ z. vars_of (operands_at item_exp segment_exps z)) (sym is);
      }
  operand_parts e (formed.iteration how xs body h counts b) v k = absurd (k how xs body (sym (roll-out-IlExp e) ∙ (ap roll-IlExp (iteration_out e how xs body h) ∙ exp.rolls-Iter how xs body)))

-- what is known but for an index is known with it
pub known_inside_is : (index known xs : List Name) → all_known (index ++ known) xs ≡ all_known known (without index xs)
known_inside_is index known [] = refl
known_inside_is index known (x ∷ xs) = at (has_name index x) refl (known_inside_is index known xs)
  where
    at : (b : Bool) → has_name index x ≡ b → all_known (index ++ known) xs ≡ all_known known (without index xs)
        → (has_name (index ++ known) x && all_known (index ++ known) xs) ≡ all_known known (if not b then x ∷ without index xs else without index xs)
    at true k ih = ap (λ z. z && all_known (index ++ known) xs) (list_any-append (bytes_eq x) index known ∙ ap (λ z. z || has_name known x) k) ∙ ih
    at false k ih = ap₂ (λ y z. y && z) (list_any-append (bytes_eq x) index known ∙ ap (λ z. z || has_name known x) k) ih

-- the variables of an iteration whose count and names are known
pub iteration_known : (index known counts xs body : List Name) (a b r : Bool) → a ≡ all_known known counts → a ≡ true → b ≡ all_known known xs → b ≡ true → r ≡ all_known (index ++ known) body
    → r ≡ all_known known (counts ++ xs ++ without index body)
iteration_known index known counts xs body a b r ea ta eb tb er =
    er ∙ (known_inside_is index known body ∙ sym (
    list_all-append (has_name known) (counts ++ xs) (without index body)
    ∙ ap (λ z. z && all_known known (without index body)) (list_all-append (has_name known) counts xs ∙ ap₂ (λ y z. y && z) (sym ea ∙ ta) (sym eb ∙ tb))))
