-- What is said of the inputs of a rule and of a selection that cannot go on.
use Rattle.std.proofs.Common.{◌≡◌, refl, sym, ◌∙◌, ap, ap₂, subst, ℕ, ◌<◌, ◌^◌, Bool, true, false, ◌&&◌, ◌||◌, if◌then◌else◌, List, [], ◌∷◌, ◌++◌, length, Option, Some, None, nat_eq, nat_le, slice_get, arith}
use Rattle.std.proofs.Math.Dec.{eqb-suc-zero}
use Rattle.std.proofs.lemmas.Bool.{leb-true, le-leb}
use Rattle.std.specs.Prelude.{Result, Ok, Err, IsTrue, ◌↔◌}
use Rattle.std.specs.Result.{IsErrAnd}
use Rattle.std.proofs.lemmas.Result.{err_from_is_err_and}
use Rattle.std.specs.Borrow.{Bor}
use Rattle.std.specs.List.{list_all, enumerate_from}
use Rattle.std.specs.Option.{option_copied}
use Rattle.st_il.specs.declared.definition.Il.{Il}
use Rattle.st_il.specs.declared.definition.RuleDef.{RuleDef}
use Rattle.st_il.specs.declared.expression.IlExp.{IlExp}
use Rattle.st_il.specs.declared.expression.IlPrem.{IlPrem}
use Rattle.st_semantics.specs.declared.unfit.Unordered.{Unordered}
use Rattle.st_il.specs.Names.{Name, all_known, without, least}
use Rattle.st_semantics.specs.Directions.{mask}
use Rattle.st_semantics.specs.Variables.{vars, vars_of, prem_vars}
use Rattle.st_semantics.specs.Patterns.{is_pattern, bound_by}
use Rattle.st_semantics.specs.Orders.{is_input, are_inputs, inputs_of_rule, outputs_of_rule}
use Rattle.st_semantics.specs.OrderOf as told
use Rattle.st_semantics.specs.OrderOf.{order_of, ended, unordered, fault_of_inputs, selection_of}
use Rattle.st_semantics.proofs.Selections.{law_of_orders}
use Rattle.st_order.specs.declared.fault.OrderFault.{OrderFault}
use Rattle.st_order.specs.declared.fault.OrderFault.TheVariants as fault
use Rattle.st_order.specs.declared.selection.Numbered.{Numbered}
use Rattle.st_order.specs.declared.selection.Selection.{Selection}
use Rattle.st_order.specs.Answers.{IsRule, IsAnswer, IsExact}
use Rattle.st_order.specs.inner.Index.{names_in, SameNames}
use Rattle.st_order.specs.inner.Selections.{numbered, all_numbered, IsSelection}
use Rattle.st_order.specs.inner.HolesOf.{at_holes}
use Rattle.st_order.specs.inner.Parts.{exps_in}
use Rattle.st_order.specs.inner.Endings.{AreInputs, Ends, told_of}
use Rattle.st_order.proofs.SameNames.{known_same, without_same}

-- ---- inputs

-- an expression without variables
pub none_counted : (row : List (Bor (List ℕ))) (names : List Name) (b : Bool) → IsTrue b ↔ (row ≡ []) → names_in row ≡ names → b ≡ nat_eq (length names) 0
none_counted row names b empty e = at row b refl empty ∙ ap (λ (z : List Name). nat_eq (length z) 0) e
  where
    at : (r : List (Bor (List ℕ))) (b : Bool) → row ≡ r → IsTrue b ↔ (row ≡ []) → b ≡ nat_eq (length (names_in row)) 0
    at [] true is h = sym (ap (λ z. nat_eq (length (names_in z)) 0) is)
    at [] false is h = let bad : false ≡ true = h.1 is in cc
    at (x ∷ xs) true is h = let bad : x ∷ xs ≡ [] = sym is ∙ h.0 refl in cc
    at (x ∷ xs) false is h = sym (ap (λ z. nat_eq (length (names_in z)) 0) is ∙ eqb-suc-zero (length (names_in xs)))

-- one is no pattern and not closed
pub no_input : (ins : List IlExp) → list_all is_input ins ≡ false → AreInputs ins (Some (record { premise = 0; variable = None }))
no_input ins none = (
  ap (λ b. b && all_known (bound_by ins) (vars_of ins)) none,
  ap (λ b. unordered 0 (if b then least (without (bound_by ins) (vars_of ins)) else None)) none,
)

-- all are such, and their variables are bound
pub inputs_hold : (ins : List IlExp) (known names : List Name) → list_all is_input ins ≡ true → SameNames known (bound_by ins) → names ≡ vars_of ins → all_known known names ≡ true → AreInputs ins None
inputs_hold ins known names are s n k =
    ap₂ (λ a b. a && b) are (sym (known_same known (bound_by ins) s (vars_of ins)) ∙ ap (all_known known) (sym n) ∙ k)

-- one of their variables is not bound
pub input_unbound : (ins : List IlExp) (known names : List Name) (variable : Option Name) → list_all is_input ins ≡ true → SameNames known (bound_by ins) → names ≡ vars_of ins
    → all_known known names ≡ false → variable ≡ least (without known names) → AreInputs ins (Some (record { premise = 0; variable = variable }))
input_unbound ins known names variable are s n k is = (
  ap₂ (λ a b. a && b) are (sym (known_same known (bound_by ins) s (vars_of ins)) ∙ ap (all_known known) (sym n) ∙ k),
  ap (λ b. unordered 0 (if b then least (without (bound_by ins) (vars_of ins)) else None)) are
      ∙ ap (unordered 0) (sym (is ∙ ap (λ z. least (without known z)) n ∙ ap least (without_same known (bound_by ins) s (vars_of ins)))),
)

-- ---- the end

abbrev pub unordered_by : ℕ → Option Name → Unordered
unordered_by premise variable = record { premise = premise; variable = variable }

pub premise_left : (outs : List IlExp) (t : told.Selection) (p : told.Numbered) (ps : List told.Numbered) (u : Unordered) → t.left ≡ p ∷ ps
    → u ≡ record { premise = p.0; variable = least (without t.bound (prem_vars p.1)) } → Ends outs t (Some u)
premise_left outs t p ps u left is = ap (ended outs t) left ∙ ap (λ (z : Unordered). unordered z.premise z.variable) (sym is)

pub outputs_hold : (outs : List IlExp) (t : told.Selection) (names : List Name) → t.left ≡ [] → names ≡ vars_of outs → all_known t.bound names ≡ true → Ends outs t None
outputs_hold outs t names left n k =
    ap (ended outs t) left ∙ ap (λ b. if b then Ok t.order else unordered 0 (least (without t.bound (vars_of outs)))) (ap (all_known t.bound) (sym n) ∙ k)

pub output_unbound : (outs : List IlExp) (t : told.Selection) (names : List Name) (variable : Option Name) → t.left ≡ [] → names ≡ vars_of outs → all_known t.bound names ≡ false
    → variable ≡ least (without t.bound names) → Ends outs t (Some (record { premise = 0; variable = variable }))
output_unbound outs t names variable left n k is =
    ap (ended outs t) left ∙ ap (λ b. if b then Ok t.order else unordered 0 (least (without t.bound (vars_of outs)))) (ap (all_known t.bound) (sym n) ∙ k)
    ∙ ap (unordered 0) (sym (is ∙ ap (λ z. least (without t.bound z)) n))

-- ---- the whole

module _ (il : Il) (rule : RuleDef) where
  abbrev whole : told.Selection
  whole = selection_of il rule

  ended_same : (outs : List IlExp) (s : Selection) (t : told.Selection) → IsSelection s t → (left : List told.Numbered) → ended outs (told_of s) left ≡ ended outs t left
  ended_same outs s t is [] =
      ap₂ (λ b z. if b then Ok s.order else unordered 0 (least z)) (known_same (names_in s.bound.keys) t.bound is.bound (vars_of outs)) (without_same (names_in s.bound.keys) t.bound is.bound (vars_of outs))
      ∙ ap (λ n. if all_known t.bound (vars_of outs) then Ok n else unordered 0 (least (without t.bound (vars_of outs)))) is.order
  ended_same outs s t is (p ∷ ps) = ap (λ z. unordered p.0 (least z)) (without_same (names_in s.bound.keys) t.bound is.bound (prem_vars p.1))

  by_inputs : are_inputs (inputs_of_rule il rule) ≡ true → order_of il rule ≡ ended (outputs_of_rule il rule) whole whole.left
  by_inputs are = ap (λ b. if b then ended (outputs_of_rule il rule) whole whole.left else fault_of_inputs (inputs_of_rule il rule)) are

  ended_as : (outs : List IlExp) (s : Selection) → outs ≡ outputs_of_rule il rule → IsSelection s whole → ended (outputs_of_rule il rule) whole whole.left ≡ ended outs (told_of s) (told_of s).left
  ended_as outs s o is =
      ap (λ z. ended z whole whole.left) (sym o) ∙ sym (ended_same outs s whole is whole.left) ∙ ap (ended outs (told_of s)) (sym is.left)

  -- the inputs break their rule
  pub refused_inputs : (ins : List IlExp) (u : Unordered) → ins ≡ inputs_of_rule il rule → AreInputs ins (Some u) → order_of il rule ≡ Err u
  refused_inputs ins u i h =
      ap (λ b. if b then ended (outputs_of_rule il rule) whole whole.left else fault_of_inputs (inputs_of_rule il rule)) (ap are_inputs (sym i) ∙ h.0)
      ∙ ap fault_of_inputs (sym i) ∙ h.1

  -- a premise is left, or an output is not bound
  pub refused_end : (ins outs : List IlExp) (s : Selection) (u : Unordered) → ins ≡ inputs_of_rule il rule → AreInputs ins None → outs ≡ outputs_of_rule il rule → IsSelection s whole
      → Ends outs (told_of s) (Some u) → order_of il rule ≡ Err u
  refused_end ins outs s u i are o is e = by_inputs (ap are_inputs (sym i) ∙ are) ∙ ended_as outs s o is ∙ e

  -- all were taken
  pub ordered : (ins outs : List IlExp) (s : Selection) → ins ≡ inputs_of_rule il rule → AreInputs ins None → outs ≡ outputs_of_rule il rule → IsSelection s whole
      → Ends outs (told_of s) None → order_of il rule ≡ Ok s.order
  ordered ins outs s i are o is e = by_inputs (ap are_inputs (sym i) ∙ are) ∙ ended_as outs s o is ∙ e

  -- the selection that was made by the inputs that were read
  pub selected : (ins : List IlExp) (names : List Name) (s : Selection) → ins ≡ inputs_of_rule il rule → names ≡ vars_of ins
      → IsSelection s (told.select il (length rule.premises) names (enumerate_from 1 rule.premises)) → IsSelection s whole
  selected ins names s i n is = subst (λ z. IsSelection s (told.select il (length rule.premises) z (enumerate_from 1 rule.premises))) (n ∙ ap vars_of i) is

  abbrev given : List ℕ → Result (List ℕ) Unordered
  given numbers = Ok numbers

  -- an answer is exact
  pub exact : (result : Result (List ℕ) OrderFault) → IsAnswer (order_of il rule) result → IsExact il rule result
  exact (Ok numbers) a = (law_of_orders il rule).0 numbers a
  exact (Err (fault.Unordered premise variable)) a = λ numbers is.
      let some = (law_of_orders il rule).1 numbers is in
      let bad : given some.0 ≡ Err (record { premise = premise; variable = variable }) = sym some.1 ∙ a in
      cc
  exact (Err fault.Memory) a = tt

-- ---- what was read of a rule

pub holes_are : (il : Il) (rule : RuleDef) (input : Bool) (slice row : List (Bor IlExp)) (holes : List Bool) (conclusion : List IlExp) → slice ≡ row → exps_in row ≡ at_holes input holes conclusion
    → holes ≡ mask il rule.relation → conclusion ≡ rule.conclusion → exps_in slice ≡ at_holes input (mask il rule.relation) rule.conclusion
holes_are il rule input slice row holes conclusion s e m c = ap exps_in s ∙ e ∙ ap₂ (λ x y. at_holes input x y) m c

pub refusal : (order : Result (List ℕ) Unordered) (f : OrderFault) (u : Unordered) → f ≡ fault.Unordered u.premise u.variable → order ≡ Err u → IsAnswer order (Err f)
refusal order f u f_is is = subst (λ z. IsAnswer order (Err z)) (sym f_is) is

pub selected_of : (il : Il) (rule : RuleDef) (ins : List IlExp) (names : List Name) (premises : List IlPrem) (s : Selection) → premises ≡ rule.premises → ins ≡ inputs_of_rule il rule → names ≡ vars_of ins
    → IsSelection s (told.select il (length premises) names (enumerate_from 1 premises)) → IsSelection s (selection_of il rule)
selected_of il rule ins names premises s p i n is =
    selected il rule ins names s i n (subst (λ z. IsSelection s (told.select il (length z) names (enumerate_from 1 z))) p is)

-- an input that is no pattern is one where it is closed
pub closed_input : (e : IlExp) (row : List (Bor (List ℕ))) (old : List (Bor (List ℕ))) (b p : Bool) → p ≡ is_pattern e → p ≡ false → IsTrue b ↔ (row ≡ []) → names_in row ≡ names_in old ++ vars e → old ≡ [] → b ≡ is_input e
closed_input e row old b p is none empty n o =
    none_counted row (vars e) b empty (n ∙ ap (λ z. names_in z ++ vars e) o) ∙ ap (λ z. z || nat_eq (length (vars e)) 0) (sym none ∙ is)

-- ---- the rule of the numbers

pub none_there : (o : Option (Bor RuleDef)) (rule : Option RuleDef) → IsRule rule → option_copied o ≡ rule → o ≡ None → ⊥
none_there o rule h e none = subst IsRule (sym e ∙ ap option_copied none) h

pub has_few : (o : Option (Bor RuleDef)) (rule : Option RuleDef) (found : Bor RuleDef) → IsRule rule → option_copied o ≡ rule → o ≡ Some found → length found.now.premises < 2 ^ 32
has_few o rule found h e some = subst IsRule (sym e ∙ ap option_copied some) h

pub answered : (il : Il) (o : Option (Bor RuleDef)) (rule : Option RuleDef) (found : Bor RuleDef) (r : RuleDef) (order : Result (List ℕ) Unordered) → order ≡ order_of il found.now → option_copied o ≡ rule → o ≡ Some found
    → rule ≡ Some r → order_of il r ≡ order
answered il o rule found r order a e some is =
    let both : Some found.now ≡ Some r = sym (ap option_copied some) ∙ e ∙ is in
    let same : found.now ≡ r = cc in
    ap (order_of il) (sym same) ∙ sym a

-- ---- memory ran out

pub out_of_memory : (order : Result (List ℕ) Unordered) (r : Result (List ℕ) OrderFault) → IsErrAnd r (λ (f : OrderFault). f ≡ fault.Memory) → IsAnswer order r
out_of_memory order r h =
    let p = err_from_is_err_and r h in
    subst (IsAnswer order) (sym p.1) (subst (λ z. IsAnswer order (Err z)) (sym p.2) tt)

few_test : (n : ℕ) → IsTrue (nat_le n 4294967295) ↔ (n < 2 ^ 32)
few_test n = (λ h. let le = leb-true n 4294967295 h in omega (arith, le), λ h. le-leb n 4294967295 (omega (arith, h)))

pub rule_has_few : (o : Option (Bor RuleDef)) (rule : Option RuleDef) (found : Bor RuleDef) (n : ℕ) → option_copied o ≡ rule → o ≡ Some found → n ≡ length found.now.premises → IsTrue (nat_le n 4294967295) ↔ IsRule rule
rule_has_few o rule found n e some len = subst (λ z. IsTrue (nat_le n 4294967295) ↔ IsRule z) (sym (ap option_copied some) ∙ e) (subst (λ z. IsTrue (nat_le n 4294967295) ↔ (z < 2 ^ 32)) len (few_test n))

pub has_none : (o : Option (Bor RuleDef)) (rule : Option RuleDef) → option_copied o ≡ rule → o ≡ None → IsTrue false ↔ IsRule rule
has_none o rule e none = subst (λ z. IsTrue false ↔ IsRule z) (sym (ap option_copied none) ∙ e) (λ h. cc, λ h. absurd h)

-- ---- the first premise that is left

pub none_left : (xs : List Numbered) → None ≡ slice_get xs 0 → xs ≡ []
none_left [] h = refl
none_left (x ∷ xs) h = cc

pub first_left : (xs : List Numbered) (p : Numbered) → Some p ≡ slice_get xs 0 → (ys : List told.Numbered) × (all_numbered xs ≡ numbered p ∷ ys)
first_left [] p h = cc
first_left (x ∷ xs) p h = let same : p ≡ x = cc in (all_numbered xs, ap (λ z. numbered z ∷ all_numbered xs) (sym same))
