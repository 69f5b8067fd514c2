-- Values that are made of typed parts are typed.
use Rattle.std.proofs.Common.{◌≡◌, ℕ, ℤ, ◌≤◌, pos, refl, sym, ◌∙◌, ap, subst, List, [], ◌∷◌, map, Bool, true, false, if◌then◌else◌, Some, None, nat_le, arith, All}
use Rattle.std.proofs.lemmas.Bool.{leb-true}
use Rattle.std.proofs.lemmas.List.Elements.{All-nil, All-cons, All-head, All-append}
use Rattle.st_num.specs.Number.{IsNumber}
use Rattle.st_num.specs.Texts.{IsText}
use Rattle.st_num.specs.declared.limit.TheConstants.{HIGHEST_VALUE}
use Rattle.st_num.specs.declared.dim.Kind.{Kind}
use Rattle.st_num.specs.declared.dim.Kind.TheVariants as kind
use Rattle.st_il.specs.declared.definition.SyntaxDef.{SyntaxDef}
use Rattle.st_il.specs.declared.ty.Ty.{Ty}
use Rattle.st_il.specs.declared.ty.Ty.TheVariants as ty
use Rattle.st_il.specs.declared.value.Value.{Value, out-Value, fold_out-Value, map-Value}
use Rattle.st_il.specs.declared.value.Value.TheOpen.{Value-F}
use Rattle.st_il.specs.declared.value.Value.TheVariants as value
use Rattle.st_il.specs.Height.{height}
use Rattle.st_il.specs.Value.{texts_of, texts_at}
use Rattle.st_il.specs.Value as texts
use Rattle.st_type_table.specs.Meaning.{alias_of, itself}
use Rattle.st_type_table.specs.HasType as type
use Rattle.st_type_table.specs.HasType.{HasType, AllHaveType}
use Rattle.st_semantics.specs.declared.outcome.Outcome.TheVariants.{Val, Deep}
use Rattle.st_il.specs.Names.{flattened}
use Rattle.st_semantics.specs.Environments.{IsTypedValue, numbers_of, numbers_at, wrapped}
use Rattle.st_semantics.specs.Parts.{limited}
use Rattle.st_semantics.specs.Iterations.{gathered_as}
use Rattle.st_semantics.proofs.Elements.{EachTyped, no_alias_list, no_alias_option}
use Rattle.st_semantics.proofs.Lengths.{limited_is}
use Rattle.st_semantics.proofs.Low.{number_low}

-- ---- what is gathered

pub limited_height : (x v : Value) → limited x ≡ Val v → height x ≤ HIGHEST_VALUE
limited_height x v e = at (nat_le (height x) HIGHEST_VALUE) refl e
  where
    at : (b : Bool) → nat_le (height x) HIGHEST_VALUE ≡ b → (if b then Val x else Deep) ≡ Val v → height x ≤ HIGHEST_VALUE
    at true k e = leb-true (height x) HIGHEST_VALUE k
    at false k e = cc

module _ (defs : List SyntaxDef) where
  all_types : (t : Ty) (vs : List Value) → EachTyped defs t vs → AllHaveType defs vs t
  all_types t [] h = type.no_more
  all_types t (v ∷ vs) h = type.one_more h.0.form (all_types t vs h.1)

  all_texts : (t : Ty) (vs : List Value) → EachTyped defs t vs → All IsText (texts.joined (map texts_of vs))
  all_texts t [] h = All-nil IsText
  all_texts t (v ∷ vs) h = All-append IsText (texts_of v) (texts.joined (map texts_of vs)) h.0.value.texts (all_texts t vs h.1)

  all_numbers : (t : Ty) (vs : List Value) → EachTyped defs t vs → All IsNumber (flattened (map numbers_of vs))
  all_numbers t [] h = All-nil IsNumber
  all_numbers t (v ∷ vs) h = All-append IsNumber (numbers_of v) (flattened (map numbers_of vs)) h.0.numbers (all_numbers t vs h.1)

  pub texts-level : (v : Value) (y : Value-F Value) → out-Value v ≡ y → texts_of v ≡ texts_at (map-Value Value (List (List ℕ)) texts_of y)
  texts-level v y e = fold_out-Value (List (List ℕ)) texts_at v ∙ ap (λ z. texts_at (map-Value Value (List (List ℕ)) texts_of z)) e

  pub numbers-level : (v : Value) (y : Value-F Value) → out-Value v ≡ y → numbers_of v ≡ numbers_at (map-Value Value (List ℤ) numbers_of y)
  numbers-level v y e = fold_out-Value (List ℤ) numbers_at v ∙ ap (λ z. numbers_at (map-Value Value (List ℤ) numbers_of z)) e

  pub list_typed : (t : Ty) (vs : List Value) → EachTyped defs t vs → height (value.List vs) ≤ HIGHEST_VALUE → IsTypedValue defs (ty.List t) (value.List vs)
  list_typed t vs h low = record {
    form = type.list vs t refl (itself (no_alias_list defs t) refl) (all_types t vs h);
    value = record { height = low; texts = subst (All IsText) (sym (texts-level (value.List vs) (Value-F.List vs) (value.outs-List vs))) (all_texts t vs h) };
    numbers = subst (All IsNumber) (sym (numbers-level (value.List vs) (Value-F.List vs) (value.outs-List vs))) (all_numbers t vs h);
  }

  pub absent_typed : (t : Ty) → height (value.Opt None) ≤ HIGHEST_VALUE → IsTypedValue defs (ty.Opt t) (value.Opt None)
  absent_typed t low = record {
    form = type.absent t refl (itself (no_alias_option defs t) refl);
    value = record { height = low; texts = subst (All IsText) (sym (texts-level (value.Opt None) (Value-F.Opt None) (value.outs-Opt None))) (All-nil IsText) };
    numbers = subst (All IsNumber) (sym (numbers-level (value.Opt None) (Value-F.Opt None) (value.outs-Opt None))) (All-nil IsNumber);
  }

  pub present_typed : (t : Ty) (v : Value) → IsTypedValue defs t v → height (value.Opt (Some v)) ≤ HIGHEST_VALUE → IsTypedValue defs (ty.Opt t) (value.Opt (Some v))
  present_typed t v h low = record {
    form = type.present v t refl (itself (no_alias_option defs t) refl) h.form;
    value = record { height = low; texts = subst (All IsText) (sym (texts-level (value.Opt (Some v)) (Value-F.Opt (Some v)) (value.outs-Opt (Some v)))) h.value.texts };
    numbers = subst (All IsNumber) (sym (numbers-level (value.Opt (Some v)) (Value-F.Opt (Some v)) (value.outs-Opt (Some v)))) h.numbers;
  }

  pub gathered_typed : (k : Kind) (t : Ty) (vs : List Value) (v : Value) → EachTyped defs t vs → gathered_as k vs ≡ Val v → IsTypedValue defs (wrapped (k ∷ []) t) v
  gathered_typed kind.List t vs v h e = subst (IsTypedValue defs (ty.List t)) (limited_is (value.List vs) v e) (list_typed t vs h (limited_height (value.List vs) v e))
  gathered_typed kind.Opt t [] v h e = subst (IsTypedValue defs (ty.Opt t)) (limited_is (value.Opt None) v e) (absent_typed t (limited_height (value.Opt None) v e))
  gathered_typed kind.Opt t (w ∷ ws) v h e = subst (IsTypedValue defs (ty.Opt t)) (limited_is (value.Opt (Some w)) v e) (present_typed t w h.0 (limited_height (value.Opt (Some w)) v e))

-- ---- typed environments

no_alias_nat : (defs : List SyntaxDef) → alias_of defs ty.Nat ≡ None
no_alias_nat defs = simp ty.outs-Nat refl

pub number_below : (j n : ℕ) → j ≤ n → IsNumber (pos n) → IsNumber (pos j)
number_below j n le h = omega (arith, le, h)

-- a number that is not negative, where it is in range
pub natural_typed : (defs : List SyntaxDef) (n : ℕ) → IsNumber (pos n) → IsTypedValue defs ty.Nat (value.Num (pos n))
natural_typed defs n h = record {
  form = type.natural n refl (itself (no_alias_nat defs) refl);
  value = record { height = number_low n; texts = subst (All IsText) (sym (texts-level defs (value.Num (pos n)) (Value-F.Num (pos n)) (value.outs-Num (pos n)))) (All-nil IsText) };
  numbers = subst (All IsNumber) (sym (numbers-level defs (value.Num (pos n)) (Value-F.Num (pos n)) (value.outs-Num (pos n)))) (All-cons IsNumber (pos n) [] h (All-nil IsNumber));
}

-- the number of a typed value
pub number_in_range : (defs : List SyntaxDef) (t : Ty) (n : ℕ) → IsTypedValue defs t (value.Num (pos n)) → IsNumber (pos n)
number_in_range defs t n h = All-head IsNumber (pos n) [] (subst (All IsNumber) (numbers-level defs (value.Num (pos n)) (Value-F.Num (pos n)) (value.outs-Num (pos n))) h.numbers)
