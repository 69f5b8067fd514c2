-- The operations keep the types that are told of them.
use Rattle.std.proofs.Common.{◌≡◌, ℕ, ℤ, zero, suc, ◌+◌, ◌≤◌, pos, negsuc, refl, sym, ◌∙◌, ap, subst, List, [], ◌∷◌, ◌++◌, map, length, zip, take, drop, Bool, true, false, not, if◌then◌else◌, Option, Some, None, option_map, bytes_eq, nat_le, nat_lt, nat_eq, slice_get, arith, All}
use Rattle.std.specs.Prelude.{unsigned_abs, int_rem, int_div, ◌-ℤ◌, ◌^◌}
use Rattle.std.specs.Int.{int_pow}
use Rattle.std.specs.Option.{option_and_then}
use Rattle.std.specs.List.{list_any}
use Rattle.std.proofs.lemmas.Bool.{ltb-true}
use Rattle.std.proofs.lemmas.List.Elements.{All-nil, All-cons, All-head, All-tail, All-append}
use Rattle.st_num.specs.Number.{IsNumber, in_range, difference, quotient, remainder, power}
use Rattle.st_num.specs.Texts.{IsText}
use Rattle.st_num.specs.declared.limit.TheConstants.{HIGHEST_VALUE}
use Rattle.st_il.specs.declared.definition.SyntaxDef.{SyntaxDef}
use Rattle.st_il.specs.declared.expression.IlExp.{IlExp}
use Rattle.st_il.specs.declared.expression.IlExp.TheOpen.{ListItem-F}
use Rattle.st_il.specs.declared.expression.Iteration.{Iteration}
use Rattle.st_il.specs.declared.expression.ListItem.{ListItem, out-ListItem}
use Rattle.st_il.specs.declared.expression.PathSeg.{PathSeg}
use Rattle.st_il.specs.declared.ty.NumTy.{NumTy}
use Rattle.st_il.specs.declared.ty.NumTy.TheVariants as numbers
use Rattle.st_il.specs.declared.ty.Ty.{Ty, out-Ty}
use Rattle.st_il.specs.declared.ty.Ty.TheVariants as ty
use Rattle.st_il.specs.declared.value.Value.{Value, out-Value, map-Value}
use Rattle.st_il.specs.declared.value.Value.TheOpen.{Value-F}
use Rattle.st_il.specs.declared.value.Value.TheVariants as value
use Rattle.st_il.specs.Height.{height}
use Rattle.st_il.specs.Value.{texts_of, texts_at}
use Rattle.st_il.specs.Value as texts
use Rattle.st_type_table.specs.declared.entry.CaseDef.{CaseDef}
use Rattle.st_type_table.specs.Cases.{HasCases, HasFields, operands_of}
use Rattle.st_type_table.specs.Meaning.{Means, alias_of, itself}
use Rattle.st_type_table.proofs.CasesLemmas.{HasFields-single}
use Rattle.st_type_table.specs.HasType as type
use Rattle.st_type_table.specs.HasType.{HasType, HaveTypes, FieldsHaveTypes}
use Rattle.st_type_table.specs.Sub.{Sub}
use Rattle.st_type_table.specs.inner.TypedLevels.{TypedAt, RecordHasType}
use Rattle.st_type_table.proofs.HasTypeLemmas.{typed-opened}
use Rattle.st_type_table.proofs.UpLaws.{Sub-up}
use Rattle.st_semantics.specs.declared.outcome.Outcome.TheVariants.{Val}
use Rattle.st_il.specs.Names.{Name, flattened}
use Rattle.st_semantics.specs.Environments.{Entry, lookup, IsTypedValue, AreTypedValues, numbers_of, numbers_at}
use Rattle.st_semantics.specs.Parts.{fields_at, constant, unchanged, unary, binary, ternary, made, limited, truth, number, natural, elements, with_both}
use Rattle.st_semantics.specs.Operators as operator
use Rattle.st_semantics.specs.Forms.{listing, building, spliced}
use Rattle.st_semantics.specs.OperationTypes.{KeepsTypes}
use Rattle.st_semantics.specs.OperationTypes.{number_type, part_type, part_type_at, field_type}
use Rattle.st_semantics.proofs.Elements.{All-front, All-back, EachTyped, list_column}
use Rattle.st_semantics.proofs.Lengths.{some_one, limited_is, listing_is, Chunk, splice_parts}
use Rattle.st_semantics.proofs.Low.{height-level}
use Rattle.st_semantics.proofs.TypedParts.{limited_height, texts-level, numbers-level, list_typed, absent_typed, present_typed, natural_typed}

-- the types of operands, and that of the value
abbrev pub types_to : List Ty → Ty → List Ty × Ty
types_to ts t = (ts, t)

-- what was made is there, and is not too high
abbrev pub Made : Option Value → Value → Type 0
Made o v = (o ≡ Some v) × (height v ≤ HIGHEST_VALUE)

pub made_parts : (o : Option Value) (v : Value) → made o ≡ Val v → Made o v
made_parts None v e = cc
made_parts (Some x) v e = let same = limited_is x v e in (ap Some same, subst (λ z. height z ≤ HIGHEST_VALUE) same (limited_height x v e))

module _ (defs : List SyntaxDef) where
  -- ---- operations of one, two and three operands

  unary_keeps : (f : Value → Option Value) (t u : Ty) → ((a v : Value) → IsTypedValue defs t a → Made (f a) v → IsTypedValue defs u v) → KeepsTypes defs (unary f) (t ∷ []) u
  unary_keeps f t u k [] v h e = absurd h
  unary_keeps f t u k (a ∷ []) v h e = k a v h.0 (made_parts (f a) v e)
  unary_keeps f t u k (a ∷ b ∷ more) v h e = absurd h.1

  pub binary_keeps : (f : Value → Value → Option Value) (s t u : Ty) → ((a b v : Value) → IsTypedValue defs s a → IsTypedValue defs t b → Made (f a b) v → IsTypedValue defs u v) → KeepsTypes defs (binary f) (s ∷ t ∷ []) u
  binary_keeps f s t u k [] v h e = absurd h
  binary_keeps f s t u k (a ∷ []) v h e = absurd h.1
  binary_keeps f s t u k (a ∷ b ∷ []) v h e = k a b v h.0 h.1.0 (made_parts (f a b) v e)
  binary_keeps f s t u k (a ∷ b ∷ c ∷ more) v h e = absurd h.1.1

  ternary_keeps : (f : Value → Value → Value → Option Value) (s t r u : Ty)
      → ((a b c v : Value) → IsTypedValue defs s a → IsTypedValue defs t b → IsTypedValue defs r c → Made (f a b c) v → IsTypedValue defs u v) → KeepsTypes defs (ternary f) (s ∷ t ∷ r ∷ []) u
  ternary_keeps f s t r u k [] v h e = absurd h
  ternary_keeps f s t r u k (a ∷ []) v h e = absurd h.1
  ternary_keeps f s t r u k (a ∷ b ∷ []) v h e = absurd h.1.1
  ternary_keeps f s t r u k (a ∷ b ∷ c ∷ []) v h e = k a b c v h.0 h.1.0 h.1.1.0 (made_parts (f a b c) v e)
  ternary_keeps f s t r u k (a ∷ b ∷ c ∷ d ∷ more) v h e = absurd h.1.1.1

  pub constant_keeps : (w : Value) (t : Ty) → IsTypedValue defs t w → KeepsTypes defs (constant w) [] t
  constant_keeps w t k vs v h e = let same : w ≡ v = cc in subst (IsTypedValue defs t) same k

  -- ---- truth values

  no_alias_truth : alias_of defs ty.Bool ≡ None
  no_alias_truth = simp ty.outs-Bool refl

  no_alias_number : alias_of defs ty.Int ≡ None
  no_alias_number = simp ty.outs-Int refl

  no_alias_text : alias_of defs ty.Text ≡ None
  no_alias_text = simp ty.outs-Text refl

  pub truth_typed : (b : Bool) → IsTypedValue defs ty.Bool (value.Bool b)
  truth_typed b = record {
    form = type.truth b refl (itself no_alias_truth refl);
    value = record { height = low; texts = subst (All IsText) (sym (texts-level defs (value.Bool b) (Value-F.Bool b) (value.outs-Bool b))) (All-nil IsText) };
    numbers = subst (All IsNumber) (sym (numbers-level defs (value.Bool b) (Value-F.Bool b) (value.outs-Bool b))) (All-nil IsNumber);
  }
    where
      low : height (value.Bool b) ≤ HIGHEST_VALUE
      low = let h = height-level (value.Bool b) (Value-F.Bool b) (value.outs-Bool b) in omega (arith, h)

  -- a value that is a truth value
  some_truth : (o : Option Value) (b : Bool) (v : Value) → o ≡ Some (value.Bool b) → o ≡ Some v → IsTypedValue defs ty.Bool v
  some_truth o b v e f = let both_are : Some (value.Bool b) ≡ Some v = sym e ∙ f in let same : value.Bool b ≡ v = cc in subst (IsTypedValue defs ty.Bool) same (truth_typed b)

  logic_truth : (f : Bool → Bool → Bool) (o p : Option Bool) (v : Value) → with_both (λ (x y : Bool). Some (value.Bool (f x y))) o p ≡ Some v → IsTypedValue defs ty.Bool v
  logic_truth f None p v e = cc
  logic_truth f (Some x) None v e = cc
  logic_truth f (Some x) (Some y) v e = some_truth (Some (value.Bool (f x y))) (f x y) v refl e

  pub logic_keeps : (f : Bool → Bool → Bool) → KeepsTypes defs (binary (operator.logic f)) (ty.Bool ∷ ty.Bool ∷ []) ty.Bool
  logic_keeps f = binary_keeps (operator.logic f) ty.Bool ty.Bool ty.Bool (λ a b v p q m. logic_truth f (truth a) (truth b) v m.0)

  pub negation_keeps : KeepsTypes defs (unary operator.negation) (ty.Bool ∷ []) ty.Bool
  negation_keeps = unary_keeps operator.negation ty.Bool ty.Bool (λ a v p m. at (truth a) v m.0)
    where
      at : (o : Option Bool) (v : Value) → option_map (λ (x : Bool). value.Bool (not x)) o ≡ Some v → IsTypedValue defs ty.Bool v
      at None v e = cc
      at (Some x) v e = some_truth (Some (value.Bool (not x))) (not x) v refl e

  comparison_truth : (f : ℤ → ℤ → Bool) (o p : Option ℤ) (v : Value) → with_both (λ (x y : ℤ). Some (value.Bool (f x y))) o p ≡ Some v → IsTypedValue defs ty.Bool v
  comparison_truth f None p v e = cc
  comparison_truth f (Some x) None v e = cc
  comparison_truth f (Some x) (Some y) v e = some_truth (Some (value.Bool (f x y))) (f x y) v refl e

  pub comparison_keeps : (f : ℤ → ℤ → Bool) (t : Ty) → KeepsTypes defs (binary (operator.comparison f)) (t ∷ t ∷ []) ty.Bool
  comparison_keeps f t = binary_keeps (operator.comparison f) t t ty.Bool (λ a b v p q m. comparison_truth f (number a) (number b) v m.0)

  pub equality_keeps : (t : Ty) → KeepsTypes defs (binary operator.equality) (t ∷ t ∷ []) ty.Bool
  equality_keeps t = binary_keeps operator.equality t t ty.Bool (λ a b v p q m. some_truth (operator.equality a b) (operator.is_same a b) v refl m.0)

  pub inequality_keeps : (t : Ty) → KeepsTypes defs (binary operator.inequality) (t ∷ t ∷ []) ty.Bool
  inequality_keeps t = binary_keeps operator.inequality t t ty.Bool (λ a b v p q m. some_truth (operator.inequality a b) (not (operator.is_same a b)) v refl m.0)

  pub membership_keeps : (t : Ty) → KeepsTypes defs (binary operator.membership) (t ∷ ty.List t ∷ []) ty.Bool
  membership_keeps t = binary_keeps operator.membership t (ty.List t) ty.Bool (λ a b v p q m. at a (elements b) v m.0)
    where
      at : (a : Value) (o : Option (List Value)) (v : Value) → option_map (λ (xs : List Value). value.Bool (list_any (operator.is_same a) xs)) o ≡ Some v → IsTypedValue defs ty.Bool v
      at a None v e = cc
      at a (Some xs) v e = some_truth (Some (value.Bool (list_any (operator.is_same a) xs))) (list_any (operator.is_same a) xs) v refl e

  -- ---- numbers

  number_typed : (z : ℤ) → IsNumber z → IsTypedValue defs ty.Int (value.Num z)
  number_typed z h = record {
    form = type.number z refl (itself no_alias_number refl);
    value = record { height = low; texts = subst (All IsText) (sym (texts-level defs (value.Num z) (Value-F.Num z) (value.outs-Num z))) (All-nil IsText) };
    numbers = subst (All IsNumber) (sym (numbers-level defs (value.Num z) (Value-F.Num z) (value.outs-Num z))) (All-cons IsNumber z [] h (All-nil IsNumber));
  }
    where
      low : height (value.Num z) ≤ HIGHEST_VALUE
      low = let h = height-level (value.Num z) (Value-F.Num z) (value.outs-Num z) in omega (arith, h)

  -- an operation gives only numbers
  abbrev Ranged : (ℤ → ℤ → Option ℤ) → Type 0
  Ranged f = (x y z : ℤ) → f x y ≡ Some z → IsNumber z

  pub in_range_number : (w z : ℤ) → in_range w ≡ Some z → IsNumber z
  in_range_number w z e = at (nat_lt (unsigned_abs w) (2 ^ 128)) refl e
    where
      at : (b : Bool) → nat_lt (unsigned_abs w) (2 ^ 128) ≡ b → (if b then Some w else None) ≡ Some z → IsNumber z
      at true k e = let same : w ≡ z = cc in subst IsNumber same (ltb-true (unsigned_abs w) (2 ^ 128) k)
      at false k e = cc

  in_range_is : (w z : ℤ) → in_range w ≡ Some z → w ≡ z
  in_range_is w z e = at (nat_lt (unsigned_abs w) (2 ^ 128)) e
    where
      at : (b : Bool) → (if b then Some w else None) ≡ Some z → w ≡ z
      at true e = cc
      at false e = cc

  pub remainder_ranged : Ranged remainder
  remainder_ranged x y z e = at (nat_eq (unsigned_abs y) 0) e
    where
      at : (b : Bool) → (if b then None else in_range (int_rem x y)) ≡ Some z → IsNumber z
      at true e = cc
      at false e = in_range_number (int_rem x y) z e

  pub quotient_ranged : Ranged quotient
  quotient_ranged x y z e = at (nat_eq (unsigned_abs y) 0) (nat_eq (unsigned_abs (int_rem x y)) 0) e
    where
      at : (b c : Bool) → (if b then None else (if c then in_range (int_div x y) else None)) ≡ Some z → IsNumber z
      at true c e = cc
      at false true e = in_range_number (int_div x y) z e
      at false false e = cc

  pub power_ranged : Ranged power
  power_ranged x (pos n) z e = in_range_number (int_pow x n) z e
  power_ranged x (negsuc n) z e = cc

  at_type_typed : (n : NumTy) (z : ℤ) (v : Value) → IsNumber z → operator.at_type n z ≡ Some v → IsTypedValue defs (number_type n) v
  at_type_typed numbers.Nat (pos m) v h e = let same : value.Num (pos m) ≡ v = cc in subst (IsTypedValue defs ty.Nat) same (natural_typed defs m h)
  at_type_typed numbers.Nat (negsuc m) v h e = cc
  at_type_typed numbers.Int z v h e = let same : value.Num z ≡ v = cc in subst (IsTypedValue defs ty.Int) same (number_typed z h)

  arithmetic_typed : (f : ℤ → ℤ → Option ℤ) → Ranged f → (n : NumTy) (o p : Option ℤ) (v : Value) → option_and_then (operator.at_type n) (with_both f o p) ≡ Some v → IsTypedValue defs (number_type n) v
  arithmetic_typed f r n None p v e = cc
  arithmetic_typed f r n (Some x) None v e = cc
  arithmetic_typed f r n (Some x) (Some y) v e = at (f x y) refl e
    where
      at : (o : Option ℤ) → f x y ≡ o → option_and_then (operator.at_type n) o ≡ Some v → IsTypedValue defs (number_type n) v
      at None k e = cc
      at (Some z) k e = at_type_typed n z v (r x y z k) e

  pub arithmetic_keeps : (f : ℤ → ℤ → Option ℤ) → Ranged f → (n : NumTy) (s : Ty) → KeepsTypes defs (binary (operator.arithmetic f n)) (number_type n ∷ s ∷ []) (number_type n)
  arithmetic_keeps f r n s = binary_keeps (operator.arithmetic f n) (number_type n) s (number_type n) (λ a b v p q m. arithmetic_typed f r n (number a) (number b) v m.0)

  pub opposite_keeps : KeepsTypes defs (unary operator.opposite) (ty.Int ∷ []) ty.Int
  opposite_keeps = unary_keeps operator.opposite ty.Int ty.Int (λ a v p m. at (number a) v m.0)
    where
      by : (x : ℤ) (o : Option ℤ) (v : Value) → difference (pos 0) x ≡ o → option_map value.Num o ≡ Some v → IsTypedValue defs ty.Int v
      by x None v k e = cc
      by x (Some z) v k e = let same : value.Num z ≡ v = cc in subst (IsTypedValue defs ty.Int) same (number_typed z (in_range_number (pos 0 -ℤ x) z k))

      at : (o : Option ℤ) (v : Value) → option_map value.Num (option_and_then (difference (pos 0)) o) ≡ Some v → IsTypedValue defs ty.Int v
      at None v e = cc
      at (Some x) v e = by x (difference (pos 0) x) v refl e

  -- ---- lists

  parts_of_list : (t : Ty) (a : Value) (xs : List Value) → IsTypedValue defs (ty.List t) a → elements a ≡ Some xs → EachTyped defs t xs
  parts_of_list t a xs h e = list_column defs t a xs h e

  each_append : (t : Ty) (xs ys : List Value) → EachTyped defs t xs → EachTyped defs t ys → EachTyped defs t (xs ++ ys)
  each_append t [] ys p q = q
  each_append t (x ∷ xs) ys p q = (p.0, each_append t xs ys p.1 q)

  each_drop : (t : Ty) (n : ℕ) (xs : List Value) → EachTyped defs t xs → EachTyped defs t (drop n xs)
  each_drop t zero xs h = h
  each_drop t (suc n) [] h = tt
  each_drop t (suc n) (x ∷ xs) h = each_drop t n xs h.1

  each_take : (t : Ty) (n : ℕ) (xs : List Value) → EachTyped defs t xs → EachTyped defs t (take n xs)
  each_take t zero xs h = tt
  each_take t (suc n) [] h = tt
  each_take t (suc n) (x ∷ xs) h = (h.0, each_take t n xs h.1)

  each_get : (t : Ty) (xs : List Value) (n : ℕ) (v : Value) → EachTyped defs t xs → slice_get xs n ≡ Some v → IsTypedValue defs t v
  each_get t [] n v h e = cc
  each_get t (x ∷ xs) zero v h e = let same : x ≡ v = cc in subst (IsTypedValue defs t) same h.0
  each_get t (x ∷ xs) (suc n) v h e = each_get t xs n v h.1 e

  made_list : (t : Ty) (xs : List Value) (v : Value) → EachTyped defs t xs → value.List xs ≡ v → height v ≤ HIGHEST_VALUE → IsTypedValue defs (ty.List t) v
  made_list t xs v h e low = subst (IsTypedValue defs (ty.List t)) e (list_typed defs t xs h (subst (λ z. height z ≤ HIGHEST_VALUE) (sym e) low))

  pub cat_keeps : (t : Ty) → KeepsTypes defs (binary operator.concatenation) (ty.List t ∷ ty.List t ∷ []) (ty.List t)
  cat_keeps t = binary_keeps operator.concatenation (ty.List t) (ty.List t) (ty.List t) (λ a b v p q m. at a b (elements a) (elements b) refl refl p q v m.1 m.0)
    where
      at : (a b : Value) (o r : Option (List Value)) → elements a ≡ o → elements b ≡ r → IsTypedValue defs (ty.List t) a → IsTypedValue defs (ty.List t) b → (v : Value) → height v ≤ HIGHEST_VALUE
          → with_both (λ (xs ys : List Value). Some (value.List (xs ++ ys))) o r ≡ Some v → IsTypedValue defs (ty.List t) v
      at a b None r j k p q v low e = cc
      at a b (Some xs) None j k p q v low e = cc
      at a b (Some xs) (Some ys) j k p q v low e =
          let same : value.List (xs ++ ys) ≡ v = cc in
          made_list t (xs ++ ys) v (each_append t xs ys (parts_of_list t a xs p j) (parts_of_list t b ys q k)) same low

  pub count_keeps : (t : Ty) → KeepsTypes defs (unary operator.count) (ty.List t ∷ []) ty.Nat
  count_keeps t = unary_keeps operator.count (ty.List t) ty.Nat (λ a v p m. at (elements a) v m.0)
    where
      by : (xs : List Value) (o : Option ℤ) (v : Value) → in_range (pos (length xs)) ≡ o → option_map value.Num o ≡ Some v → IsTypedValue defs ty.Nat v
      by xs None v k e = cc
      by xs (Some z) v k e =
          let is : pos (length xs) ≡ z = in_range_is (pos (length xs)) z k in
          let same : value.Num z ≡ v = cc in
          subst (IsTypedValue defs ty.Nat) (ap value.Num is ∙ same) (natural_typed defs (length xs) (subst IsNumber (sym is) (in_range_number (pos (length xs)) z k)))

      at : (o : Option (List Value)) (v : Value) → option_map value.Num (option_and_then (λ (xs : List Value). in_range (pos (length xs))) o) ≡ Some v → IsTypedValue defs ty.Nat v
      at None v e = cc
      at (Some xs) v e = by xs (in_range (pos (length xs))) v refl e

  pub element_keeps : (t : Ty) → KeepsTypes defs (binary operator.element) (ty.List t ∷ ty.Nat ∷ []) t
  element_keeps t = binary_keeps operator.element (ty.List t) ty.Nat t (λ a b v p q m. at a (elements a) (natural b) refl p v m.0)
    where
      at : (a : Value) (o : Option (List Value)) (n : Option ℕ) → elements a ≡ o → IsTypedValue defs (ty.List t) a → (v : Value) → with_both slice_get o n ≡ Some v → IsTypedValue defs t v
      at a None n j p v e = cc
      at a (Some xs) None j p v e = cc
      at a (Some xs) (Some n) j p v e = each_get t xs n v (parts_of_list t a xs p j) e

  pub part_keeps : (t : Ty) → KeepsTypes defs (ternary operator.part) (ty.List t ∷ ty.Nat ∷ ty.Nat ∷ []) (ty.List t)
  part_keeps t = ternary_keeps operator.part (ty.List t) ty.Nat ty.Nat (ty.List t) (λ a b c v p q r m. at a (elements a) (natural b) (natural c) refl p v m.1 m.0)
    where
      cut : (xs : List Value) (from n : ℕ) (b : Bool) (v : Value) → EachTyped defs t xs → height v ≤ HIGHEST_VALUE → option_map value.List (if b then Some (take n (drop from xs)) else None) ≡ Some v → IsTypedValue defs (ty.List t) v
      cut xs from n true v h low e = let same : value.List (take n (drop from xs)) ≡ v = cc in made_list t (take n (drop from xs)) v (each_take t n (drop from xs) (each_drop t from xs h)) same low
      cut xs from n false v h low e = cc

      at : (a : Value) (o : Option (List Value)) (m n : Option ℕ) → elements a ≡ o → IsTypedValue defs (ty.List t) a → (v : Value) → height v ≤ HIGHEST_VALUE
          → option_map value.List (with_both (λ (from n : ℕ). option_and_then (operator.part_of from n) o) m n) ≡ Some v → IsTypedValue defs (ty.List t) v
      at a o None n j p v low e = cc
      at a o (Some from) None j p v low e = cc
      at a None (Some from) (Some n) j p v low e = cc
      at a (Some xs) (Some from) (Some n) j p v low e = cut xs from n (nat_le (from + n) (length xs)) v (parts_of_list t a xs p j) low e

  -- ---- parts

  have_types : (ts : List Ty) (vs : List Value) → AreTypedValues defs ts vs → HaveTypes defs vs ts
  have_types [] [] h = type.none
  have_types [] (v ∷ vs) h = absurd h
  have_types (t ∷ ts) [] h = absurd h
  have_types (t ∷ ts) (v ∷ vs) h = type.more h.0.form (have_types ts vs h.1)

  have_texts : (ts : List Ty) (vs : List Value) → AreTypedValues defs ts vs → All IsText (texts.joined (map texts_of vs))
  have_texts [] [] h = All-nil IsText
  have_texts [] (v ∷ vs) h = absurd h
  have_texts (t ∷ ts) [] h = absurd h
  have_texts (t ∷ ts) (v ∷ vs) h = All-append IsText (texts_of v) (texts.joined (map texts_of vs)) h.0.value.texts (have_texts ts vs h.1)

  have_numbers : (ts : List Ty) (vs : List Value) → AreTypedValues defs ts vs → All IsNumber (flattened (map numbers_of vs))
  have_numbers [] [] h = All-nil IsNumber
  have_numbers [] (v ∷ vs) h = absurd h
  have_numbers (t ∷ ts) [] h = absurd h
  have_numbers (t ∷ ts) (v ∷ vs) h = All-append IsNumber (numbers_of v) (flattened (map numbers_of vs)) h.0.numbers (have_numbers ts vs h.1)

  pub no_alias_tuple : (ts : List Ty) → alias_of defs (ty.Tuple ts) ≡ None
  no_alias_tuple ts = simp (ty.outs-Tuple ts) refl

  pub tuple_keeps : (ts : List Ty) → KeepsTypes defs (λ vs. limited (value.Tuple vs)) ts (ty.Tuple ts)
  tuple_keeps ts vs v h e = subst (IsTypedValue defs (ty.Tuple ts)) (limited_is (value.Tuple vs) v e) (record {
    form = type.tuple vs ts refl (itself (no_alias_tuple ts) refl) (have_types ts vs h);
    value = record { height = limited_height (value.Tuple vs) v e; texts = subst (All IsText) (sym (texts-level defs (value.Tuple vs) (Value-F.Tuple vs) (value.outs-Tuple vs))) (have_texts ts vs h) };
    numbers = subst (All IsNumber) (sym (numbers-level defs (value.Tuple vs) (Value-F.Tuple vs) (value.outs-Tuple vs))) (have_numbers ts vs h);
  })

  pub case_keeps : (t : Ty) (tag : Name) (ts : List Ty) (cases : List CaseDef) → IsText tag → HasCases defs t cases → operands_of cases tag ≡ Some ts → KeepsTypes defs (λ vs. limited (value.Case tag vs)) ts t
  case_keeps t tag ts cases told has found vs v h e = subst (IsTypedValue defs t) (limited_is (value.Case tag vs) v e) (record {
    form = type.case tag vs cases ts refl has found (have_types ts vs h);
    value = record {
      height = limited_height (value.Case tag vs) v e;
      texts = subst (All IsText) (sym (texts-level defs (value.Case tag vs) (Value-F.Case tag vs) (value.outs-Case tag vs))) (All-cons IsText tag (texts.joined (map texts_of vs)) told (have_texts ts vs h));
    };
    numbers = subst (All IsNumber) (sym (numbers-level defs (value.Case tag vs) (Value-F.Case tag vs) (value.outs-Case tag vs))) (have_numbers ts vs h);
  })

  -- ---- records

  abbrev pub types_in : List (Name × Ty) → List Ty
  types_in ds = map (λ (d : Name × Ty). d.1) ds

  abbrev fields_with : List (Name × Ty) → List Value → List Entry
  fields_with ds vs = zip (map (λ (d : Name × Ty). d.0) ds) vs

  fields_types : (ds : List (Name × Ty)) (vs : List Value) → AreTypedValues defs (types_in ds) vs → FieldsHaveTypes defs (fields_with ds vs) ds
  fields_types [] [] h = type.no_field
  fields_types [] (v ∷ vs) h = absurd h
  fields_types (d ∷ ds) [] h = absurd h
  fields_types (d ∷ ds) (v ∷ vs) h = type.one_field refl h.0.form (fields_types ds vs h.1)

  abbrev pub TextsIn : List Entry → Type 0
  TextsIn fs = All IsText (texts_at (map-Value Value (List (List ℕ)) texts_of (Value-F.Fields fs)))

  abbrev pub NumbersIn : List Entry → Type 0
  NumbersIn fs = All IsNumber (numbers_at (map-Value Value (List ℤ) numbers_of (Value-F.Fields fs)))

  fields_texts : (ds : List (Name × Ty)) (vs : List Value) → All (λ (d : Name × Ty). IsText d.0) ds → AreTypedValues defs (types_in ds) vs → TextsIn (fields_with ds vs)
  fields_texts [] [] n h = All-nil IsText
  fields_texts [] (v ∷ vs) n h = absurd h
  fields_texts (d ∷ ds) [] n h = absurd h
  fields_texts (d ∷ ds) (v ∷ vs) n h =
      let told : IsText d.0 = All-head (λ (d : Name × Ty). IsText d.0) d ds n in
      let rest : TextsIn (fields_with ds vs) = fields_texts ds vs (All-tail (λ (d : Name × Ty). IsText d.0) d ds n) h.1 in
      All-cons IsText d.0 _ told (All-append IsText (texts_of v) _ h.0.value.texts rest)

  fields_numbers : (ds : List (Name × Ty)) (vs : List Value) → AreTypedValues defs (types_in ds) vs → NumbersIn (fields_with ds vs)
  fields_numbers [] [] h = All-nil IsNumber
  fields_numbers [] (v ∷ vs) h = absurd h
  fields_numbers (d ∷ ds) [] h = absurd h
  fields_numbers (d ∷ ds) (v ∷ vs) h = All-append IsNumber (numbers_of v) _ h.0.numbers (fields_numbers ds vs h.1)

  pub fields_keep : (t : Ty) (ds : List (Name × Ty)) → HasFields defs t ds → All (λ (d : Name × Ty). IsText d.0) ds → KeepsTypes defs (building ds) (types_in ds) t
  fields_keep t ds has named vs v h e = subst (IsTypedValue defs t) (limited_is (value.Fields (fields_with ds vs)) v e) (record {
    form = type.fields (fields_with ds vs) ds refl has (fields_types ds vs h);
    value = record {
      height = limited_height (value.Fields (fields_with ds vs)) v e;
      texts = subst (All IsText) (sym (texts-level defs (value.Fields (fields_with ds vs)) (Value-F.Fields (fields_with ds vs)) (value.outs-Fields (fields_with ds vs)))) (fields_texts ds vs named h);
    };
    numbers = subst (All IsNumber) (sym (numbers-level defs (value.Fields (fields_with ds vs)) (Value-F.Fields (fields_with ds vs)) (value.outs-Fields (fields_with ds vs)))) (fields_numbers ds vs h);
  })

  -- a field of a record
  field_typed : (fs : List Entry) (ds : List (Name × Ty)) (name : Name) (v : Value) (u : Ty) → FieldsHaveTypes defs fs ds → lookup name fs ≡ Some v → field_type name ds ≡ Some u → HasType defs v u
  field_typed [] ds name v u h e k = cc
  field_typed (f ∷ fs) [] name v u h e k = cc
  field_typed (f ∷ fs) (d ∷ ds) name v u (type.one_field same has rest) e k = at (bytes_eq name f.0) refl e (subst (λ z. (if bytes_eq name z then Some d.1 else field_type name ds) ≡ Some u) (sym same) k) (field_typed fs ds name v u rest)
    where
      at : (b : Bool) → bytes_eq name f.0 ≡ b → (if b then Some f.1 else lookup name fs) ≡ Some v → (if bytes_eq name f.0 then Some d.1 else field_type name ds) ≡ Some u
          → (lookup name fs ≡ Some v → field_type name ds ≡ Some u → HasType defs v u) → HasType defs v u
      at true j e k ih =
          let value_is : f.1 ≡ v = cc in
          let found : Some d.1 ≡ Some u = ap (λ z. if z then Some d.1 else field_type name ds) (sym j) ∙ k in
          let type_is : d.1 ≡ u = cc in
          subst (λ z. HasType defs z u) value_is (subst (HasType defs f.1) type_is has)
      at false j e k ih = ih e (ap (λ z. if z then Some d.1 else field_type name ds) (sym j) ∙ k)

  field_told : (fs : List Entry) (name : Name) (v : Value) → TextsIn fs → lookup name fs ≡ Some v → All IsText (texts_of v)
  field_told [] name v h e = cc
  field_told (f ∷ fs) name v h e = at (bytes_eq name f.0) e (field_told fs name v (All-back IsText (texts_of f.1) _ (All-tail IsText f.0 _ h)))
    where
      at : (b : Bool) → (if b then Some f.1 else lookup name fs) ≡ Some v → (lookup name fs ≡ Some v → All IsText (texts_of v)) → All IsText (texts_of v)
      at true e ih = let same : f.1 ≡ v = cc in subst (λ z. All IsText (texts_of z)) same (All-front IsText (texts_of f.1) _ (All-tail IsText f.0 _ h))
      at false e ih = ih e

  field_numbered : (fs : List Entry) (name : Name) (v : Value) → NumbersIn fs → lookup name fs ≡ Some v → All IsNumber (numbers_of v)
  field_numbered [] name v h e = cc
  field_numbered (f ∷ fs) name v h e = at (bytes_eq name f.0) e (field_numbered fs name v (All-back IsNumber (numbers_of f.1) _ h))
    where
      at : (b : Bool) → (if b then Some f.1 else lookup name fs) ≡ Some v → (lookup name fs ≡ Some v → All IsNumber (numbers_of v)) → All IsNumber (numbers_of v)
      at true e ih = let same : f.1 ≡ v = cc in subst (λ z. All IsNumber (numbers_of z)) same (All-front IsNumber (numbers_of f.1) _ h)
      at false e ih = ih e

  pub dot_keeps : (name : Name) (t u : Ty) (ds : List (Name × Ty)) → HasFields defs t ds → field_type name ds ≡ Some u → KeepsTypes defs (unary (operator.field name)) (t ∷ []) u
  dot_keeps name t u ds has found = unary_keeps (operator.field name) t u (λ a v p m. at a (out-Value a) refl v p m.1 m.0)
    where
      at : (a : Value) (y : Value-F Value) → out-Value a ≡ y → (v : Value) → IsTypedValue defs t a → height v ≤ HIGHEST_VALUE → option_and_then (lookup name) (fields_at y) ≡ Some v → IsTypedValue defs u v
      at a (Value-F.Fields fs) is v p low e =
          let opened : TypedAt defs (out-Value a) (out-Ty has.structure) t = typed-opened defs a t has.structure has.means p.form in
          let record_is : RecordHasType defs fs t = subst (λ z. TypedAt defs z (out-Ty has.structure) t) is opened in
          let same : record_is.declared ≡ ds = HasFields-single defs t record_is.declared ds record_is.has has in
          record {
            form = field_typed fs ds name v u (subst (FieldsHaveTypes defs fs) same record_is.typed) e found;
            value = record { height = low; texts = field_told fs name v (subst (All IsText) (texts-level defs a (Value-F.Fields fs) is) p.value.texts) e };
            numbers = field_numbered fs name v (subst (All IsNumber) (numbers-level defs a (Value-F.Fields fs) is) p.numbers) e;
          }
      at a _ is v p low e = cc

  -- ---- lists of parts, options and injections

  spliced_typed : (t : Ty) (items : List ListItem) (vs zs : List Value) → AreTypedValues defs (map (part_type t) items) vs → spliced items vs ≡ Some zs → EachTyped defs t zs
  spliced_typed t [] [] zs h e = let same : [] ≡ zs = cc in subst (EachTyped defs t) same tt
  spliced_typed t [] (v ∷ vs) zs h e = absurd h
  spliced_typed t (i ∷ is) [] zs h e = absurd h
  spliced_typed t (i ∷ is) (v ∷ vs) zs h e =
      let s = splice_parts i is v vs zs e in
      subst (EachTyped defs t) s.4 (each_append t s.0 s.1 (at (out-ListItem i) s.0 h.0 s.2) (spliced_typed t is vs s.1 h.1 s.3))
    where
      at : (y : ListItem-F IlExp Iteration ListItem PathSeg) (c : List Value) → IsTypedValue defs (part_type_at t y) v → Chunk y v c → EachTyped defs t c
      at (ListItem-F.One g) c p k = subst (EachTyped defs t) (sym k) (p, tt)
      at (ListItem-F.All g) c p k = parts_of_list t v c p k

  pub listing_keeps : (t : Ty) (items : List ListItem) → KeepsTypes defs (listing items) (map (part_type t) items) (ty.List t)
  listing_keeps t items vs v h e =
      let s = listing_is items vs v e in
      made_list t s.0 v (spliced_typed t items vs s.0 h s.1) s.2 (made_parts (option_map value.List (spliced items vs)) v e).1

  pub present_keeps : (t : Ty) → KeepsTypes defs (unary (λ v. Some (value.Opt (Some v)))) (t ∷ []) (ty.Opt t)
  present_keeps t = unary_keeps (λ v. Some (value.Opt (Some v))) t (ty.Opt t) (λ a v p m.
      let same : value.Opt (Some a) ≡ v = some_one m.0 in
      subst (IsTypedValue defs (ty.Opt t)) same (present_typed defs t a p (subst (λ z. height z ≤ HIGHEST_VALUE) (sym same) m.1)))

  absent_low : height (value.Opt None) ≤ HIGHEST_VALUE
  absent_low = let h = height-level (value.Opt None) (Value-F.Opt None) (value.outs-Opt None) in omega (arith, h)

  pub empty_keeps : (t : Ty) → KeepsTypes defs (constant (value.Opt None)) [] (ty.Opt t)
  empty_keeps t = constant_keeps (value.Opt None) (ty.Opt t) (absent_typed defs t absent_low)

  -- what has no parts, of another type by the same meaning
  pub no_list_keeps : (t u : Ty) → Means defs t (ty.List u) → KeepsTypes defs (constant (value.List [])) [] t
  no_list_keeps t u means = constant_keeps (value.List []) t (record {
    form = type.list [] u refl means type.no_more;
    value = record { height = low; texts = subst (All IsText) (sym (texts-level defs (value.List []) (Value-F.List []) (value.outs-List []))) (All-nil IsText) };
    numbers = subst (All IsNumber) (sym (numbers-level defs (value.List []) (Value-F.List []) (value.outs-List []))) (All-nil IsNumber);
  })
    where
      low : height (value.List []) ≤ HIGHEST_VALUE
      low = let h = height-level (value.List []) (Value-F.List []) (value.outs-List []) in omega (arith, h)

  pub no_option_keeps : (t u : Ty) → Means defs t (ty.Opt u) → KeepsTypes defs (constant (value.Opt None)) [] t
  no_option_keeps t u means = constant_keeps (value.Opt None) t (record { form = type.absent u refl means; value = (absent_typed defs u absent_low).value; numbers = (absent_typed defs u absent_low).numbers })

  pub text_keeps : (bytes : Name) → IsText bytes → KeepsTypes defs (constant (value.Text bytes)) [] ty.Text
  text_keeps bytes told = constant_keeps (value.Text bytes) ty.Text (record {
    form = type.text bytes refl (itself no_alias_text refl);
    value = record { height = low; texts = subst (All IsText) (sym (texts-level defs (value.Text bytes) (Value-F.Text bytes) (value.outs-Text bytes))) (All-cons IsText bytes [] told (All-nil IsText)) };
    numbers = subst (All IsNumber) (sym (numbers-level defs (value.Text bytes) (Value-F.Text bytes) (value.outs-Text bytes))) (All-nil IsNumber);
  })
    where
      low : height (value.Text bytes) ≤ HIGHEST_VALUE
      low = let h = height-level (value.Text bytes) (Value-F.Text bytes) (value.outs-Text bytes) in omega (arith, h)

  pub up_keeps : (u t : Ty) → Sub defs u t → KeepsTypes defs unchanged (u ∷ []) t
  up_keeps u t sub [] v h e = absurd h
  up_keeps u t sub (a ∷ []) v h e =
      let same : a ≡ v = cc in
      subst (IsTypedValue defs t) same (record { form = Sub-up defs u t sub a h.0.form; value = h.0.value; numbers = h.0.numbers })
  up_keeps u t sub (a ∷ b ∷ more) v h e = absurd h.1
