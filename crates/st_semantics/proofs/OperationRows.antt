-- Each operation keeps the types of its row.
use Rattle.std.proofs.Common.{◌≡◌, pos, refl, sym, ◌∙◌, ap, subst, List, [], ◌∷◌, ◌++◌, map, ◌&&◌, ◌||◌, Some, None, int_lt, int_le, All}
use Rattle.std.specs.Prelude.{◌+ℤ◌, ◌-ℤ◌, ◌*ℤ◌}
use Rattle.st_num.specs.Number.{sum, difference, product, quotient, remainder, power}
use Rattle.st_num.specs.Texts.{IsText}
use Rattle.st_il.specs.declared.definition.SyntaxDef.{SyntaxDef}
use Rattle.st_il.specs.declared.expression.IlExp.{IlExp, out-IlExp}
use Rattle.st_il.specs.declared.expression.IlExp.TheOpen.{IlExp-F}
use Rattle.st_il.specs.declared.ty.Ty.{Ty}
use Rattle.st_il.specs.declared.ty.Ty.TheVariants as ty
use Rattle.st_il.specs.declared.value.Value.TheVariants as value
use Rattle.st_type_table.specs.Cases.{HasFields}
use Rattle.st_type_table.specs.Meaning.{Means}
use Rattle.st_type_table.proofs.CasesLemmas.{HasFields-single}
use Rattle.st_il.specs.Names.{Name, flattened}
use Rattle.st_semantics.specs.Parts.{Operation, constant, unchanged, unary, binary, ternary, limited}
use Rattle.st_semantics.specs.Operators as operator
use Rattle.st_semantics.specs.Forms.{HasForm, Strict, form_at, by_itself, structure, absent_list, absent_option, listing, building}
use Rattle.st_semantics.specs.Operands.{item_exp}
use Rattle.st_semantics.specs.OperationTypes.{KeepsTypes}
use Rattle.st_semantics.specs.OperationTypes as row
use Rattle.st_semantics.specs.OperationTypes.{number_type, both, plain_types, IsCompared, part_type, part_type_at, field_type, AccessType, Level, ConstructionType, RecordType, OperationType}
use Rattle.st_semantics.specs.Laws.{LawOfOperations}
use Rattle.st_semantics.proofs.Singles.{HasForm-single}
use Rattle.st_semantics.proofs.Lengths.{some_one}
use Rattle.st_semantics.proofs.TypedParts.{natural_typed}
use Rattle.st_semantics.proofs.KeptTypes.{constant_keeps, truth_typed, logic_keeps, negation_keeps, comparison_keeps, equality_keeps, inequality_keeps, membership_keeps, in_range_number, remainder_ranged, quotient_ranged, power_ranged, arithmetic_keeps, opposite_keeps, cat_keeps, count_keeps, element_keeps, part_keeps, tuple_keeps, case_keeps, fields_keep, dot_keeps, listing_keeps, present_keeps, empty_keeps, no_list_keeps, no_option_keeps, text_keeps, up_keeps, types_in, types_to}
use Rattle.st_semantics.proofs.KeptPaths.{setting_keeps, extension_keeps}
use Rattle.st_semantics.proofs.KeptJoins.{join_keeps}
use Rattle.st_semantics.specs.Operands.{segment_exps}
use Rattle.st_semantics.specs.Paths.{setting, extension}

module _ (defs : List SyntaxDef) where
  -- ---- each row

  module _ (e : IlExp) (es : List IlExp) (f : Operation) (ts : List Ty) (t : Ty) (h : HasForm defs e (Strict es f)) where
    moved : (es0 : List IlExp) (f0 : Operation) (y : Level) → out-IlExp e ≡ y → form_at y ≡ Some (Strict es0 f0) → KeepsTypes defs f0 ts t → KeepsTypes defs f ts t
    moved es0 f0 y is k keeps =
        let same = HasForm-single defs e _ _ (by_itself (ap form_at is ∙ k)) h in
        let ff : f0 ≡ f = cc in
        subst (λ z. KeepsTypes defs z ts t) ff keeps

    -- the types of a plain row
    plain_is : (f0 : Operation) (ts0 : List Ty) (t0 : Ty) → KeepsTypes defs f0 ts0 t0 → Some (types_to ts0 t0) ≡ Some (types_to ts t) → KeepsTypes defs f0 ts t
    plain_is f0 ts0 t0 k same = subst (λ (p : List Ty × Ty). KeepsTypes defs f0 p.0 p.1) (some_one same) k

    by_plain : (y : Level) → out-IlExp e ≡ y → plain_types y ≡ Some (ts, t) → KeepsTypes defs f ts t
    by_plain (IlExp-F.Bool b) is p = moved [] (constant (value.Bool b)) (IlExp-F.Bool b) is refl (plain_is (constant (value.Bool b)) [] ty.Bool (constant_keeps defs (value.Bool b) ty.Bool (truth_typed defs b)) p)
    by_plain (IlExp-F.Not a) is p = moved (a ∷ []) (unary operator.negation) (IlExp-F.Not a) is refl (plain_is (unary operator.negation) (ty.Bool ∷ []) ty.Bool (negation_keeps defs) p)
    by_plain (IlExp-F.And a b) is p = moved (a ∷ b ∷ []) (binary (operator.logic ◌&&◌)) (IlExp-F.And a b) is refl (plain_is (binary (operator.logic ◌&&◌)) (ty.Bool ∷ ty.Bool ∷ []) ty.Bool (logic_keeps defs ◌&&◌) p)
    by_plain (IlExp-F.Or a b) is p = moved (a ∷ b ∷ []) (binary (operator.logic ◌||◌)) (IlExp-F.Or a b) is refl (plain_is (binary (operator.logic ◌||◌)) (ty.Bool ∷ ty.Bool ∷ []) ty.Bool (logic_keeps defs ◌||◌) p)
    by_plain (IlExp-F.Imp a b) is p = moved (a ∷ b ∷ []) (binary (operator.logic operator.implies)) (IlExp-F.Imp a b) is refl (plain_is (binary (operator.logic operator.implies)) (ty.Bool ∷ ty.Bool ∷ []) ty.Bool (logic_keeps defs operator.implies) p)
    by_plain (IlExp-F.Iff a b) is p = moved (a ∷ b ∷ []) (binary (operator.logic operator.agrees)) (IlExp-F.Iff a b) is refl (plain_is (binary (operator.logic operator.agrees)) (ty.Bool ∷ ty.Bool ∷ []) ty.Bool (logic_keeps defs operator.agrees) p)
    by_plain (IlExp-F.Neg a) is p = moved (a ∷ []) (unary operator.opposite) (IlExp-F.Neg a) is refl (plain_is (unary operator.opposite) (ty.Int ∷ []) ty.Int (opposite_keeps defs) p)
    by_plain (IlExp-F.Add n a b) is p = moved (a ∷ b ∷ []) (binary (operator.arithmetic sum n)) (IlExp-F.Add n a b) is refl (plain_is (binary (operator.arithmetic sum n)) (number_type n ∷ number_type n ∷ []) (number_type n) (arithmetic_keeps defs sum (λ x y z. in_range_number defs (x +ℤ y) z) n (number_type n)) p)
    by_plain (IlExp-F.Sub n a b) is p = moved (a ∷ b ∷ []) (binary (operator.arithmetic difference n)) (IlExp-F.Sub n a b) is refl (plain_is (binary (operator.arithmetic difference n)) (number_type n ∷ number_type n ∷ []) (number_type n) (arithmetic_keeps defs difference (λ x y z. in_range_number defs (x -ℤ y) z) n (number_type n)) p)
    by_plain (IlExp-F.Mul n a b) is p = moved (a ∷ b ∷ []) (binary (operator.arithmetic product n)) (IlExp-F.Mul n a b) is refl (plain_is (binary (operator.arithmetic product n)) (number_type n ∷ number_type n ∷ []) (number_type n) (arithmetic_keeps defs product (λ x y z. in_range_number defs (x *ℤ y) z) n (number_type n)) p)
    by_plain (IlExp-F.Div n a b) is p = moved (a ∷ b ∷ []) (binary (operator.arithmetic quotient n)) (IlExp-F.Div n a b) is refl (plain_is (binary (operator.arithmetic quotient n)) (number_type n ∷ number_type n ∷ []) (number_type n) (arithmetic_keeps defs quotient (quotient_ranged defs) n (number_type n)) p)
    by_plain (IlExp-F.Rem n a b) is p = moved (a ∷ b ∷ []) (binary (operator.arithmetic remainder n)) (IlExp-F.Rem n a b) is refl (plain_is (binary (operator.arithmetic remainder n)) (number_type n ∷ number_type n ∷ []) (number_type n) (arithmetic_keeps defs remainder (remainder_ranged defs) n (number_type n)) p)
    by_plain (IlExp-F.Pow n a b) is p = moved (a ∷ b ∷ []) (binary (operator.arithmetic power n)) (IlExp-F.Pow n a b) is refl (plain_is (binary (operator.arithmetic power n)) (number_type n ∷ ty.Nat ∷ []) (number_type n) (arithmetic_keeps defs power (power_ranged defs) n ty.Nat) p)
    by_plain _ is p = cc

  module _ (e : IlExp) (es : List IlExp) (f : Operation) (h : HasForm defs e (Strict es f)) where
    by_compared : (t : Ty) (y : Level) → out-IlExp e ≡ y → IsCompared y t → KeepsTypes defs f (t ∷ t ∷ []) ty.Bool
    by_compared t (IlExp-F.Eq a b) is c = moved e es f (t ∷ t ∷ []) ty.Bool h (a ∷ b ∷ []) (binary operator.equality) (IlExp-F.Eq a b) is refl (equality_keeps defs t)
    by_compared t (IlExp-F.Ne a b) is c = moved e es f (t ∷ t ∷ []) ty.Bool h (a ∷ b ∷ []) (binary operator.inequality) (IlExp-F.Ne a b) is refl (inequality_keeps defs t)
    by_compared t (IlExp-F.Lt a b) is c = moved e es f (t ∷ t ∷ []) ty.Bool h (a ∷ b ∷ []) (binary (operator.comparison int_lt)) (IlExp-F.Lt a b) is refl (comparison_keeps defs int_lt t)
    by_compared t (IlExp-F.Gt a b) is c = moved e es f (t ∷ t ∷ []) ty.Bool h (a ∷ b ∷ []) (binary (operator.comparison operator.is_above)) (IlExp-F.Gt a b) is refl (comparison_keeps defs operator.is_above t)
    by_compared t (IlExp-F.Le a b) is c = moved e es f (t ∷ t ∷ []) ty.Bool h (a ∷ b ∷ []) (binary (operator.comparison int_le)) (IlExp-F.Le a b) is refl (comparison_keeps defs int_le t)
    by_compared t (IlExp-F.Ge a b) is c = moved e es f (t ∷ t ∷ []) ty.Bool h (a ∷ b ∷ []) (binary (operator.comparison operator.is_at_least)) (IlExp-F.Ge a b) is refl (comparison_keeps defs operator.is_at_least t)
    by_compared t _ is c = absurd c

    by_access : (y : Level) (ts : List Ty) (t : Ty) → out-IlExp e ≡ y → AccessType y ts t → KeepsTypes defs f ts t
    by_access y ts t is (row.len {e = a} u) = moved e es f ts t h (a ∷ []) (unary operator.count) y is refl (count_keeps defs u)
    by_access y ts t is (row.element {e = a} {g = b} u) = moved e es f ts t h (a ∷ b ∷ []) (binary operator.element) y is refl (element_keeps defs u)
    by_access y ts t is (row.part {e = a} {g = b} {h = c} u) = moved e es f ts t h (a ∷ b ∷ c ∷ []) (ternary operator.part) y is refl (part_keeps defs u)
    by_access y ts t is (row.cat {e = a} {g = b} u) = moved e es f ts t h (a ∷ b ∷ []) (binary operator.concatenation) y is refl (cat_keeps defs u)
    by_access y ts t is (row.member {e = a} {g = b} u) = moved e es f ts t h (a ∷ b ∷ []) (binary operator.membership) y is refl (membership_keeps defs u)

    -- the fields of a record are those of its type
    by_fields : (type : Name) (gs : List IlExp) (ds : List (Name × Ty)) → out-IlExp e ≡ IlExp-F.Fields type gs → HasFields defs (ty.Name type) ds → All (λ (d : Name × Ty). IsText d.0) ds
        → HasForm defs e (Strict es f) → KeepsTypes defs f (types_in defs ds) (ty.Name type)
    by_fields type gs ds is has named (by_itself k) = let bad : None ≡ Some (Strict es f) = sym (ap form_at is) ∙ k in cc
    by_fields type gs ds is has named (structure type' gs' ds' is' has' long k) =
        let level : IlExp-F.Fields type gs ≡ IlExp-F.Fields type' gs' = sym is ∙ is' in
        let name : type' ≡ type = cc in
        let same : ds' ≡ ds = HasFields-single defs (ty.Name type) ds' ds (subst (λ z. HasFields defs (ty.Name z) ds') name has') has in
        let made_by : building ds' ≡ f = cc in
        subst (λ z. KeepsTypes defs z (types_in defs ds) (ty.Name type)) (ap building (sym same) ∙ made_by) (fields_keep defs (ty.Name type) ds has named)
    by_fields type gs ds is has named (absent_list t u is' m k) = let bad : IlExp-F.Fields type gs ≡ IlExp-F.Absent t = sym is ∙ is' in cc
    by_fields type gs ds is has named (absent_option t u is' m k) = let bad : IlExp-F.Fields type gs ≡ IlExp-F.Absent t = sym is ∙ is' in cc

    by_absent : (t : Ty) → out-IlExp e ≡ IlExp-F.Absent t → HasForm defs e (Strict es f) → KeepsTypes defs f [] t
    by_absent t is (by_itself k) = let bad : None ≡ Some (Strict es f) = sym (ap form_at is) ∙ k in cc
    by_absent t is (structure type' gs' ds' is' has' long k) = let bad : IlExp-F.Absent t ≡ IlExp-F.Fields type' gs' = sym is ∙ is' in cc
    by_absent t is (absent_list t' u is' m k) =
        let level : IlExp-F.Absent t ≡ IlExp-F.Absent t' = sym is ∙ is' in
        let same : t' ≡ t = cc in
        let made_by : constant (value.List []) ≡ f = cc in
        subst (λ z. KeepsTypes defs z [] t) made_by (no_list_keeps defs t u (subst (λ z. Means defs z (ty.List u)) same m))
    by_absent t is (absent_option t' u is' m k) =
        let level : IlExp-F.Absent t ≡ IlExp-F.Absent t' = sym is ∙ is' in
        let same : t' ≡ t = cc in
        let made_by : constant (value.Opt None) ≡ f = cc in
        subst (λ z. KeepsTypes defs z [] t) made_by (no_option_keeps defs t u (subst (λ z. Means defs z (ty.Opt u)) same m))

    by_construction : (y : Level) (ts : List Ty) (t : Ty) → out-IlExp e ≡ y → ConstructionType defs y ts t → KeepsTypes defs f ts t
    by_construction y ts t is (row.case {type = type} {tag = tag} {es = gs} cases told has found) = moved e es f ts t h gs (λ vs. limited (value.Case tag vs)) y is refl (case_keeps defs (ty.Name type) tag ts cases told has found)
    by_construction y ts t is (row.fields {type = type} {es = gs} ds has named) = by_fields type gs ds is has named h
    by_construction y ts t is (row.tuple {es = gs} us) = moved e es f ts t h gs (λ vs. limited (value.Tuple vs)) y is refl (tuple_keeps defs ts)
    by_construction y ts t is (row.list {t = u} {items = items}) = moved e es f ts t h (map item_exp items) (listing items) y is refl (listing_keeps defs u items)
    by_construction y ts t is (row.empty {t = u}) = moved e es f ts t h [] (constant (value.Opt None)) y is refl (empty_keeps defs u)
    by_construction y ts t is (row.present {e = a} u) = moved e es f ts t h (a ∷ []) (unary (λ v. Some (value.Opt (Some v)))) y is refl (present_keeps defs u)
    by_construction y ts t is (row.absent {t = u}) = by_absent u is h

    by_record : (y : Level) (ts : List Ty) (t : Ty) → out-IlExp e ≡ y → RecordType defs y ts t → KeepsTypes defs f ts t
    by_record y ts t is (row.dot {e = a} {name = name} {t = s} {u = u} ds has found) = moved e es f ts t h (a ∷ []) (unary (operator.field name)) y is refl (dot_keeps defs name s u ds has found)
    by_record y ts t is (row.set {e = a} {g = g} {path = path} {t = s} us w leads) = moved e es f ts t h (a ∷ flattened (map segment_exps path) ++ g ∷ []) (setting path) y is refl (setting_keeps defs path s w us leads)
    by_record y ts t is (row.extend {e = a} {g = g} {path = path} {t = s} us w u leads means) = moved e es f ts t h (a ∷ flattened (map segment_exps path) ++ g ∷ []) (extension path) y is refl (extension_keeps defs path s w u us leads means)
    by_record y ts t is (row.join {e = a} {g = g} u can) = moved e es f ts t h (a ∷ g ∷ []) (binary operator.join) y is refl (join_keeps defs u)

    keeps : (y : Level) (ts : List Ty) (t : Ty) → out-IlExp e ≡ y → OperationType defs y ts t → KeepsTypes defs f ts t
    keeps y ts t is (row.plain p) = by_plain e es f ts t h y is p
    keeps y ts t is (row.compared u c) = by_compared u y is c
    keeps y ts t is (row.access a) = by_access y ts t is a
    keeps y ts t is (row.construction c) = by_construction y ts t is c
    keeps y ts t is (row.structure r) = by_record y ts t is r
    keeps y ts t is (row.number {n = n} r) = moved e es f ts t h [] (constant (value.Num (pos n))) y is refl (constant_keeps defs (value.Num (pos n)) ty.Nat (natural_typed defs n r))
    keeps y ts t is (row.text {bytes = bytes} told) = moved e es f ts t h [] (constant (value.Text bytes)) y is refl (text_keeps defs bytes told)
    keeps y ts t is (row.up {e = a} {t = s} u sub) = moved e es f ts t h (a ∷ []) unchanged y is refl (up_keeps defs u s sub)

pub law_of_operations : LawOfOperations
law_of_operations defs e es f ts t h r = keeps defs e es f h (out-IlExp e) ts t refl r
