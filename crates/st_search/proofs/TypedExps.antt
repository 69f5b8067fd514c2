-- An expression in which no rule on types is broken has the type that is found for it, where its numbers, texts and tags are proper.
use Rattle.std.proofs.Common.{◌≡◌, refl, sym, ap, ◌∙◌, subst, List, [], ◌∷◌, ◌++◌, map, length, suc, All, Option, Some, None, option_map, inl, inr}
use Rattle.std.specs.List.{AllByRecursion}
use Rattle.st_il.specs.declared.definition.FunDef.{FunDef}
use Rattle.st_il.specs.declared.definition.Il.{Il}
use Rattle.st_il.specs.declared.definition.Listed.{Listed}
use Rattle.st_il.specs.declared.definition.SyntaxDef.{SyntaxDef}
use Rattle.st_il.specs.declared.expression.IlExp.{IlExp, out-IlExp}
use Rattle.st_il.specs.declared.expression.IlExp.TheOpen.{IlExp-F, ListItem-F}
use Rattle.st_il.specs.declared.expression.Iteration.{Iteration}
use Rattle.st_il.specs.declared.expression.ListItem.{ListItem, out-ListItem}
use Rattle.st_il.specs.declared.expression.PathSeg.{PathSeg}
use Rattle.st_il.specs.declared.ty.NumTy.{NumTy}
use Rattle.st_il.specs.declared.ty.NumTy.TheVariants as numbers
use Rattle.st_il.specs.declared.ty.Ty.{Ty}
use Rattle.st_il.specs.declared.ty.Ty.TheVariants as ty
use Rattle.st_il.specs.declared.type_rule.TypeRule.{TypeRule}
use Rattle.st_il.specs.declared.value.Value.TheVariants as value
use Rattle.st_num.specs.Texts.{IsText}
use Rattle.st_type_table.specs.Cases.{HasFields}
use Rattle.st_type_table.specs.Meaning.{Means, itself}
use Rattle.st_type_table.specs.Same.{Same, SameAll}
use Rattle.st_il.specs.Names.{Name, flattened}
use Rattle.st_il.specs.Definitions.{syntaxes}
use Rattle.st_semantics.specs.Environments.{wrapped, type_of, listed_as}
use Rattle.st_semantics.specs.Forms.{Strict, form_at, operation_at, building, by_itself, structure, absent_list, absent_option}
use Rattle.st_semantics.specs.Iterations.{count_of, kind_of}
use Rattle.st_semantics.specs.Operands.{operands_at, item_at, segment_at, item_exp, segment_exps}
use Rattle.st_semantics.specs.OperationTypes as row
use Rattle.st_semantics.specs.OperationTypes.{Level, OperationType, PathType, IsCompared, plain_types, part_type, part_type_at, number_type, field_type}
use Rattle.st_semantics.specs.Parts.{constant}
use Rattle.st_semantics.specs.Scopes.{listed_inside}
use Rattle.st_semantics.specs.Typing as has
use Rattle.st_semantics.specs.Typing.{ExpHasType, ExpsHaveTypes, function_named}
use Rattle.st_semantics.proofs.Elements.{no_alias_list}
use Rattle.st_ilcheck.specs.FoundTypes.{first_type, last_type, all_types, before_types, origin, TypeFrom, IsFieldOf, IsElementOf, ChosenFrom}
use Rattle.st_ilcheck.specs.Parts.{Part, parts_at, standing}
use Rattle.st_ilcheck.specs.Rules.{behind_first, before_last, AreEach, Is, AllAre, Are, AreEqual, IsList, AllTyped, AreOrdered, IsMember, IsListOrOption, IsBelow, IsSet, IsExtended, AreJoined, IsItem, AreItems, Asks, AsksOfPath}
use Rattle.st_ilcheck.specs.Typings as typings
use Rattle.st_ilcheck.specs.Typings.{HasTyping, HaveTypings}
use Rattle.st_ilcheck.specs.Variables.{occurrences, IsListed}
use Rattle.st_ilcheck.proofs.Each.{AreEach-length}
use Rattle.st_eval.proofs.IsFormedLemmas.{Told-holds, none-left, none-right}
use Rattle.st_search.specs.Proper as properly
use Rattle.st_search.specs.Proper.{IsProperAt, IsProperExp, AreProperExps}
use Rattle.st_search.proofs.ListedParts.{PartListed, parts_keep, parts_listed, IsKindedAt, kinded_at, standing_listed}

-- ---- equal types

module _ (defs : List SyntaxDef) where
  mutual
    Same-sym : (a b : Ty) → Same defs a b → Same defs b a
    Same-sym a b (Same.equal t m n) = Same.equal t n m
    Same-sym a b (Same.list x y m n s) = Same.list y x n m (Same-sym x y s)
    Same-sym a b (Same.option x y m n s) = Same.option y x n m (Same-sym x y s)
    Same-sym a b (Same.tuple xs ys m n s) = Same.tuple ys xs n m (SameAll-sym xs ys s)

    SameAll-sym : (xs ys : List Ty) → SameAll defs xs ys → SameAll defs ys xs
    SameAll-sym [] [] s = SameAll.none
    SameAll-sym [] (y ∷ ys) s = elim s [ ]
    SameAll-sym (x ∷ xs) [] s = elim s [ ]
    SameAll-sym (x ∷ xs) (y ∷ ys) (SameAll.more r rs) = SameAll.more (Same-sym x y r) (SameAll-sym xs ys rs)

  means_list : (t : Ty) → Means defs (ty.List t) (ty.List t)
  means_list t = itself (no_alias_list defs t) refl

  -- what means a list is equal to it
  same_list : (t u : Ty) → Means defs t (ty.List u) → Same defs t (ty.List u)
  same_list t u m = Same.equal (ty.List u) m (means_list u)

  -- a list of equal elements
  same_elements : (w x t : Ty) → Means defs w (ty.List x) → Same defs x t → Same defs w (ty.List t)
  same_elements w x t m s = Same.list x t m (means_list t) s

  -- the positions and lengths in a path are numbers
  path_numbers : {path : List PathSeg} {t w : Ty} {ts : List Ty} → PathType defs path t ts w → ts ≡ map (λ (e : IlExp). ty.Nat) (flattened (map segment_exps path))
  path_numbers row.here = refl
  path_numbers (row.field {ss = ss} name u declared is fields found rest) = path_numbers rest ∙ ap (λ z. map (λ (e : IlExp). ty.Nat) (segment_at z ++ flattened (map segment_exps ss))) (sym is)
  path_numbers (row.element {ss = ss} u e is m rest) = ap (λ z. ty.Nat ∷ z) (path_numbers rest) ∙ ap (λ z. map (λ (e : IlExp). ty.Nat) (segment_at z ++ flattened (map segment_exps ss))) (sym is)
  path_numbers (row.part {ss = ss} u e g is m rest) = ap (λ z. ty.Nat ∷ ty.Nat ∷ z) (path_numbers rest) ∙ ap (λ z. map (λ (e : IlExp). ty.Nat) (segment_at z ++ flattened (map segment_exps ss))) (sym is)

module _ (il : Il) where
  -- an expression has the type that was found, if one was
  abbrev pub Has : List Listed → IlExp → Option Ty → Type 0
  Has ls e None = Unit {0}
  Has ls e (Some t) = ExpHasType il ls e t

  -- so has each of some parts
  abbrev pub AllHave : List Part → List (Option Ty) → Type 0
  AllHave [] [] = Unit {0}
  AllHave [] (o ∷ os) = ⊥
  AllHave (p ∷ ps) [] = ⊥
  AllHave (p ∷ ps) (o ∷ os) = Has p.0 p.1 o × AllHave ps os

  pub AllHave-length : (ls : List Listed) (es : List IlExp) (os : List (Option Ty)) → AllHave (standing ls es) os → length es ≡ length os
  AllHave-length ls [] [] h = refl
  AllHave-length ls [] (o ∷ os) h = absurd h
  AllHave-length ls (e ∷ es) [] h = absurd h
  AllHave-length ls (e ∷ es) (o ∷ os) h = ap suc (AllHave-length ls es os h.1)

  -- ---- parts of the types that are asked

  pub has_as : (ls : List Listed) (e : IlExp) (o : Option Ty) (t : Ty) → Has ls e o → Is (syntaxes il) o t → ExpHasType il ls e t
  has_as ls e None t h s = absurd s
  has_as ls e (Some u) t h s = has.same u h s

  pub have_as : (ls : List Listed) (es : List IlExp) (os : List (Option Ty)) (ts : List Ty) → AllHave (standing ls es) os → Are (syntaxes il) ts os → ExpsHaveTypes il ls es ts
  have_as ls [] [] [] h a = has.none
  have_as ls [] [] (t ∷ ts) h a = absurd a
  have_as ls [] (o ∷ os) ts h a = absurd h
  have_as ls (e ∷ es) [] ts h a = absurd h
  have_as ls (e ∷ es) (o ∷ os) [] h a = absurd a
  have_as ls (e ∷ es) (o ∷ os) (t ∷ ts) h a = has.more (has_as ls e o t h.0 a.0) (have_as ls es os ts h.1 a.1)

  all_as : (ls : List Listed) (es : List IlExp) (os : List (Option Ty)) (t : Ty) → AllHave (standing ls es) os → AllAre (syntaxes il) t os → ExpsHaveTypes il ls es (map (λ (e : IlExp). t) es)
  all_as ls [] [] t h a = has.none
  all_as ls [] (o ∷ os) t h a = absurd h
  all_as ls (e ∷ es) [] t h a = absurd h
  all_as ls (e ∷ es) (o ∷ os) t h a = has.more (has_as ls e o t h.0 a.0) (all_as ls es os t h.1 a.1)

  fields_as : (ls : List Listed) (es : List IlExp) (os : List (Option Ty)) (ds : List (Name × Ty)) → AllHave (standing ls es) os → AreEach (λ (d : Name × Ty) o. Is (syntaxes il) o d.1) ds os
      → ExpsHaveTypes il ls es (map (λ (d : Name × Ty). d.1) ds)
  fields_as ls [] [] [] h a = has.none
  fields_as ls [] [] (d ∷ ds) h a = absurd a
  fields_as ls [] (o ∷ os) ds h a = absurd h
  fields_as ls (e ∷ es) [] ds h a = absurd h
  fields_as ls (e ∷ es) (o ∷ os) [] h a = absurd a
  fields_as ls (e ∷ es) (o ∷ os) (d ∷ ds) h a = has.more (has_as ls e o d.1 h.0 a.0) (fields_as ls es os ds h.1 a.1)

  item_has : (ls : List Listed) (t : Ty) (i : ListItem-F IlExp Iteration ListItem PathSeg) (o : Option Ty) → Has ls (item_at i) o → IsItem (syntaxes il) t i o → ExpHasType il ls (item_at i) (part_type_at t i)
  item_has ls t (ListItem-F.One e) o h q = has_as ls e o t h q
  item_has ls t (ListItem-F.All e) None h q = absurd q
  item_has ls t (ListItem-F.All e) (Some w) h q = has.same w h (same_elements (syntaxes il) w q.0 t q.1.0 q.1.1)

  items_have : (ls : List Listed) (t : Ty) (items : List ListItem) (os : List (Option Ty)) → AllHave (standing ls (map item_exp items)) os → AreItems (syntaxes il) t items os → ExpsHaveTypes il ls (map item_exp items) (map (part_type t) items)
  items_have ls t [] [] h a = has.none
  items_have ls t [] (o ∷ os) h a = absurd h
  items_have ls t (i ∷ items) [] h a = absurd h
  items_have ls t (i ∷ items) (o ∷ os) h a = has.more (item_has ls t (out-ListItem i) o h.0 a.0) (items_have ls t items os h.1 a.1)

  -- the types of parts that have types
  types_have : (ls : List Listed) (es : List IlExp) (os : List (Option Ty)) → AllHave (standing ls es) os → AllTyped (syntaxes il) os → (ts : List Ty) × (all_types os ≡ Some ts) × ExpsHaveTypes il ls es ts
  types_have ls [] [] h a = ([], refl, has.none)
  types_have ls [] (o ∷ os) h a = absurd h
  types_have ls (e ∷ es) [] h a = absurd h
  types_have ls (e ∷ es) (None ∷ os) h a = absurd a
  types_have ls (e ∷ es) (Some t ∷ os) h a = let r = types_have ls es os h.1 a in (t ∷ r.0, ap (before_types (Some t)) r.1, has.more h.0 r.2)

  have_last : (ls : List Listed) {es : List IlExp} {ts : List Ty} → ExpsHaveTypes il ls es ts → (g : IlExp) (w : Ty) → ExpHasType il ls g w → ExpsHaveTypes il ls (es ++ g ∷ []) (ts ++ w ∷ [])
  have_last ls has.none g w k = has.more k has.none
  have_last ls (has.more h hs) g w k = has.more h (have_last ls hs g w k)

  -- ---- one, two and three parts

  one_has : (ls : List Listed) (e : IlExp) (os : List (Option Ty)) → AllHave (standing ls (e ∷ [])) os → (o : Option Ty) × (os ≡ o ∷ []) × Has ls e o
  one_has ls e [] h = absurd h
  one_has ls e (o ∷ []) h = (o, refl, h.0)
  one_has ls e (o ∷ p ∷ os) h = absurd h.1

  two_have : (ls : List Listed) (e g : IlExp) (os : List (Option Ty)) → AllHave (standing ls (e ∷ g ∷ [])) os → (o p : Option Ty) × (os ≡ o ∷ p ∷ []) × Has ls e o × Has ls g p
  two_have ls e g [] h = absurd h
  two_have ls e g (o ∷ []) h = absurd h.1
  two_have ls e g (o ∷ p ∷ []) h = (o, p, refl, h.0, h.1.0)
  two_have ls e g (o ∷ p ∷ q ∷ os) h = absurd h.1.1

  three_have : (ls : List Listed) (e g k : IlExp) (os : List (Option Ty)) → AllHave (standing ls (e ∷ g ∷ k ∷ [])) os → (o p q : Option Ty) × (os ≡ o ∷ p ∷ q ∷ []) × Has ls e o × Has ls g p × Has ls k q
  three_have ls e g k [] h = absurd h
  three_have ls e g k (o ∷ []) h = absurd h.1
  three_have ls e g k (o ∷ p ∷ []) h = absurd h.1.1
  three_have ls e g k (o ∷ p ∷ q ∷ []) h = (o, p, q, refl, h.0, h.1.0, h.1.1.0)
  three_have ls e g k (o ∷ p ∷ q ∷ r ∷ os) h = absurd h.1.1.1

  none_have : (ps : List Part) (q : Part) → AllHave (ps ++ q ∷ []) [] → ⊥
  none_have [] q h = h
  none_have (p ∷ ps) q h = h

  -- the last part, and those before it
  last_has : (ps : List Part) (q : Part) (os : List (Option Ty)) → AllHave (ps ++ q ∷ []) os → AllHave ps (before_last os) × Has q.0 q.1 (last_type os)
  last_has [] q [] h = absurd h
  last_has [] q (o ∷ []) h = (tt, h.0)
  last_has [] q (o ∷ p ∷ os) h = absurd h.1
  last_has (r ∷ ps) q [] h = absurd h
  last_has (r ∷ ps) q (o ∷ []) h = absurd (none_have ps q h.1)
  last_has (r ∷ ps) q (o ∷ p ∷ os) h = let rest = last_has ps q (p ∷ os) h.1 in ((h.0, rest.0), rest.1)

  standing_last : (ls : List Listed) (es : List IlExp) (g : IlExp) → standing ls (es ++ g ∷ []) ≡ standing ls es ++ (ls, g) ∷ []
  standing_last ls [] g = refl
  standing_last ls (e ∷ es) g = ap (λ z. (ls, e) ∷ z) (standing_last ls es g)

  -- ---- what is asked of two parts

  equal_sides : (ls : List Listed) (e g : IlExp) (o p : Option Ty) → Has ls e o → Has ls g p → AreEqual (syntaxes il) o p → (s : Ty) × (o ≡ Some s) × ExpsHaveTypes il ls (e ∷ g ∷ []) (s ∷ s ∷ [])
  equal_sides ls e g None p h k q = absurd q
  equal_sides ls e g (Some s) None h k q = absurd q
  equal_sides ls e g (Some s) (Some u) h k q = (s, refl, has.more h (has.more (has.same u k (Same-sym (syntaxes il) s u q)) has.none))

  member_sides : (ls : List Listed) (e g : IlExp) (o p : Option Ty) → Has ls e o → Has ls g p → IsMember (syntaxes il) o p → (s : Ty) × ExpsHaveTypes il ls (e ∷ g ∷ []) (s ∷ ty.List s ∷ [])
  member_sides ls e g None p h k q = absurd q
  member_sides ls e g (Some s) None h k q = absurd q
  member_sides ls e g (Some s) (Some w) h k q = (s, has.more h (has.more (has.same w k (same_elements (syntaxes il) w q.0 s q.1.0 q.1.1)) has.none))

  -- a list, as the list that it means
  as_list : (ls : List Listed) (e : IlExp) (o : Option Ty) → Has ls e o → IsList (syntaxes il) o → (t u : Ty) × (o ≡ Some t) × Means (syntaxes il) t (ty.List u) × ExpHasType il ls e (ty.List u)
  as_list ls e None h q = absurd q
  as_list ls e (Some t) h q = (t, q.0, refl, q.1, has.same t h (same_list (syntaxes il) t q.0 q.1))

  -- ---- forms

  named : (ls : List Listed) (e : IlExp) (t u : Ty) → Some t ≡ Some u → ExpHasType il ls e u → ExpHasType il ls e t
  named ls e t u k h = let same : u ≡ t = cc in subst (ExpHasType il ls e) same h

  strict_as : (ls : List Listed) (e : IlExp) (y : Level) → out-IlExp e ≡ y → form_at y ≡ Some (Strict (operands_at item_exp segment_exps y) (operation_at y)) → (ts : List Ty) (t : Ty)
      → ExpsHaveTypes il ls (operands_at item_exp segment_exps y) ts → OperationType (syntaxes il) y ts t → ExpHasType il ls e t
  strict_as ls e y is form ts t parts told =
      has.strict (operands_at item_exp segment_exps y) (operation_at y) ts (by_itself (ap form_at is ∙ form)) parts (subst (λ z. OperationType (syntaxes il) z ts t) (sym is) told)

  -- operands of one type
  plain_as : (ls : List Listed) (e : IlExp) (y : Level) → out-IlExp e ≡ y → form_at y ≡ Some (Strict (operands_at item_exp segment_exps y) (operation_at y)) → (os : List (Option Ty)) (t u w : Ty) → Some t ≡ Some u
      → AllHave (standing ls (operands_at item_exp segment_exps y)) os → AllAre (syntaxes il) w os → plain_types y ≡ Some (map (λ (e : IlExp). w) (operands_at item_exp segment_exps y), u) → ExpHasType il ls e t
  plain_as ls e y is form os t u w k h a p =
      named ls e t u k (strict_as ls e y is form (map (λ (e : IlExp). w) (operands_at item_exp segment_exps y)) u (all_as ls (operands_at item_exp segment_exps y) os w h a) (row.plain p))

  -- an order comparison
  ordered_as : (ls : List Listed) (e : IlExp) (y : Level) → out-IlExp e ≡ y → form_at y ≡ Some (Strict (operands_at item_exp segment_exps y) (operation_at y)) → (os : List (Option Ty)) (t : Ty) → Some t ≡ Some ty.Bool
      → AllHave (standing ls (operands_at item_exp segment_exps y)) os → AreOrdered (syntaxes il) os → ((s : Ty) → map (λ (e : IlExp). s) (operands_at item_exp segment_exps y) ≡ s ∷ s ∷ [])
      → ((n : NumTy) → IsCompared y (number_type n)) → ExpHasType il ls e t
  ordered_as ls e y is form os t k h (inl a) two compared =
      named ls e t ty.Bool k (strict_as ls e y is form (ty.Nat ∷ ty.Nat ∷ []) ty.Bool (subst (ExpsHaveTypes il ls (operands_at item_exp segment_exps y)) (two ty.Nat) (all_as ls (operands_at item_exp segment_exps y) os ty.Nat h a))
      (row.compared ty.Nat (compared numbers.Nat)))
  ordered_as ls e y is form os t k h (inr a) two compared =
      named ls e t ty.Bool k (strict_as ls e y is form (ty.Int ∷ ty.Int ∷ []) ty.Bool (subst (ExpsHaveTypes il ls (operands_at item_exp segment_exps y)) (two ty.Int) (all_as ls (operands_at item_exp segment_exps y) os ty.Int h a))
      (row.compared ty.Int (compared numbers.Int)))

  -- equality
  compared_as : (ls : List Listed) (e : IlExp) (y : Level) (a b : IlExp) → out-IlExp e ≡ y → form_at y ≡ Some (Strict (operands_at item_exp segment_exps y) (operation_at y)) → operands_at item_exp segment_exps y ≡ a ∷ b ∷ []
      → (os : List (Option Ty)) (t : Ty) → Some t ≡ Some ty.Bool → AllHave (standing ls (a ∷ b ∷ [])) os → AreEqual (syntaxes il) (first_type os) (last_type os) → ((s : Ty) → IsCompared y s) → ExpHasType il ls e t
  compared_as ls e y a b is form are os t k h q compared =
      let w = two_have ls a b os h in
      let sides = equal_sides ls a b w.0 w.1 w.3 w.4 (subst (λ z. AreEqual (syntaxes il) (first_type z) (last_type z)) w.2 q) in
      named ls e t ty.Bool k (strict_as ls e y is form (sides.0 ∷ sides.0 ∷ []) ty.Bool (subst (λ z. ExpsHaveTypes il ls z (sides.0 ∷ sides.0 ∷ [])) (sym are) sides.2) (row.compared sides.0 (compared sides.0)))

  variable_as : (ls : List Listed) (e : IlExp) (x : Name) → out-IlExp e ≡ IlExp-F.Var x → (t : Ty) (found : Option Listed) → listed_as x ls ≡ found → Some t ≡ option_map type_of found → ExpHasType il ls e t
  variable_as ls e x is t None at k = absurd (cc)
  variable_as ls e x is t (Some l) at k = has.variable x l (by_itself (ap form_at is)) at (let same : t ≡ type_of l = cc in same)

  call_as : (ls : List Listed) (e : IlExp) (fun : Name) (es : List IlExp) → out-IlExp e ≡ IlExp-F.Call fun es → (os : List (Option Ty)) (t : Ty) → AllHave (standing ls es) os
      → Some t ≡ option_map (λ (f : FunDef). f.result) (function_named il fun) → Asks il (IlExp-F.Call fun es) os → ExpHasType il ls e t
  call_as ls e fun es is os t h k asks =
      let told : Some t ≡ Some asks.declared.result = k ∙ ap (option_map (λ (f : FunDef). f.result)) asks.found in
      has.call fun es asks.declared (by_itself (ap form_at is)) asks.found (have_as ls es os asks.declared.params h asks.typed) (let same : t ≡ asks.declared.result = cc in same)

  absent_as : (ls : List Listed) (e : IlExp) (s : Ty) → out-IlExp e ≡ IlExp-F.Absent s → IsListOrOption (syntaxes il) s → ExpHasType il ls e s
  absent_as ls e s is (inl h) =
      has.strict [] (constant (value.List [])) [] (absent_list s h.0 is h.1 refl) has.none (subst (λ z. OperationType (syntaxes il) z [] s) (sym is) (row.construction row.absent))
  absent_as ls e s is (inr h) =
      has.strict [] (constant (value.Opt Option.None)) [] (absent_option s h.0 is h.1 refl) has.none (subst (λ z. OperationType (syntaxes il) z [] s) (sym is) (row.construction row.absent))

  -- what is injected
  up_as : (ls : List Listed) (e : IlExp) (s : Ty) (a : IlExp) → out-IlExp e ≡ IlExp-F.Up s a → (o : Option Ty) → Has ls a o → IsBelow (syntaxes il) o s → ExpHasType il ls e s
  up_as ls e s a is None h q = absurd q
  up_as ls e s a is (Some u) h q = strict_as ls e (IlExp-F.Up s a) is refl (u ∷ []) s (has.more h has.none) (row.up u q.0)

  present_as : (ls : List Listed) (e a : IlExp) → out-IlExp e ≡ IlExp-F.Present a → (o : Option Ty) (t : Ty) → Has ls a o → Some t ≡ option_map ty.Opt o → ExpHasType il ls e t
  present_as ls e a is None t h k = absurd (cc)
  present_as ls e a is (Some u) t h k = named ls e t (ty.Opt u) k (strict_as ls e (IlExp-F.Present a) is refl (u ∷ []) (ty.Opt u) (has.more h has.none) (row.construction (row.present u)))

  dot_as : (ls : List Listed) (e a : IlExp) (name : Name) → out-IlExp e ≡ IlExp-F.Dot a name → (o : Option Ty) (t : Ty) → Has ls a o → ChosenFrom (IsFieldOf (syntaxes il) name) o (Some t) → ExpHasType il ls e t
  dot_as ls e a name is None t h k = absurd (cc)
  dot_as ls e a name is (Some s) t h k = strict_as ls e (IlExp-F.Dot a name) is refl (s ∷ []) t (has.more h has.none) (row.structure (row.dot k.declared k.has k.found))

  element_as : (ls : List Listed) (e a b : IlExp) → out-IlExp e ≡ IlExp-F.IlExp::At a b → (o p : Option Ty) (t : Ty) → Has ls a o → Has ls b p → ChosenFrom (IsElementOf (syntaxes il)) o (Some t) → Is (syntaxes il) p ty.Nat → ExpHasType il ls e t
  element_as ls e a b is None p t h g k q = absurd (cc)
  element_as ls e a b is (Some s) p t h g k q =
      strict_as ls e (IlExp-F.IlExp::At a b) is refl (ty.List t ∷ ty.Nat ∷ []) t (has.more (has.same s h (same_list (syntaxes il) s t k)) (has.more (has_as ls b p ty.Nat g q) has.none)) (row.access (row.element t))

  tuple_as : (ls : List Listed) (e : IlExp) (es : List IlExp) → out-IlExp e ≡ IlExp-F.Tuple es → (os : List (Option Ty)) (t : Ty) → AllHave (standing ls es) os → AllTyped (syntaxes il) os → Some t ≡ option_map ty.Tuple (all_types os) → ExpHasType il ls e t
  tuple_as ls e es is os t h q k =
      let r = types_have ls es os h q in
      named ls e t (ty.Tuple r.0) (k ∙ ap (option_map ty.Tuple) r.1) (strict_as ls e (IlExp-F.Tuple es) is refl r.0 (ty.Tuple r.0) r.2 (row.construction (row.tuple r.0)))

  fields_have : (ls : List Listed) (e : IlExp) (type : Name) (es : List IlExp) → out-IlExp e ≡ IlExp-F.Fields type es → (os : List (Option Ty)) → AllHave (standing ls es) os → (asks : Asks il (IlExp-F.Fields type es) os)
      → All (λ (d : Name × Ty). IsText d.0) asks.declared → ExpHasType il ls e (ty.Name type)
  fields_have ls e type es is os h asks texts =
      has.strict es (building asks.declared) (map (λ (d : Name × Ty). d.1) asks.declared)
      (structure type es asks.declared is asks.has (AllHave-length ls es os h ∙ sym (AreEach-length _ asks.declared os asks.typed)) refl)
      (fields_as ls es os asks.declared h asks.typed)
      (subst (λ z. OperationType (syntaxes il) z (map (λ (d : Name × Ty). d.1) asks.declared) (ty.Name type)) (sym is) (row.construction (row.fields asks.declared asks.has texts)))

  -- ---- lists and records

  cat_as : (ls : List Listed) (e a b : IlExp) → out-IlExp e ≡ IlExp-F.Cat a b → (o p : Option Ty) (t : Ty) → Has ls a o → Has ls b p → Some t ≡ o → IsList (syntaxes il) o → AreEqual (syntaxes il) o p → ExpHasType il ls e t
  cat_as ls e a b is None p t h g k q eq = absurd q
  cat_as ls e a b is (Some s) None t h g k q eq = absurd eq
  cat_as ls e a b is (Some s) (Some u) t h g k q eq =
      let list = same_list (syntaxes il) s q.0 q.1 in
      named ls e t s k
      (has.same (ty.List q.0)
      (strict_as ls e (IlExp-F.Cat a b) is refl (ty.List q.0 ∷ ty.List q.0 ∷ []) (ty.List q.0)
      (has.more (has.same s h list) (has.more (has.same s (has.same u g (Same-sym (syntaxes il) s u eq)) list) has.none)) (row.access (row.cat q.0)))
      (Same-sym (syntaxes il) s (ty.List q.0) list))

  slice_as : (ls : List Listed) (e a b c : IlExp) → out-IlExp e ≡ IlExp-F.IlExp::Slice a b c → (o p r : Option Ty) (t : Ty) → Has ls a o → Has ls b p → Has ls c r → Some t ≡ o → IsList (syntaxes il) o → Is (syntaxes il) p ty.Nat
      → Is (syntaxes il) r ty.Nat → ExpHasType il ls e t
  slice_as ls e a b c is None p r t h g i k q first second = absurd q
  slice_as ls e a b c is (Some s) p r t h g i k q first second =
      let list = same_list (syntaxes il) s q.0 q.1 in
      named ls e t s k
      (has.same (ty.List q.0)
      (strict_as ls e (IlExp-F.IlExp::Slice a b c) is refl (ty.List q.0 ∷ ty.Nat ∷ ty.Nat ∷ []) (ty.List q.0)
      (has.more (has.same s h list) (has.more (has_as ls b p ty.Nat g first) (has.more (has_as ls c r ty.Nat i second) has.none))) (row.access (row.part q.0)))
      (Same-sym (syntaxes il) s (ty.List q.0) list))

  join_as : (ls : List Listed) (e a b : IlExp) → out-IlExp e ≡ IlExp-F.Join a b → (o p : Option Ty) (t : Ty) → Has ls a o → Has ls b p → Some t ≡ o → AreJoined (syntaxes il) o p → ExpHasType il ls e t
  join_as ls e a b is None p t h g k q = absurd q
  join_as ls e a b is (Some s) None t h g k q = absurd q.1
  join_as ls e a b is (Some s) (Some u) t h g k q =
      named ls e t s k (strict_as ls e (IlExp-F.Join a b) is refl (s ∷ s ∷ []) s (has.more h (has.more (has.same u g (Same-sym (syntaxes il) s u q.1)) has.none)) (row.structure (row.join s q.0)))

  -- a change at a path, by its first part, the positions and the last part
  abbrev IsChanged : (List PathSeg → Ty → Option Ty → Type 0) → List PathSeg → Option Ty → Option Ty → Type 0
  IsChanged R path None last = ⊥
  IsChanged R path (Some s) last = R path s last

  set_parts : (ls : List Listed) (a b : IlExp) (path : List PathSeg) (s : Ty) (places : List (Option Ty)) (last : Option Ty) (w : Ty) (ts : List Ty) → ExpHasType il ls a s → AllHave (standing ls (flattened (map segment_exps path))) places → Has ls b last
      → AllAre (syntaxes il) ty.Nat places → PathType (syntaxes il) path s ts w → Is (syntaxes il) last w → ExpsHaveTypes il ls (a ∷ flattened (map segment_exps path) ++ b ∷ []) (s ∷ (ts ++ w ∷ []))
  set_parts ls a b path s places last w ts h positions g nats leads is =
      has.more h (have_last ls (subst (ExpsHaveTypes il ls (flattened (map segment_exps path))) (sym (path_numbers (syntaxes il) leads)) (all_as ls (flattened (map segment_exps path)) places ty.Nat positions nats)) b w (has_as ls b last w g is))

  set_as : (ls : List Listed) (e a : IlExp) (path : List PathSeg) (b : IlExp) → out-IlExp e ≡ IlExp-F.Set a path b → (o : Option Ty) (places : List (Option Ty)) (last : Option Ty) (t : Ty) → Has ls a o
      → AllHave (standing ls (flattened (map segment_exps path))) places → Has ls b last → Some t ≡ o → AllAre (syntaxes il) ty.Nat places → IsSet (syntaxes il) path o last → ExpHasType il ls e t
  set_as ls e a path b is None places last t h positions g k nats q = absurd q
  set_as ls e a path b is (Some s) places last t h positions g k nats (w, (leads, new)) =
      named ls e t s k (strict_as ls e (IlExp-F.Set a path b) is refl (s ∷ (leads.0 ++ w ∷ [])) s (set_parts ls a b path s places last w leads.0 h positions g nats leads.1 new) (row.structure (row.set leads.0 w leads.1)))

  extend_as : (ls : List Listed) (e a : IlExp) (path : List PathSeg) (b : IlExp) → out-IlExp e ≡ IlExp-F.Extend a path b → (o : Option Ty) (places : List (Option Ty)) (last : Option Ty) (t : Ty) → Has ls a o
      → AllHave (standing ls (flattened (map segment_exps path))) places → Has ls b last → Some t ≡ o → AllAre (syntaxes il) ty.Nat places → IsExtended (syntaxes il) path o last → ExpHasType il ls e t
  extend_as ls e a path b is None places last t h positions g k nats q = absurd q
  extend_as ls e a path b is (Some s) places last t h positions g k nats (w, (leads, (list, new))) =
      named ls e t s k (strict_as ls e (IlExp-F.Extend a path b) is refl (s ∷ (leads.0 ++ w ∷ [])) s (set_parts ls a b path s places last w leads.0 h positions g nats leads.1 new)
      (row.structure (row.extend leads.0 w list.0 leads.1 list.1)))

  -- the first part, the positions and the last part of a change
  change_parts : (ls : List Listed) (a : IlExp) (es : List IlExp) (b : IlExp) (os : List (Option Ty)) → AllHave (standing ls (a ∷ es ++ b ∷ [])) os
      → Has ls a (first_type os) × AllHave (standing ls es) (before_last (behind_first os)) × Has ls b (last_type os)
  change_parts ls a es b [] h = absurd h
  change_parts ls a es b (o ∷ []) h = absurd (none_have (standing ls es) (ls, b) (subst (λ z. AllHave z []) (standing_last ls es b) h.1))
  change_parts ls a es b (o ∷ p ∷ os) h =
      let rest = last_has (standing ls es) (ls, b) (p ∷ os) (subst (λ z. AllHave z (p ∷ os)) (standing_last ls es b) h.1) in
      (h.0, rest.0, rest.1)

  iteration_as : (ls : List Listed) (e : IlExp) (how : Iteration) (xs : List Name) (body : IlExp) → out-IlExp e ≡ IlExp-F.Iter how xs body → (counts : List (Option Ty)) (o : Option Ty) (t : Ty) → AllHave (standing ls (count_of how)) counts
      → Has (listed_inside how xs ls) body o → Some t ≡ option_map (wrapped (kind_of how ∷ [])) o → AllAre (syntaxes il) ty.Nat counts → IsKindedAt ls (IlExp-F.Iter how xs body) → ExpHasType il ls e t
  iteration_as ls e how xs body is counts None t h g k q kinded = absurd (cc)
  iteration_as ls e how xs body is counts (Some u) t h g k q kinded =
      has.iteration how xs body u (by_itself (ap form_at is)) (all_as ls (count_of how) counts ty.Nat h q) kinded g (let same : t ≡ wrapped (kind_of how ∷ []) u = cc in same)

-- ---- levels

abbrev pub AreTexts : Il → Type 0
AreTexts il = (t : Ty) (ds : List (Name × Ty)) → HasFields (syntaxes il) t ds → All (λ (d : Name × Ty). IsText d.0) ds

module _ (il : Il) (texts : AreTexts il) where
  typed_level : (ls : List Listed) (e : IlExp) (y : Level) → out-IlExp e ≡ y → (os : List (Option Ty)) (t : Ty) → AllHave il (parts_at ls y) os → TypeFrom (syntaxes il) (origin il ls y) os (Some t) → Asks il y os → AsksOfPath (syntaxes il) y os
      → IsProperAt y → IsKindedAt ls y → ExpHasType il ls e t
  typed_level ls e (IlExp-F.Var x) is os t h from asks path at kinded = variable_as il ls e x is t (listed_as x ls) refl from
  typed_level ls e (IlExp-F.Call fun es) is os t h from asks path at kinded = call_as il ls e fun es is os t h from asks
  typed_level ls e (IlExp-F.Iter how xs body) is os t h from asks path at kinded =
      let last = last_has il (standing ls (count_of how)) (listed_inside how xs ls, body) os h in
      iteration_as il ls e how xs body is (before_last os) (last_type os) t last.0 last.1 from asks kinded
  typed_level ls e (IlExp-F.Bool truth) is os t h from asks path at kinded = named il ls e t ty.Bool from (strict_as il ls e (IlExp-F.Bool truth) is refl [] ty.Bool has.none (row.plain refl))
  typed_level ls e (IlExp-F.Number n) is os t h from asks path at kinded = named il ls e t ty.Nat from (strict_as il ls e (IlExp-F.Number n) is refl [] ty.Nat has.none (row.number at))
  typed_level ls e (IlExp-F.Text text) is os t h from asks path at kinded = named il ls e t ty.Text from (strict_as il ls e (IlExp-F.Text text) is refl [] ty.Text has.none (row.text at))
  typed_level ls e (IlExp-F.Not a) is os t h from asks path at kinded = plain_as il ls e (IlExp-F.Not a) is refl os t ty.Bool ty.Bool from h asks refl
  typed_level ls e (IlExp-F.And a b) is os t h from asks path at kinded = plain_as il ls e (IlExp-F.And a b) is refl os t ty.Bool ty.Bool from h asks refl
  typed_level ls e (IlExp-F.Or a b) is os t h from asks path at kinded = plain_as il ls e (IlExp-F.Or a b) is refl os t ty.Bool ty.Bool from h asks refl
  typed_level ls e (IlExp-F.Imp a b) is os t h from asks path at kinded = plain_as il ls e (IlExp-F.Imp a b) is refl os t ty.Bool ty.Bool from h asks refl
  typed_level ls e (IlExp-F.Iff a b) is os t h from asks path at kinded = plain_as il ls e (IlExp-F.Iff a b) is refl os t ty.Bool ty.Bool from h asks refl
  typed_level ls e (IlExp-F.Neg a) is os t h from asks path at kinded = plain_as il ls e (IlExp-F.Neg a) is refl os t ty.Int ty.Int from h asks refl
  typed_level ls e (IlExp-F.Add n a b) is os t h from asks path at kinded = plain_as il ls e (IlExp-F.Add n a b) is refl os t (number_type n) (number_type n) from h asks refl
  typed_level ls e (IlExp-F.Sub n a b) is os t h from asks path at kinded = plain_as il ls e (IlExp-F.Sub n a b) is refl os t (number_type n) (number_type n) from h asks refl
  typed_level ls e (IlExp-F.Mul n a b) is os t h from asks path at kinded = plain_as il ls e (IlExp-F.Mul n a b) is refl os t (number_type n) (number_type n) from h asks refl
  typed_level ls e (IlExp-F.Div n a b) is os t h from asks path at kinded = plain_as il ls e (IlExp-F.Div n a b) is refl os t (number_type n) (number_type n) from h asks refl
  typed_level ls e (IlExp-F.Rem n a b) is os t h from asks path at kinded = plain_as il ls e (IlExp-F.Rem n a b) is refl os t (number_type n) (number_type n) from h asks refl
  typed_level ls e (IlExp-F.Pow n a b) is os t h from asks path at kinded =
      named il ls e t (number_type n) from (strict_as il ls e (IlExp-F.Pow n a b) is refl (number_type n ∷ ty.Nat ∷ []) (number_type n) (have_as il ls (a ∷ b ∷ []) os (number_type n ∷ ty.Nat ∷ []) h asks) (row.plain refl))
  typed_level ls e (IlExp-F.Eq a b) is os t h from asks path at kinded = compared_as il ls e (IlExp-F.Eq a b) a b is refl refl os t from h asks (λ s. tt)
  typed_level ls e (IlExp-F.Ne a b) is os t h from asks path at kinded = compared_as il ls e (IlExp-F.Ne a b) a b is refl refl os t from h asks (λ s. tt)
  typed_level ls e (IlExp-F.Lt a b) is os t h from asks path at kinded = ordered_as il ls e (IlExp-F.Lt a b) is refl os t from h asks (λ s. refl) (λ n. (n, refl))
  typed_level ls e (IlExp-F.Gt a b) is os t h from asks path at kinded = ordered_as il ls e (IlExp-F.Gt a b) is refl os t from h asks (λ s. refl) (λ n. (n, refl))
  typed_level ls e (IlExp-F.Le a b) is os t h from asks path at kinded = ordered_as il ls e (IlExp-F.Le a b) is refl os t from h asks (λ s. refl) (λ n. (n, refl))
  typed_level ls e (IlExp-F.Ge a b) is os t h from asks path at kinded = ordered_as il ls e (IlExp-F.Ge a b) is refl os t from h asks (λ s. refl) (λ n. (n, refl))
  typed_level ls e (IlExp-F.Member a b) is os t h from asks path at kinded =
      let w = two_have il ls a b os h in
      let m = member_sides il ls a b w.0 w.1 w.3 w.4 (subst (λ z. IsMember (syntaxes il) (first_type z) (last_type z)) w.2 asks) in
      named il ls e t ty.Bool from (strict_as il ls e (IlExp-F.Member a b) is refl (m.0 ∷ ty.List m.0 ∷ []) ty.Bool m.1 (row.access (row.member m.0)))
  typed_level ls e (IlExp-F.Case type tag es) is os t h from asks path at kinded =
      named il ls e t (ty.Name type) from
      (strict_as il ls e (IlExp-F.Case type tag es) is refl asks.operands (ty.Name type) (have_as il ls es os asks.operands h asks.typed) (row.construction (row.case asks.cases at asks.has asks.found)))
  typed_level ls e (IlExp-F.Fields type es) is os t h from asks path at kinded = named il ls e t (ty.Name type) from (fields_have il ls e type es is os h asks (texts (ty.Name type) asks.declared asks.has))
  typed_level ls e (IlExp-F.Dot a name) is os t h from asks path at kinded =
      let w = one_has il ls a os h in
      dot_as il ls e a name is w.0 t w.2 (subst (λ z. ChosenFrom (IsFieldOf (syntaxes il) name) (first_type z) (Some t)) w.1 from)
  typed_level ls e (IlExp-F.Set a steps b) is os t h from asks path at kinded =
      let parts = change_parts il ls a (flattened (map segment_exps steps)) b os h in
      set_as il ls e a steps b is (first_type os) (before_last (behind_first os)) (last_type os) t parts.0 parts.1 parts.2 from path asks
  typed_level ls e (IlExp-F.Extend a steps b) is os t h from asks path at kinded =
      let parts = change_parts il ls a (flattened (map segment_exps steps)) b os h in
      extend_as il ls e a steps b is (first_type os) (before_last (behind_first os)) (last_type os) t parts.0 parts.1 parts.2 from path asks
  typed_level ls e (IlExp-F.Join a b) is os t h from asks path at kinded =
      let w = two_have il ls a b os h in
      join_as il ls e a b is w.0 w.1 t w.3 w.4 (subst (λ z. Some t ≡ first_type z) w.2 from) (subst (λ z. AreJoined (syntaxes il) (first_type z) (last_type z)) w.2 asks)
  typed_level ls e (IlExp-F.Tuple es) is os t h from asks path at kinded = tuple_as il ls e es is os t h asks from
  typed_level ls e (IlExp-F.List s items) is os t h from asks path at kinded =
      named il ls e t (ty.List s) from (strict_as il ls e (IlExp-F.List s items) is refl (map (part_type s) items) (ty.List s) (items_have il ls s items os h asks) (row.construction row.list))
  typed_level ls e (IlExp-F.Cat a b) is os t h from asks path at kinded =
      let w = two_have il ls a b os h in
      cat_as il ls e a b is w.0 w.1 t w.3 w.4 (subst (λ z. Some t ≡ first_type z) w.2 from) (subst (λ z. IsList (syntaxes il) (first_type z)) w.2 asks.0) (subst (λ z. AreEqual (syntaxes il) (first_type z) (last_type z)) w.2 asks.1)
  typed_level ls e (IlExp-F.Empty s) is os t h from asks path at kinded = named il ls e t (ty.Opt s) from (strict_as il ls e (IlExp-F.Empty s) is refl [] (ty.Opt s) has.none (row.construction row.empty))
  typed_level ls e (IlExp-F.Present a) is os t h from asks path at kinded =
      let w = one_has il ls a os h in
      present_as il ls e a is w.0 t w.2 (subst (λ z. Some t ≡ option_map ty.Opt (first_type z)) w.1 from)
  typed_level ls e (IlExp-F.Absent s) is os t h from asks path at kinded = named il ls e t s from (absent_as il ls e s is asks)
  typed_level ls e (IlExp-F.Len a) is os t h from asks path at kinded =
      let w = one_has il ls a os h in
      let l = as_list il ls a w.0 w.2 (subst (λ z. IsList (syntaxes il) (first_type z)) w.1 asks) in
      named il ls e t ty.Nat from (strict_as il ls e (IlExp-F.Len a) is refl (ty.List l.1 ∷ []) ty.Nat (has.more l.4 has.none) (row.access (row.len l.1)))
  typed_level ls e (IlExp-F.IlExp::At a b) is os t h from asks path at kinded =
      let w = two_have il ls a b os h in
      element_as il ls e a b is w.0 w.1 t w.3 w.4 (subst (λ z. ChosenFrom (IsElementOf (syntaxes il)) (first_type z) (Some t)) w.2 from) (subst (λ z. AllAre (syntaxes il) ty.Nat (behind_first z)) w.2 asks.1).0
  typed_level ls e (IlExp-F.IlExp::Slice a b c) is os t h from asks path at kinded =
      let w = three_have il ls a b c os h in
      let nats = subst (λ z. AllAre (syntaxes il) ty.Nat (behind_first z)) w.3 asks.1 in
      slice_as il ls e a b c is w.0 w.1 w.2 t w.4 w.5 w.6 (subst (λ z. Some t ≡ first_type z) w.3 from) (subst (λ z. IsList (syntaxes il) (first_type z)) w.3 asks.0) nats.0 nats.1.0
  typed_level ls e (IlExp-F.Up s a) is os t h from asks path at kinded =
      let w = one_has il ls a os h in
      named il ls e t s from (up_as il ls e s a is w.0 w.2 (subst (λ z. IsBelow (syntaxes il) (first_type z) s) w.1 asks))

  -- ---- expressions

  abbrev PartProper : Part → Type 0
  PartProper p = IsProperExp p.1

  standing_proper : (ls : List Listed) (es : List IlExp) → AreProperExps es → AllByRecursion PartProper (standing ls es)
  standing_proper ls [] properly.none = tt
  standing_proper ls (e ∷ es) (properly.more h hs) = (h, standing_proper ls es hs)

  last_proper : (ls : List Listed) (es : List IlExp) (q : Part) → AreProperExps (es ++ q.1 ∷ []) → AllByRecursion PartProper (standing ls es ++ q ∷ [])
  last_proper ls [] q (properly.more h hs) = (h, tt)
  last_proper ls (e ∷ es) q (properly.more h hs) = (h, last_proper ls es q hs)

  parts_proper : (ls : List Listed) (y : Level) → AreProperExps (properly.parts_at y) → AllByRecursion PartProper (parts_at ls y)
  parts_proper ls (IlExp-F.Iter how xs body) h = last_proper ls (count_of how) (listed_inside how xs ls, body) h
  parts_proper ls y h = standing_proper ls (operands_at item_exp segment_exps y) h

  mutual
    pub exp_has : {ls : List Listed} {e : IlExp} {o : Option Ty} {bs : List TypeRule} → HasTyping il ls e o bs → bs ≡ [] → AllByRecursion (IsListed ls) (occurrences e) → IsProperExp e → Has il ls e o
    exp_has {o = None} h clean listed p = tt
    exp_has {ls = ls} {e = e} {o = Some t} (typings.typing os inside here hs from broken whole) clean listed (properly.proper at parts) =
        let outside = none-left inside here _ whole clean in
        let local = none-right inside here _ whole clean in
        let form = none-left broken.by_form (broken.by_path ++ broken.by_names) here broken.whole local in
        let later = none-right broken.by_form (broken.by_path ++ broken.by_names) here broken.whole local in
        let named_so = Told-holds _ _ broken.by_names broken.names (none-right broken.by_path broken.by_names _ refl later) in
        let keep = parts_keep il hs outside in
        typed_level ls e (out-IlExp e) refl os t (parts_have hs outside (parts_listed ls e (out-IlExp e) refl named_so keep listed) (parts_proper ls (out-IlExp e) parts)) from
        (Told-holds _ _ broken.by_form broken.form form) (Told-holds _ _ broken.by_path broken.path (none-left broken.by_path broken.by_names _ refl later)) at (kinded_at ls e (out-IlExp e) refl named_so keep listed)

    parts_have : {ps : List Part} {os : List (Option Ty)} {bs : List TypeRule} → HaveTypings il ps os bs → bs ≡ [] → AllByRecursion PartListed ps → AllByRecursion PartProper ps → AllHave il ps os
    parts_have typings.none clean listed p = tt
    parts_have (typings.more first rest t h whole) clean listed p =
        (exp_has t (none-left first rest _ whole clean) listed.0 p.0, parts_have h (none-right first rest _ whole clean) listed.1 p.1)

  -- expressions that stand in one scope
  pub exps_have : (ls : List Listed) (es : List IlExp) {os : List (Option Ty)} {bs : List TypeRule} → HaveTypings il (standing ls es) os bs → bs ≡ [] → AllByRecursion (IsListed ls) (flattened (map occurrences es)) → AreProperExps es → AllHave il (standing ls es) os
  exps_have ls es h clean listed p = parts_have h clean (standing_listed ls es listed) (standing_proper ls es p)
