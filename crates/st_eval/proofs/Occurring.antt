-- What occurs in an expression or a premise is what occurs in its parts, and its names likewise.
use Rattle.std.proofs.Common.{◌≡◌, refl, sym, ap, ap₂, ◌∙◌, List, [], ◌∷◌, ◌++◌, map, append-nil, Bool, true, false, ◌||◌, ◌&&◌, not}
use Rattle.std.specs.List.{list_any}
use Rattle.std.proofs.lemmas.List.{map-append}
use Rattle.std.proofs.lemmas.List.Folds.{list_any-append}
use Rattle.st_num.specs.Names.{same_name}
use Rattle.st_il.specs.declared.expression.IlExp.{IlExp, out-IlExp, fold_out-IlExp, map-IlExp}
use Rattle.st_il.specs.declared.expression.IlExp.TheOpen.{IlExp-F, Iteration-F, ListItem-F, PathSeg-F}
use Rattle.st_il.specs.declared.expression.IlPrem.{IlPrem, out-IlPrem, map-IlPrem, fold_out-IlPrem}
use Rattle.st_il.specs.declared.expression.IlPrem.TheOpen.{IlPrem-F}
use Rattle.st_il.specs.declared.expression.Iteration.{Iteration, out-Iteration, fold-Iteration, fold_out-Iteration, map-Iteration}
use Rattle.st_il.specs.declared.expression.ListItem.{ListItem, out-ListItem, fold-ListItem, fold_out-ListItem, map-ListItem}
use Rattle.st_il.specs.declared.expression.PathSeg.{PathSeg, out-PathSeg, fold-PathSeg, fold_out-PathSeg, map-PathSeg}
use Rattle.st_il.specs.Occurrences.{Counted, in_any, occurs_at, occurs_count_at, occurs_item_at, occurs_step_at, occurs, occurs_in_count, occurs_in_item, occurs_in_step, occurs_in_prem, occurs_prem_at}
use Rattle.st_il.specs.Names.{Name, has_name, flattened}
use Rattle.st_semantics.specs.Iterations.{count_of, index_of, kind_of, count_at, index_at, kind_at}
use Rattle.st_semantics.specs.Operands.{operands_at, item_at, segment_at, item_exp, segment_exps}
use Rattle.st_semantics.specs.OperationTypes.{Level}
use Rattle.st_ilcheck.specs.Variables.{Occurrence, Repeated, repeated_at, inside, occurrences, occurrences_at, occurrences_in, prem_occurrences, prem_occurrences_at}

-- ---- occurrences

abbrev of_item : ListItem → List Occurrence
of_item = fold-ListItem (List Occurrence) Repeated (List Occurrence) (List (List Occurrence)) occurrences_at repeated_at item_at segment_at

abbrev of_segment : PathSeg → List (List Occurrence)
of_segment = fold-PathSeg (List Occurrence) Repeated (List Occurrence) (List (List Occurrence)) occurrences_at repeated_at item_at segment_at

abbrev of_count : Iteration → Repeated
of_count = fold-Iteration (List Occurrence) Repeated (List Occurrence) (List (List Occurrence)) occurrences_at repeated_at item_at segment_at

abbrev mapped : Level → IlExp-F (List Occurrence) Repeated (List Occurrence) (List (List Occurrence))
mapped y = map-IlExp IlExp Iteration ListItem PathSeg (List Occurrence) Repeated (List Occurrence) (List (List Occurrence)) occurrences of_count of_item of_segment y

abbrev mapped_count : Iteration-F IlExp Iteration ListItem PathSeg → Iteration-F (List Occurrence) Repeated (List Occurrence) (List (List Occurrence))
mapped_count y = map-Iteration IlExp Iteration ListItem PathSeg (List Occurrence) Repeated (List Occurrence) (List (List Occurrence)) occurrences of_count of_item of_segment y

item-is : (i : ListItem) → of_item i ≡ occurrences (item_exp i)
item-is i = fold_out-ListItem (List Occurrence) Repeated (List Occurrence) (List (List Occurrence)) occurrences_at repeated_at item_at segment_at i ∙ by (out-ListItem i)
  where
    by : (y : ListItem-F IlExp Iteration ListItem PathSeg)
        → item_at (map-ListItem IlExp Iteration ListItem PathSeg (List Occurrence) Repeated (List Occurrence) (List (List Occurrence)) occurrences of_count of_item of_segment y) ≡ occurrences (item_at y)
    by (ListItem-F.One e) = refl
    by (ListItem-F.All e) = refl

items-are : (is : List ListItem) → map (λ (os : List Occurrence). os) (map of_item is) ≡ map occurrences (map item_exp is)
items-are [] = refl
items-are (i ∷ is) = ap₂ (λ a b. a ∷ b) (item-is i) (items-are is)

segment-is : (s : PathSeg) → of_segment s ≡ map occurrences (segment_exps s)
segment-is s = fold_out-PathSeg (List Occurrence) Repeated (List Occurrence) (List (List Occurrence)) occurrences_at repeated_at item_at segment_at s ∙ by (out-PathSeg s)
  where
    by : (y : PathSeg-F IlExp Iteration ListItem PathSeg)
        → segment_at (map-PathSeg IlExp Iteration ListItem PathSeg (List Occurrence) Repeated (List Occurrence) (List (List Occurrence)) occurrences of_count of_item of_segment y) ≡ map occurrences (segment_at y)
    by (PathSeg-F.Field name) = refl
    by (PathSeg-F.PathSeg::At e) = refl
    by (PathSeg-F.PathSeg::Slice e g) = refl

path-is : (path : List PathSeg) (last : IlExp)
    → flattened (map (λ (oss : List (List Occurrence)). oss) (map of_segment path)) ++ occurrences last ∷ [] ≡ map occurrences (flattened (map segment_exps path) ++ last ∷ [])
path-is path last = ap (λ z. z ++ occurrences last ∷ []) (by path) ∙ sym (map-append occurrences (flattened (map segment_exps path)) (last ∷ []))
  where
    by : (path : List PathSeg) → flattened (map (λ (oss : List (List Occurrence)). oss) (map of_segment path)) ≡ map occurrences (flattened (map segment_exps path))
    by [] = refl
    by (s ∷ ss) = ap₂ (λ a b. a ++ b) (segment-is s) (by ss) ∙ sym (map-append occurrences (segment_exps s) (flattened (map segment_exps ss)))

operands-are : (y : Level) → operands_at (λ (os : List Occurrence). os) (λ (oss : List (List Occurrence)). oss) (mapped y) ≡ map occurrences (operands_at item_exp segment_exps y)
operands-are (IlExp-F.Set e path g) = ap (λ z. occurrences e ∷ z) (path-is path g)
operands-are (IlExp-F.Extend e path g) = ap (λ z. occurrences e ∷ z) (path-is path g)
operands-are (IlExp-F.List t items) = items-are items
operands-are _ = refl

occurrences-level : (e : IlExp) (y : Level) → out-IlExp e ≡ y → occurrences e ≡ occurrences_at (mapped y)
occurrences-level e y is =
    fold_out-IlExp (List Occurrence) Repeated (List Occurrence) (List (List Occurrence)) occurrences_at repeated_at item_at segment_at e ∙ ap (λ z. occurrences_at (mapped z)) is

pub occurrences-Var : (e : IlExp) (x : Name) → out-IlExp e ≡ IlExp-F.Var x → occurrences e ≡ (x, []) ∷ []
occurrences-Var e x is = occurrences-level e (IlExp-F.Var x) is

-- a level that is neither a variable nor an iteration
abbrev pub IsPlain : Level → Type 0
IsPlain (IlExp-F.Var x) = ⊥
IsPlain (IlExp-F.Iter how xs body) = ⊥
IsPlain _ = Unit {0}

plain-at : (y : Level) → IsPlain y → occurrences_at (mapped y) ≡ flattened (operands_at (λ (os : List Occurrence). os) (λ (oss : List (List Occurrence)). oss) (mapped y))
plain-at (IlExp-F.Var x) p = absurd p
plain-at (IlExp-F.Iter how xs body) p = absurd p
plain-at _ p = refl

pub occurrences-plain : (e : IlExp) (y : Level) → out-IlExp e ≡ y → IsPlain y → occurrences e ≡ flattened (map occurrences (operands_at item_exp segment_exps y))
occurrences-plain e y is p = occurrences-level e y is ∙ plain-at y p ∙ ap flattened (operands-are y)

count-is : (how : Iteration) → of_count how ≡ record { count = flattened (map occurrences (count_of how)); index = index_of how; kind = kind_of how }
count-is how = fold_out-Iteration (List Occurrence) Repeated (List Occurrence) (List (List Occurrence)) occurrences_at repeated_at item_at segment_at how ∙ by (out-Iteration how)
  where
    by : (y : Iteration-F IlExp Iteration ListItem PathSeg) → repeated_at (mapped_count y) ≡ record { count = flattened (map occurrences (count_at y)); index = index_at y; kind = kind_at y }
    by Iteration-F.Star = refl
    by Iteration-F.Plus = refl
    by Iteration-F.Quest = refl
    by (Iteration-F.Times e) = refl
    by (Iteration-F.Below index e) = refl

pub occurrences-Iter : (e : IlExp) (how : Iteration) (xs : List Name) (body : IlExp) → out-IlExp e ≡ IlExp-F.Iter how xs body
    → occurrences e ≡ flattened (map occurrences (count_of how)) ++ inside (index_of how) (kind_of how) (occurrences body)
occurrences-Iter e how xs body is = occurrences-level e (IlExp-F.Iter how xs body) is ∙ ap (λ (z : Repeated). z.count ++ inside z.index z.kind (occurrences body)) (count-is how)

-- ---- names that occur

one_part : (a : Bool) → a ≡ (a || false)
one_part true = refl
one_part false = refl

two_parts : (a b : Bool) → (a || b) ≡ (a || (b || false))
two_parts true b = refl
two_parts false b = one_part b

three_parts : (a b c : Bool) → (a || b || c) ≡ (a || (b || (c || false)))
three_parts true b c = refl
three_parts false b c = two_parts b c

module _ (x : Name) where
  abbrev mapped_names : Level → IlExp-F Bool Counted Bool Bool
  mapped_names y = map-IlExp IlExp Iteration ListItem PathSeg Bool Counted Bool Bool (occurs x) (occurs_in_count x) (occurs_in_item x) (occurs_in_step x) y

  occurs-level : (e : IlExp) (y : Level) → out-IlExp e ≡ y → occurs x e ≡ occurs_at x (mapped_names y)
  occurs-level e y is = fold_out-IlExp Bool Counted Bool Bool (occurs_at x) (occurs_count_at x) occurs_item_at occurs_step_at e ∙ ap (λ z. occurs_at x (mapped_names z)) is

  -- it occurs in one of these
  abbrev pub in_some : List IlExp → Bool
  in_some es = list_any (occurs x) es

  in_list : (es : List IlExp) → in_any (map (occurs x) es) ≡ in_some es
  in_list [] = refl
  in_list (e ∷ es) = ap (λ b. occurs x e || b) (in_list es)

  in_item : (i : ListItem) → occurs_in_item x i ≡ occurs x (item_exp i)
  in_item i = fold_out-ListItem Bool Counted Bool Bool (occurs_at x) (occurs_count_at x) occurs_item_at occurs_step_at i ∙ by (out-ListItem i)
    where
      by : (y : ListItem-F IlExp Iteration ListItem PathSeg)
          → occurs_item_at (map-ListItem IlExp Iteration ListItem PathSeg Bool Counted Bool Bool (occurs x) (occurs_in_count x) (occurs_in_item x) (occurs_in_step x) y) ≡ occurs x (item_at y)
      by (ListItem-F.One e) = refl
      by (ListItem-F.All e) = refl

  in_items : (is : List ListItem) → in_any (map (occurs_in_item x) is) ≡ in_some (map item_exp is)
  in_items [] = refl
  in_items (i ∷ is) = ap₂ (λ a b. a || b) (in_item i) (in_items is)

  in_step : (s : PathSeg) → occurs_in_step x s ≡ in_some (segment_exps s)
  in_step s = fold_out-PathSeg Bool Counted Bool Bool (occurs_at x) (occurs_count_at x) occurs_item_at occurs_step_at s ∙ by (out-PathSeg s)
    where
      by : (y : PathSeg-F IlExp Iteration ListItem PathSeg)
          → occurs_step_at (map-PathSeg IlExp Iteration ListItem PathSeg Bool Counted Bool Bool (occurs x) (occurs_in_count x) (occurs_in_item x) (occurs_in_step x) y) ≡ in_some (segment_at y)
      by (PathSeg-F.Field name) = refl
      by (PathSeg-F.PathSeg::At e) = one_part (occurs x e)
      by (PathSeg-F.PathSeg::Slice e g) = two_parts (occurs x e) (occurs x g)

  in_path : (path : List PathSeg) → in_any (map (occurs_in_step x) path) ≡ in_some (flattened (map segment_exps path))
  in_path [] = refl
  in_path (s ∷ ss) = ap₂ (λ a b. a || b) (in_step s) (in_path ss) ∙ sym (list_any-append (occurs x) (segment_exps s) (flattened (map segment_exps ss)))

  in_change : (a : IlExp) (path : List PathSeg) (b : IlExp) → (occurs x a || in_any (map (occurs_in_step x) path) || occurs x b) ≡ in_some (a ∷ flattened (map segment_exps path) ++ b ∷ [])
  in_change a path b =
      three_parts (occurs x a) (in_any (map (occurs_in_step x) path)) (occurs x b)
      ∙ ap (λ z. occurs x a || z) (ap (λ z. z || (occurs x b || false)) (in_path path) ∙ sym (list_any-append (occurs x) (flattened (map segment_exps path)) (b ∷ [])))

  in_operands : (y : Level) → IsPlain y → occurs_at x (mapped_names y) ≡ in_some (operands_at item_exp segment_exps y)
  in_operands (IlExp-F.Var name) p = absurd p
  in_operands (IlExp-F.Iter how xs body) p = absurd p
  in_operands (IlExp-F.Bool truth) p = refl
  in_operands (IlExp-F.Number n) p = refl
  in_operands (IlExp-F.Text text) p = refl
  in_operands (IlExp-F.Empty t) p = refl
  in_operands (IlExp-F.Absent t) p = refl
  in_operands (IlExp-F.Not a) p = one_part (occurs x a)
  in_operands (IlExp-F.Neg a) p = one_part (occurs x a)
  in_operands (IlExp-F.Dot a name) p = one_part (occurs x a)
  in_operands (IlExp-F.Present a) p = one_part (occurs x a)
  in_operands (IlExp-F.Len a) p = one_part (occurs x a)
  in_operands (IlExp-F.Up t a) p = one_part (occurs x a)
  in_operands (IlExp-F.And a b) p = two_parts (occurs x a) (occurs x b)
  in_operands (IlExp-F.Or a b) p = two_parts (occurs x a) (occurs x b)
  in_operands (IlExp-F.Imp a b) p = two_parts (occurs x a) (occurs x b)
  in_operands (IlExp-F.Iff a b) p = two_parts (occurs x a) (occurs x b)
  in_operands (IlExp-F.Add n a b) p = two_parts (occurs x a) (occurs x b)
  in_operands (IlExp-F.Sub n a b) p = two_parts (occurs x a) (occurs x b)
  in_operands (IlExp-F.Mul n a b) p = two_parts (occurs x a) (occurs x b)
  in_operands (IlExp-F.Div n a b) p = two_parts (occurs x a) (occurs x b)
  in_operands (IlExp-F.Rem n a b) p = two_parts (occurs x a) (occurs x b)
  in_operands (IlExp-F.Pow n a b) p = two_parts (occurs x a) (occurs x b)
  in_operands (IlExp-F.Eq a b) p = two_parts (occurs x a) (occurs x b)
  in_operands (IlExp-F.Ne a b) p = two_parts (occurs x a) (occurs x b)
  in_operands (IlExp-F.Lt a b) p = two_parts (occurs x a) (occurs x b)
  in_operands (IlExp-F.Gt a b) p = two_parts (occurs x a) (occurs x b)
  in_operands (IlExp-F.Le a b) p = two_parts (occurs x a) (occurs x b)
  in_operands (IlExp-F.Ge a b) p = two_parts (occurs x a) (occurs x b)
  in_operands (IlExp-F.Member a b) p = two_parts (occurs x a) (occurs x b)
  in_operands (IlExp-F.Cat a b) p = two_parts (occurs x a) (occurs x b)
  in_operands (IlExp-F.Join a b) p = two_parts (occurs x a) (occurs x b)
  in_operands (IlExp-F.IlExp::At a b) p = two_parts (occurs x a) (occurs x b)
  in_operands (IlExp-F.IlExp::Slice a b c) p = three_parts (occurs x a) (occurs x b) (occurs x c)
  in_operands (IlExp-F.Set a path b) p = in_change a path b
  in_operands (IlExp-F.Extend a path b) p = in_change a path b
  in_operands (IlExp-F.Case t tag es) p = in_list es
  in_operands (IlExp-F.Fields t es) p = in_list es
  in_operands (IlExp-F.Tuple es) p = in_list es
  in_operands (IlExp-F.Call fun es) p = in_list es
  in_operands (IlExp-F.List t items) p = in_items items

  pub occurs-plain : (e : IlExp) (y : Level) → out-IlExp e ≡ y → IsPlain y → occurs x e ≡ in_some (operands_at item_exp segment_exps y)
  occurs-plain e y is p = occurs-level e y is ∙ in_operands y p

  pub occurs-Var : (e : IlExp) (v : Name) → out-IlExp e ≡ IlExp-F.Var v → occurs x e ≡ same_name x v
  occurs-Var e v is = occurs-level e (IlExp-F.Var v) is

  abbrev counted_at : Iteration-F IlExp Iteration ListItem PathSeg → Counted
  counted_at y = occurs_count_at x (map-Iteration IlExp Iteration ListItem PathSeg Bool Counted Bool Bool (occurs x) (occurs_in_count x) (occurs_in_item x) (occurs_in_step x) y)

  -- what occurs in an iteration: in its count, or in its body and not its index
  abbrev pub in_iteration : Iteration → Bool → Bool
  in_iteration how body = in_some (count_of how) || not (has_name (index_of how) x) && body

  counts : (how : Iteration) (body : Bool) → ((occurs_in_count x how).in_count || not (occurs_in_count x how).is_index && body) ≡ in_iteration how body
  counts how body = ap (λ (z : Counted). z.in_count || not z.is_index && body) (fold_out-Iteration Bool Counted Bool Bool (occurs_at x) (occurs_count_at x) occurs_item_at occurs_step_at how) ∙ by (out-Iteration how)
    where
      by : (y : Iteration-F IlExp Iteration ListItem PathSeg) → ((counted_at y).in_count || not (counted_at y).is_index && body) ≡ (in_some (count_at y) || not (has_name (index_at y) x) && body)
      by Iteration-F.Star = refl
      by Iteration-F.Plus = refl
      by Iteration-F.Quest = refl
      by (Iteration-F.Times e) = ap (λ z. z || body) (one_part (occurs x e))
      by (Iteration-F.Below index e) = ap₂ (λ a b. a || not b && body) (one_part (occurs x e)) (one_part (same_name x index))

  pub occurs-Iter : (e : IlExp) (how : Iteration) (xs : List Name) (body : IlExp) → out-IlExp e ≡ IlExp-F.Iter how xs body → occurs x e ≡ in_iteration how (occurs x body)
  occurs-Iter e how xs body is = occurs-level e (IlExp-F.Iter how xs body) is ∙ counts how (occurs x body)

  -- ---- in premises

  prem-level : (p : IlPrem) (y : IlPrem-F IlPrem) → out-IlPrem p ≡ y → occurs_in_prem x p ≡ occurs_prem_at x (map-IlPrem IlPrem Bool (occurs_in_prem x) y)
  prem-level p y is = fold_out-IlPrem Bool (occurs_prem_at x) p ∙ ap (λ z. occurs_prem_at x (map-IlPrem IlPrem Bool (occurs_in_prem x) z)) is

  pub occurs_in_prem-If : (p : IlPrem) (e : IlExp) → out-IlPrem p ≡ IlPrem-F.If e → occurs_in_prem x p ≡ in_some (e ∷ [])
  occurs_in_prem-If p e is = prem-level p (IlPrem-F.If e) is ∙ one_part (occurs x e)

  pub occurs_in_prem-Goal : (p : IlPrem) (relation : Name) (es : List IlExp) → out-IlPrem p ≡ IlPrem-F.Goal relation es → occurs_in_prem x p ≡ in_some es
  occurs_in_prem-Goal p relation es is = prem-level p (IlPrem-F.Goal relation es) is ∙ in_list es

  pub occurs_in_prem-Otherwise : (p : IlPrem) → out-IlPrem p ≡ IlPrem-F.Otherwise → occurs_in_prem x p ≡ in_some []
  occurs_in_prem-Otherwise p is = prem-level p IlPrem-F.Otherwise is

  pub occurs_in_prem-Each : (p : IlPrem) (how : Iteration) (xs : List Name) (body : IlPrem) → out-IlPrem p ≡ IlPrem-F.Each how xs body → occurs_in_prem x p ≡ in_iteration how (occurs_in_prem x body)
  occurs_in_prem-Each p how xs body is = prem-level p (IlPrem-F.Each how xs body) is ∙ counts how (occurs_in_prem x body)

-- ---- occurrences in premises

prem_occurrences-level : (p : IlPrem) (y : IlPrem-F IlPrem) → out-IlPrem p ≡ y → prem_occurrences p ≡ prem_occurrences_at (map-IlPrem IlPrem (List Occurrence) prem_occurrences y)
prem_occurrences-level p y is = fold_out-IlPrem (List Occurrence) prem_occurrences_at p ∙ ap (λ z. prem_occurrences_at (map-IlPrem IlPrem (List Occurrence) prem_occurrences z)) is

pub prem_occurrences-If : (p : IlPrem) (e : IlExp) → out-IlPrem p ≡ IlPrem-F.If e → prem_occurrences p ≡ occurrences_in (e ∷ [])
prem_occurrences-If p e is = prem_occurrences-level p (IlPrem-F.If e) is ∙ sym (append-nil (occurrences e))

pub prem_occurrences-Goal : (p : IlPrem) (relation : Name) (es : List IlExp) → out-IlPrem p ≡ IlPrem-F.Goal relation es → prem_occurrences p ≡ occurrences_in es
prem_occurrences-Goal p relation es is = prem_occurrences-level p (IlPrem-F.Goal relation es) is

pub prem_occurrences-Otherwise : (p : IlPrem) → out-IlPrem p ≡ IlPrem-F.Otherwise → prem_occurrences p ≡ []
prem_occurrences-Otherwise p is = prem_occurrences-level p IlPrem-F.Otherwise is

pub prem_occurrences-Each : (p : IlPrem) (how : Iteration) (xs : List Name) (body : IlPrem) → out-IlPrem p ≡ IlPrem-F.Each how xs body
    → prem_occurrences p ≡ occurrences_in (count_of how) ++ inside (index_of how) (kind_of how) (prem_occurrences body)
prem_occurrences-Each p how xs body is = prem_occurrences-level p (IlPrem-F.Each how xs body) is
