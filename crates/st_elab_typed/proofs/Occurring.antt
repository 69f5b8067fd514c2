-- What occurs in an expression is what occurs in its parts, and occurs there as a name.
use Rattle.std.proofs.Common.{◌≡◌, inl, inr, refl, sym, ap, ap₂, ◌∙◌, subst, List, [], ◌∷◌, ◌++◌, map, Bool, true, false, true≢false, ◌||◌, ◌&&◌, not}
use Rattle.std.specs.List.{list_any}
use Rattle.std.proofs.lemmas.List.Folds.{list_any-append}
use Rattle.st_num.specs.Names.{same_name}
use Rattle.st_il.specs.declared.expression.IlExp.{IlExp, out-IlExp, fold_out-IlExp, map-IlExp}
use Rattle.st_il.specs.declared.expression.IlExp.TheOpen.{IlExp-F, Iteration-F, ListItem-F, PathSeg-F}
use Rattle.st_il.specs.declared.expression.Iteration.{Iteration, out-Iteration, fold_out-Iteration, map-Iteration}
use Rattle.st_il.specs.declared.expression.ListItem.{ListItem, out-ListItem, fold_out-ListItem, map-ListItem}
use Rattle.st_il.specs.declared.expression.PathSeg.{PathSeg, out-PathSeg, fold_out-PathSeg, map-PathSeg}
use Rattle.st_il.specs.Occurrences.{Counted, in_any, occurs_at, occurs_count_at, occurs_item_at, occurs_step_at, occurs, occurs_in_count, occurs_in_item, occurs_in_step}
use Rattle.st_il.specs.Names.{Name, has_name, flattened}
use Rattle.st_semantics.specs.Iterations.{count_of, index_of, kind_of, count_at, index_at, kind_at}
use Rattle.st_semantics.specs.Operands.{operands_at, item_at, segment_at, item_exp, segment_exps}
use Rattle.st_semantics.specs.OperationTypes.{Level}
use Rattle.st_ilcheck.specs.Variables.{Occurrence, Repeated, repeated_at, inside, occurrences, occurrences_at}
use Rattle.st_elab_typed.specs.inner.Named.{IsNoIteration}
use Rattle.st_elab_typed.proofs.Members.{Has, or_left, or_right}
use Rattle.st_elab_typed.proofs.Collected.{mapped, mapped_count, of_count, operands-are, opened, opened-count, counted-are, index-is, kind-is}

-- ---- occurrences

occurrences-level : (e : IlExp) (y : Level) → out-IlExp e ≡ y → occurrences e ≡ occurrences_at (mapped occurrences_at repeated_at y)
occurrences-level e y is = opened occurrences_at repeated_at e ∙ ap (λ z. occurrences_at (mapped occurrences_at repeated_at z)) is

pub occurrences-Var : (e : IlExp) (x : Name) → out-IlExp e ≡ IlExp-F.Var x → occurrences e ≡ (x, []) ∷ []
occurrences-Var e x is = occurrences-level e (IlExp-F.Var x) is

-- a level that is neither a variable nor an iteration
abbrev pub IsPlain : Level → Type 0
IsPlain (IlExp-F.Var x) = ⊥
IsPlain (IlExp-F.Iter how xs body) = ⊥
IsPlain _ = Unit {0}

plain-at : (y : Level) → IsPlain y → occurrences_at (mapped occurrences_at repeated_at y) ≡ flattened (map occurrences (operands_at item_exp segment_exps y))
plain-at (IlExp-F.Var x) p = absurd p
plain-at (IlExp-F.Iter how xs body) p = absurd p
plain-at y p = ap flattened (operands-are occurrences_at repeated_at y)

pub occurrences-plain : (e : IlExp) (y : Level) → out-IlExp e ≡ y → IsPlain y → occurrences e ≡ flattened (map occurrences (operands_at item_exp segment_exps y))
occurrences-plain e y is p = occurrences-level e y is ∙ plain-at y p

occurrences-counted : (how : Iteration) (os : List Occurrence)
    → (let z : Repeated = of_count occurrences_at repeated_at how in z.count ++ inside z.index z.kind os) ≡ flattened (map occurrences (count_of how)) ++ inside (index_of how) (kind_of how) os
occurrences-counted how os =
    ap (λ (z : Repeated). z.count ++ inside z.index z.kind os) (opened-count occurrences_at repeated_at how)
    ∙ (ap (λ z. z ++ inside (index_at (mapped_count occurrences_at repeated_at (out-Iteration how))) (kind_at (mapped_count occurrences_at repeated_at (out-Iteration how))) os) (counted-are occurrences_at repeated_at (out-Iteration how))
    ∙ ap₂ (λ i k. flattened (map occurrences (count_of how)) ++ inside i k os) (index-is occurrences_at repeated_at (out-Iteration how)) (kind-is occurrences_at repeated_at (out-Iteration how)))

pub occurrences-Iter : (e : IlExp) (how : Iteration) (xs : List Name) (body : IlExp) → out-IlExp e ≡ IlExp-F.Iter how xs body
    → occurrences e ≡ flattened (map occurrences (count_of how)) ++ inside (index_of how) (kind_of how) (occurrences body)
occurrences-Iter e how xs body is = occurrences-level e (IlExp-F.Iter how xs body) is ∙ occurrences-counted how (occurrences body)

-- ---- names that occur

or-none : (a : Bool) → (a || false) ≡ true → a ≡ true
or-none true h = refl
or-none false h = h

or-last : (a b : Bool) → (a || (b || false)) ≡ true → (a || b) ≡ true
or-last true b h = refl
or-last false b h = or-none b h

module _ (x : Name) where
  abbrev mapped_names : Level → IlExp-F Bool Counted Bool Bool
  mapped_names y = map-IlExp IlExp Iteration ListItem PathSeg Bool Counted Bool Bool (occurs x) (occurs_in_count x) (occurs_in_item x) (occurs_in_step x) y

  pub occurs-level : (e : IlExp) (y : Level) → out-IlExp e ≡ y → occurs x e ≡ occurs_at x (mapped_names y)
  occurs-level e y is = fold_out-IlExp Bool Counted Bool Bool (occurs_at x) (occurs_count_at x) occurs_item_at occurs_step_at e ∙ ap (λ z. occurs_at x (mapped_names z)) is

  -- it occurs in one of these
  abbrev pub in_some : List IlExp → Bool
  in_some es = list_any (occurs x) es

  pub in_list : (es : List IlExp) → in_any (map (occurs x) es) ≡ in_some es
  in_list [] = refl
  in_list (e ∷ es) = ap (λ b. occurs x e || b) (in_list es)

  in_item : (i : ListItem) → occurs_in_item x i ≡ occurs x (item_exp i)
  in_item i = fold_out-ListItem Bool Counted Bool Bool (occurs_at x) (occurs_count_at x) occurs_item_at occurs_step_at i ∙ by (out-ListItem i)
    where
      by : (y : ListItem-F IlExp Iteration ListItem PathSeg)
          → occurs_item_at (map-ListItem IlExp Iteration ListItem PathSeg Bool Counted Bool Bool (occurs x) (occurs_in_count x) (occurs_in_item x) (occurs_in_step x) y) ≡ occurs x (item_at y)
      by (ListItem-F.One e) = refl
      by (ListItem-F.All e) = refl

  in_items : (is : List ListItem) → in_any (map (occurs_in_item x) is) ≡ in_some (map item_exp is)
  in_items [] = refl
  in_items (i ∷ is) = ap₂ (λ a b. a || b) (in_item i) (in_items is)

  in_step : (s : PathSeg) → in_some (segment_exps s) ≡ true → occurs_in_step x s ≡ true
  in_step s h = fold_out-PathSeg Bool Counted Bool Bool (occurs_at x) (occurs_count_at x) occurs_item_at occurs_step_at s ∙ by (out-PathSeg s) h
    where
      by : (y : PathSeg-F IlExp Iteration ListItem PathSeg) → in_some (segment_at y) ≡ true
          → occurs_step_at (map-PathSeg IlExp Iteration ListItem PathSeg Bool Counted Bool Bool (occurs x) (occurs_in_count x) (occurs_in_item x) (occurs_in_step x) y) ≡ true
      by (PathSeg-F.Field name) k = k
      by (PathSeg-F.PathSeg::At e) k = or-none (occurs x e) k
      by (PathSeg-F.PathSeg::Slice e g) k = or-last (occurs x e) (occurs x g) k

  either : (a b : Bool) (P : Type 0) → (a || b) ≡ true → (a ≡ true → P) → (b ≡ true → P) → P
  either true b P h f g = f refl
  either false b P h f g = g h

  in_path : (path : List PathSeg) → in_some (flattened (map segment_exps path)) ≡ true → in_any (map (occurs_in_step x) path) ≡ true
  in_path [] h = h
  in_path (s ∷ ss) h =
      either (in_some (segment_exps s)) (in_some (flattened (map segment_exps ss))) (in_any (map (occurs_in_step x) (s ∷ ss)) ≡ true)
      (sym (list_any-append (occurs x) (segment_exps s) (flattened (map segment_exps ss))) ∙ h)
      (λ k. or_left (occurs_in_step x s) (in_any (map (occurs_in_step x) ss)) (in_step s k))
      (λ k. or_right (occurs_in_step x s) (in_any (map (occurs_in_step x) ss)) (in_path ss k))

  in_change : (a : IlExp) (path : List PathSeg) (b : IlExp) → in_some (a ∷ flattened (map segment_exps path) ++ b ∷ []) ≡ true → (occurs x a || in_any (map (occurs_in_step x) path) || occurs x b) ≡ true
  in_change a path b h =
      either (occurs x a) (in_some (flattened (map segment_exps path) ++ b ∷ [])) ((occurs x a || in_any (map (occurs_in_step x) path) || occurs x b) ≡ true) h
      (λ k. or_left (occurs x a || in_any (map (occurs_in_step x) path)) (occurs x b) (or_left (occurs x a) (in_any (map (occurs_in_step x) path)) k))
      (λ k. either (in_some (flattened (map segment_exps path))) (in_some (b ∷ [])) ((occurs x a || in_any (map (occurs_in_step x) path) || occurs x b) ≡ true)
      (sym (list_any-append (occurs x) (flattened (map segment_exps path)) (b ∷ [])) ∙ k)
      (λ l. or_left (occurs x a || in_any (map (occurs_in_step x) path)) (occurs x b) (or_right (occurs x a) (in_any (map (occurs_in_step x) path)) (in_path path l)))
      (λ l. or_right (occurs x a || in_any (map (occurs_in_step x) path)) (occurs x b) (or-none (occurs x b) l)))

  in_three : (a b c : Bool) → (a || (b || (c || false))) ≡ true → (a || b || c) ≡ true
  in_three true b c h = refl
  in_three false true c h = refl
  in_three false false c h = or-none c h

  in_operands : (y : Level) → IsPlain y → in_some (operands_at item_exp segment_exps y) ≡ true → occurs_at x (mapped_names y) ≡ true
  in_operands (IlExp-F.Var name) p h = absurd p
  in_operands (IlExp-F.Iter how xs body) p h = absurd p
  in_operands (IlExp-F.Bool truth) p h = h
  in_operands (IlExp-F.Number n) p h = h
  in_operands (IlExp-F.Text text) p h = h
  in_operands (IlExp-F.Empty t) p h = h
  in_operands (IlExp-F.Absent t) p h = h
  in_operands (IlExp-F.Not a) p h = or-none (occurs x a) h
  in_operands (IlExp-F.Neg a) p h = or-none (occurs x a) h
  in_operands (IlExp-F.Dot a name) p h = or-none (occurs x a) h
  in_operands (IlExp-F.Present a) p h = or-none (occurs x a) h
  in_operands (IlExp-F.Len a) p h = or-none (occurs x a) h
  in_operands (IlExp-F.Up t a) p h = or-none (occurs x a) h
  in_operands (IlExp-F.And a b) p h = or-last (occurs x a) (occurs x b) h
  in_operands (IlExp-F.Or a b) p h = or-last (occurs x a) (occurs x b) h
  in_operands (IlExp-F.Imp a b) p h = or-last (occurs x a) (occurs x b) h
  in_operands (IlExp-F.Iff a b) p h = or-last (occurs x a) (occurs x b) h
  in_operands (IlExp-F.Add n a b) p h = or-last (occurs x a) (occurs x b) h
  in_operands (IlExp-F.Sub n a b) p h = or-last (occurs x a) (occurs x b) h
  in_operands (IlExp-F.Mul n a b) p h = or-last (occurs x a) (occurs x b) h
  in_operands (IlExp-F.Div n a b) p h = or-last (occurs x a) (occurs x b) h
  in_operands (IlExp-F.Rem n a b) p h = or-last (occurs x a) (occurs x b) h
  in_operands (IlExp-F.Pow n a b) p h = or-last (occurs x a) (occurs x b) h
  in_operands (IlExp-F.Eq a b) p h = or-last (occurs x a) (occurs x b) h
  in_operands (IlExp-F.Ne a b) p h = or-last (occurs x a) (occurs x b) h
  in_operands (IlExp-F.Lt a b) p h = or-last (occurs x a) (occurs x b) h
  in_operands (IlExp-F.Gt a b) p h = or-last (occurs x a) (occurs x b) h
  in_operands (IlExp-F.Le a b) p h = or-last (occurs x a) (occurs x b) h
  in_operands (IlExp-F.Ge a b) p h = or-last (occurs x a) (occurs x b) h
  in_operands (IlExp-F.Member a b) p h = or-last (occurs x a) (occurs x b) h
  in_operands (IlExp-F.Cat a b) p h = or-last (occurs x a) (occurs x b) h
  in_operands (IlExp-F.Join a b) p h = or-last (occurs x a) (occurs x b) h
  in_operands (IlExp-F.IlExp::At a b) p h = or-last (occurs x a) (occurs x b) h
  in_operands (IlExp-F.IlExp::Slice a b c) p h = in_three (occurs x a) (occurs x b) (occurs x c) h
  in_operands (IlExp-F.Set a path b) p h = in_change a path b h
  in_operands (IlExp-F.Extend a path b) p h = in_change a path b h
  in_operands (IlExp-F.Case t tag es) p h = in_list es ∙ h
  in_operands (IlExp-F.Fields t es) p h = in_list es ∙ h
  in_operands (IlExp-F.Tuple es) p h = in_list es ∙ h
  in_operands (IlExp-F.Call fun es) p h = in_list es ∙ h
  in_operands (IlExp-F.List t items) p h = in_items items ∙ h

  pub occurs-plain : (e : IlExp) (y : Level) → out-IlExp e ≡ y → IsPlain y → in_some (operands_at item_exp segment_exps y) ≡ true → occurs x e ≡ true
  occurs-plain e y is p h = occurs-level e y is ∙ in_operands y p h

  pub occurs-Var : (e : IlExp) → out-IlExp e ≡ IlExp-F.Var x → same_name x x ≡ true → occurs x e ≡ true
  occurs-Var e is h = occurs-level e (IlExp-F.Var x) is ∙ h

  counts-is : (how : Iteration) → occurs_in_count x how ≡ occurs_count_at x (map-Iteration IlExp Iteration ListItem PathSeg Bool Counted Bool Bool (occurs x) (occurs_in_count x) (occurs_in_item x) (occurs_in_step x) (out-Iteration how))
  counts-is how = fold_out-Iteration Bool Counted Bool Bool (occurs_at x) (occurs_count_at x) occurs_item_at occurs_step_at how

  counted_at : (y : Iteration-F IlExp Iteration ListItem PathSeg) → in_some (count_at y) ≡ true
      → (occurs_count_at x (map-Iteration IlExp Iteration ListItem PathSeg Bool Counted Bool Bool (occurs x) (occurs_in_count x) (occurs_in_item x) (occurs_in_step x) y)).in_count ≡ true
  counted_at Iteration-F.Star h = h
  counted_at Iteration-F.Plus h = h
  counted_at Iteration-F.Quest h = h
  counted_at (Iteration-F.Times e) h = or-none (occurs x e) h
  counted_at (Iteration-F.Below index e) h = or-none (occurs x e) h

  or-neither : (a : Bool) → (a || false) ≡ false → a ≡ false
  or-neither true h = absurd (true≢false h)
  or-neither false h = refl

  indexed_at : (y : Iteration-F IlExp Iteration ListItem PathSeg) → has_name (index_at y) x ≡ false
      → (occurs_count_at x (map-Iteration IlExp Iteration ListItem PathSeg Bool Counted Bool Bool (occurs x) (occurs_in_count x) (occurs_in_item x) (occurs_in_step x) y)).is_index ≡ false
  indexed_at Iteration-F.Star h = refl
  indexed_at Iteration-F.Plus h = refl
  indexed_at Iteration-F.Quest h = refl
  indexed_at (Iteration-F.Times e) h = refl
  indexed_at (Iteration-F.Below index e) h = or-neither (same_name x index) h

  -- what occurs in the count is noted of it
  pub counted-occurs : (how : Iteration) → in_some (count_of how) ≡ true → (occurs_in_count x how).in_count ≡ true
  counted-occurs how h = ap (λ (z : Counted). z.in_count) (counts-is how) ∙ counted_at (out-Iteration how) h

  -- what is not its index is no index
  pub index-other : (how : Iteration) → has_name (index_of how) x ≡ false → (occurs_in_count x how).is_index ≡ false
  index-other how h = ap (λ (z : Counted). z.is_index) (counts-is how) ∙ indexed_at (out-Iteration how) h

  -- what occurs in the count occurs
  pub occurs-count : (e : IlExp) (how : Iteration) (xs : List Name) (body : IlExp) → out-IlExp e ≡ IlExp-F.Iter how xs body → in_some (count_of how) ≡ true → occurs x e ≡ true
  occurs-count e how xs body is h = occurs-level e (IlExp-F.Iter how xs body) is
      ∙ or_left (occurs_in_count x how).in_count (not (occurs_in_count x how).is_index && occurs x body) (counted-occurs how h)

  -- so does what occurs in the body, but for the index
  pub occurs-body : (e : IlExp) (how : Iteration) (xs : List Name) (body : IlExp) → out-IlExp e ≡ IlExp-F.Iter how xs body → has_name (index_of how) x ≡ false → occurs x body ≡ true → occurs x e ≡ true
  occurs-body e how xs body is other h = occurs-level e (IlExp-F.Iter how xs body) is
      ∙ or_right (occurs_in_count x how).in_count (not (occurs_in_count x how).is_index && occurs x body) (ap₂ (λ a b. not a && b) (index-other how other) h)

  -- ---- by the members of a list

  -- it occurs in one of some expressions where it occurs in a member
  pub in_member : (es : List IlExp) (p : IlExp) → Has es p → occurs x p ≡ true → in_some es ≡ true
  in_member [] p k h = absurd k
  in_member (e ∷ es) p (inl same) h = or_left (occurs x e) (in_some es) (subst (λ z. occurs x z ≡ true) (sym same) h)
  in_member (e ∷ es) p (inr k) h = or_right (occurs x e) (in_some es) (in_member es p k h)

  -- a name that occurs in an operand occurs in the whole
  pub operand-occurs : (e : IlExp) → IsNoIteration (out-IlExp e) → (p : IlExp) → Has (operands_at item_exp segment_exps (out-IlExp e)) p → occurs x p ≡ true → occurs x e ≡ true
  operand-occurs e i p k h = by (out-IlExp e) refl i k
    where
      by : (y : Level) → out-IlExp e ≡ y → IsNoIteration y → Has (operands_at item_exp segment_exps y) p → occurs x e ≡ true
      by (IlExp-F.Var name) is i k = absurd k
      by (IlExp-F.Iter how xs body) is i k = absurd i
      by y is i k = occurs-plain e y is tt (in_member (operands_at item_exp segment_exps y) p k h)
