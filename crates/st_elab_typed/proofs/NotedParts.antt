-- What is noted of an expression is what is noted of its parts.
use Rattle.std.proofs.Common.{◌≡◌, ◌⊎◌, inl, inr, refl, sym, ap, ap₂, ◌∙◌, ℕ, List, [], ◌∷◌, ◌++◌, map, length, Bool, true, false, append_assoc, append-nil}
use Rattle.std.proofs.lemmas.List.{map-append}
use Rattle.st_num.specs.declared.dim.Kind.{Kind}
use Rattle.st_num.specs.declared.dim.Kind.TheVariants as kind
use Rattle.st_il.specs.declared.expression.IlExp.{IlExp, out-IlExp, map-IlExp, fold_out-IlExp}
use Rattle.st_il.specs.declared.expression.IlExp.TheOpen.{IlExp-F, Iteration-F, ListItem-F, PathSeg-F}
use Rattle.st_il.specs.declared.expression.Iteration.{Iteration, out-Iteration, map-Iteration, fold_out-Iteration}
use Rattle.st_il.specs.declared.expression.ListItem.{ListItem, out-ListItem, map-ListItem, fold_out-ListItem}
use Rattle.st_il.specs.declared.expression.PathSeg.{PathSeg, out-PathSeg, map-PathSeg, fold_out-PathSeg}
use Rattle.st_il.specs.declared.expression.IlPrem.{IlPrem, roll-IlPrem, out-roll-IlPrem, map-IlPrem, fold_out-IlPrem}
use Rattle.st_il.specs.declared.expression.IlPrem.TheOpen.{IlPrem-F}
use Rattle.st_dims.specs.declared.within.Within.{Within}
use Rattle.st_dims.specs.Around.{entered}
use Rattle.st_il.specs.Names.{flattened}
use Rattle.st_semantics.specs.Iterations.{count_of, index_of, kind_of, count_at, index_at, kind_at}
use Rattle.st_semantics.specs.Operands.{item_exp, segment_exps, item_at, segment_at}
use Rattle.st_elab_law.specs.Notes.{Note, occurs as occurring, indexes, Notes, beside, all_of}
use Rattle.st_elab_law.specs.Noted.{Round, iteration_note, iterated, must_at, noted, noted_at, round_at, noted_item_at, noted_step_at, round_of, noted_item, noted_step, prem_noted, prem_noted_at}
use Rattle.st_elab_typed.proofs.ExpInduction.{Level, parts_at}
use Rattle.st_elab_typed.proofs.Members.{Has, Has-either}
use Rattle.st_elab_typed.proofs.Occurring.{IsPlain}

-- ---- what is noted at a level

abbrev shown : Level → IlExp-F Notes Round Notes Notes
shown y = map-IlExp IlExp Iteration ListItem PathSeg Notes Round Notes Notes noted round_of noted_item noted_step y

pub noted-level : (x : IlExp) (y : Level) → out-IlExp x ≡ y → noted x ≡ noted_at (shown y)
noted-level x y is = fold_out-IlExp Notes Round Notes Notes noted_at round_at noted_item_at noted_step_at x ∙ ap (λ z. noted_at (shown z)) is

one : (a : Notes) → a ≡ all_of (a ∷ [])
one a = λ i w. sym (append-nil (a w)) i

two : (a b : Notes) → beside a b ≡ all_of (a ∷ b ∷ [])
two a b = λ i w. a w ++ sym (append-nil (b w)) i

three : (a b c : Notes) → beside (beside a b) c ≡ all_of (a ∷ b ∷ c ∷ [])
three a b c = λ i w. (append_assoc (a w) (b w) (c w) ∙ ap (λ z. a w ++ (b w ++ z)) (sym (append-nil (c w)))) i

all_append : (xs ys : List Notes) → all_of (xs ++ ys) ≡ beside (all_of xs) (all_of ys)
all_append [] ys = refl
all_append (x ∷ xs) ys = ap (beside x) (all_append xs ys) ∙ (λ i w. sym (append_assoc (x w) (all_of xs w) (all_of ys w)) i)

item-noted : (i : ListItem) → noted_item i ≡ noted (item_exp i)
item-noted i = fold_out-ListItem Notes Round Notes Notes noted_at round_at noted_item_at noted_step_at i ∙ by (out-ListItem i)
  where
    by : (y : ListItem-F IlExp Iteration ListItem PathSeg)
        → noted_item_at (map-ListItem IlExp Iteration ListItem PathSeg Notes Round Notes Notes noted round_of noted_item noted_step y) ≡ noted (item_at y)
    by (ListItem-F.One e) = refl
    by (ListItem-F.All e) = refl

items-noted : (is : List ListItem) → map noted_item is ≡ map noted (map item_exp is)
items-noted [] = refl
items-noted (i ∷ is) = ap₂ (λ a b. a ∷ b) (item-noted i) (items-noted is)

step-noted : (s : PathSeg) → noted_step s ≡ all_of (map noted (segment_exps s))
step-noted s = fold_out-PathSeg Notes Round Notes Notes noted_at round_at noted_item_at noted_step_at s ∙ by (out-PathSeg s)
  where
    by : (y : PathSeg-F IlExp Iteration ListItem PathSeg)
        → noted_step_at (map-PathSeg IlExp Iteration ListItem PathSeg Notes Round Notes Notes noted round_of noted_item noted_step y) ≡ all_of (map noted (segment_at y))
    by (PathSeg-F.Field name) = refl
    by (PathSeg-F.PathSeg::At e) = one (noted e)
    by (PathSeg-F.PathSeg::Slice e g) = two (noted e) (noted g)

path-noted : (path : List PathSeg) → all_of (map noted_step path) ≡ all_of (map noted (flattened (map segment_exps path)))
path-noted [] = refl
path-noted (s ∷ ss) =
    ap₂ beside (step-noted s) (path-noted ss) ∙ sym (all_append (map noted (segment_exps s)) (map noted (flattened (map segment_exps ss))))
    ∙ ap all_of (sym (map-append noted (segment_exps s) (flattened (map segment_exps ss))))

along-noted : (a : IlExp) (path : List PathSeg) (b : IlExp) → beside (beside (noted a) (all_of (map noted_step path))) (noted b) ≡ all_of (map noted (a ∷ flattened (map segment_exps path) ++ b ∷ []))
along-noted a path b =
    (λ i w. append_assoc (noted a w) (all_of (map noted_step path) w) (noted b w) i)
    ∙ ap (beside (noted a))
    (ap₂ beside (path-noted path) (one (noted b)) ∙ sym (all_append (map noted (flattened (map segment_exps path))) (noted b ∷ []))
    ∙ ap all_of (sym (map-append noted (flattened (map segment_exps path)) (b ∷ []))))

pub noted-parts : (y : Level) → IsPlain y → noted_at (shown y) ≡ all_of (map noted (parts_at y))
noted-parts (IlExp-F.Bool truth) h = refl
noted-parts (IlExp-F.Number n) h = refl
noted-parts (IlExp-F.Text text) h = refl
noted-parts (IlExp-F.Var name) h = absurd h
noted-parts (IlExp-F.Not a) h = one (noted a)
noted-parts (IlExp-F.And a b) h = two (noted a) (noted b)
noted-parts (IlExp-F.Or a b) h = two (noted a) (noted b)
noted-parts (IlExp-F.Imp a b) h = two (noted a) (noted b)
noted-parts (IlExp-F.Iff a b) h = two (noted a) (noted b)
noted-parts (IlExp-F.Neg a) h = one (noted a)
noted-parts (IlExp-F.Add n a b) h = two (noted a) (noted b)
noted-parts (IlExp-F.Sub n a b) h = two (noted a) (noted b)
noted-parts (IlExp-F.Mul n a b) h = two (noted a) (noted b)
noted-parts (IlExp-F.Div n a b) h = two (noted a) (noted b)
noted-parts (IlExp-F.Rem n a b) h = two (noted a) (noted b)
noted-parts (IlExp-F.Pow n a b) h = two (noted a) (noted b)
noted-parts (IlExp-F.Eq a b) h = two (noted a) (noted b)
noted-parts (IlExp-F.Ne a b) h = two (noted a) (noted b)
noted-parts (IlExp-F.Lt a b) h = two (noted a) (noted b)
noted-parts (IlExp-F.Gt a b) h = two (noted a) (noted b)
noted-parts (IlExp-F.Le a b) h = two (noted a) (noted b)
noted-parts (IlExp-F.Ge a b) h = two (noted a) (noted b)
noted-parts (IlExp-F.Member a b) h = two (noted a) (noted b)
noted-parts (IlExp-F.Case t tag xs) h = refl
noted-parts (IlExp-F.Fields t xs) h = refl
noted-parts (IlExp-F.Dot a field) h = one (noted a)
noted-parts (IlExp-F.Set a path b) h = along-noted a path b
noted-parts (IlExp-F.Extend a path b) h = along-noted a path b
noted-parts (IlExp-F.Tuple xs) h = refl
noted-parts (IlExp-F.List t items) h = ap all_of (items-noted items)
noted-parts (IlExp-F.Cat a b) h = two (noted a) (noted b)
noted-parts (IlExp-F.Join a b) h = two (noted a) (noted b)
noted-parts (IlExp-F.Empty t) h = refl
noted-parts (IlExp-F.Present a) h = one (noted a)
noted-parts (IlExp-F.Absent t) h = refl
noted-parts (IlExp-F.Len a) h = one (noted a)
noted-parts (IlExp-F.IlExp::At a b) h = two (noted a) (noted b)
noted-parts (IlExp-F.IlExp::Slice a b c) h = three (noted a) (noted b) (noted c)
noted-parts (IlExp-F.Call f xs) h = refl
noted-parts (IlExp-F.Up t a) h = one (noted a)
noted-parts (IlExp-F.Iter how names body) h = absurd h

-- ---- iterations

-- what an iteration is to the variables in it, by its parts
pub round-parts : (how : Iteration) → round_of how ≡ record { kind = kind_of how; index = index_of how; must = must_at (out-Iteration how); count = all_of (map noted (count_of how)) }
round-parts how = fold_out-Iteration Notes Round Notes Notes noted_at round_at noted_item_at noted_step_at how ∙ by (out-Iteration how)
  where
    by : (y : Iteration-F IlExp Iteration ListItem PathSeg)
        → round_at (map-Iteration IlExp Iteration ListItem PathSeg Notes Round Notes Notes noted round_of noted_item noted_step y)
        ≡ record { kind = kind_at y; index = index_at y; must = must_at y; count = all_of (map noted (count_at y)) }
    by Iteration-F.Star = refl
    by Iteration-F.Plus = refl
    by Iteration-F.Quest = refl
    by (Iteration-F.Times e) = λ i. record { kind = kind.List; index = []; must = false; count = one (noted e) i }
    by (Iteration-F.Below index e) = λ i. record { kind = kind.List; index = index ∷ []; must = false; count = one (noted e) i }

pub noted-Iter : (x : IlExp) (how : Iteration) (xs : List (List ℕ)) (body : IlExp) → out-IlExp x ≡ IlExp-F.Iter how xs body
    → noted x ≡ iterated (record { kind = kind_of how; index = index_of how; must = must_at (out-Iteration how); count = all_of (map noted (count_of how)) }) (noted body)
noted-Iter x how xs body is = noted-level x (IlExp-F.Iter how xs body) is ∙ ap (λ r. iterated r (noted body)) (round-parts how)

module _ (n : List ℕ) where
  no_iteration_note : (must : Bool) (depth : ℕ) (body : List Note) (c : List Kind) → Has (iteration_note must depth body) (occurring n c) → ⊥
  no_iteration_note true depth body c (inl e) = cc
  no_iteration_note true depth body c (inr h) = h
  no_iteration_note false depth body c h = h

  no_index_note : (index : List (List ℕ)) (c : List Kind) → Has (map indexes index) (occurring n c) → ⊥
  no_index_note [] c h = h
  no_index_note (i ∷ is) c (inl e) = cc
  no_index_note (i ∷ is) c (inr h) = no_index_note is c h

  -- where a variable is noted in an iteration: in its body, or in its count
  pub in_iteration : (how : Iteration) (body : Notes) (w : Within) (c : List Kind)
      → Has (iterated (record { kind = kind_of how; index = index_of how; must = must_at (out-Iteration how); count = all_of (map noted (count_of how)) }) body w) (occurring n c)
      → Has (body (entered (kind_of how) (index_of how) w)) (occurring n c) ⊎ Has (all_of (map noted (count_of how)) w) (occurring n c)
  in_iteration how body w c h =
      let e : Within = entered (kind_of how) (index_of how) w in
      let first : List Note = iteration_note (must_at (out-Iteration how)) (length w.kinds) (body e) in
      let last : List Note = all_of (map noted (count_of how)) w in
      elim (Has-either (first ++ map indexes (index_of how) ++ body e) last (occurring n c) h) [
        | inl a ↦ elim (Has-either (first ++ map indexes (index_of how)) (body e) (occurring n c) a) [
          | inl b ↦ elim (Has-either first (map indexes (index_of how)) (occurring n c) b) [
            | inl d ↦ absurd (no_iteration_note (must_at (out-Iteration how)) (length w.kinds) (body e) c d)
            | inr d ↦ absurd (no_index_note (index_of how) c d)
          ]
          | inr b ↦ inl b
        ]
        | inr a ↦ inr a
      ]

-- ---- premises

pub prem_noted-level : (y : IlPrem-F IlPrem) → prem_noted (roll-IlPrem y) ≡ prem_noted_at (map-IlPrem IlPrem Notes prem_noted y)
prem_noted-level y = fold_out-IlPrem Notes prem_noted_at (roll-IlPrem y) ∙ ap (λ z. prem_noted_at (map-IlPrem IlPrem Notes prem_noted z)) (out-roll-IlPrem y)
