-- What answers a question cites what is declared.
use Rattle.std.proofs.Common.{◌≡◌, refl, sym, ◌∙◌, ap, subst, ℕ, suc, List, [], ◌∷◌, ◌++◌, map, length, Bool, true, false}
use Rattle.std.specs.Prelude.{Option, Some, None, if◌then◌else◌, nat_eq}
use Rattle.std.specs.List.{AllByRecursion}
use Rattle.std.specs.Map.{lookup}
use Rattle.std.specs.Option.{option_or}
use Rattle.st_num.specs.Names.{is_among, same_name}
use Rattle.st_num.specs.declared.span.Span.{Span}
use Rattle.st_num.specs.declared.mark.Mark.{Mark}
use Rattle.st_num.specs.declared.mark.Mark.TheVariants as mark
use Rattle.st_num.specs.declared.rule.RuleId.TheVariants.{Y1, Y5}
use Rattle.st_el.specs.declared.expression.Exp.{Exp}
use Rattle.st_el.specs.declared.expression.Node.{Node}
use Rattle.st_el.specs.declared.expression.Count.{Count, out-Count}
use Rattle.st_el.specs.declared.expression.Count.TheOpen.{Node-F, Count-F, Seg-F}
use Rattle.st_el.specs.declared.expression.Seg.{Seg, out-Seg}
use Rattle.st_il.specs.declared.definition.FunDef.{FunDef}
use Rattle.st_il.specs.declared.ty.Ty.{Ty, out-Ty}
use Rattle.st_il.specs.declared.ty.Ty.TheOpen.{Ty-F}
use Rattle.st_il.specs.declared.ty.Ty.TheVariants as ty
use Rattle.st_il.specs.declared.ty.NumTy.{NumTy}
use Rattle.st_il.specs.declared.ty.NumTy.TheVariants as number
use Rattle.st_il.specs.declared.expression.IlExp.{IlExp, out-IlExp}
use Rattle.st_il.specs.declared.expression.IlExp.TheOpen.{IlExp-F}
use Rattle.st_il.specs.declared.expression.IlExp.TheVariants as il
use Rattle.st_il.specs.declared.expression.Iteration.{Iteration, out-Iteration}
use Rattle.st_il.specs.declared.expression.Iteration.TheVariants as times
use Rattle.st_il.specs.declared.expression.ListItem.{ListItem}
use Rattle.st_il.specs.declared.expression.ListItem.TheVariants as part
use Rattle.st_il.specs.declared.expression.PathSeg.{PathSeg}
use Rattle.st_il.specs.declared.expression.PathSeg.TheVariants as step
use Rattle.st_il.specs.Occurrences.{occurs}
use Rattle.st_type_table.specs.declared.entry.CaseDef.{CaseDef}
use Rattle.st_type_table.specs.Meaning.{named, fields_of}
use Rattle.st_dims.specs.declared.within.Within.{Within}
use Rattle.st_dims.specs.Around.{kind_at}
use Rattle.st_il.specs.Names.{flattened}
use Rattle.st_semantics.specs.Iterations.{count_of, count_at as il_count_at}
use Rattle.st_semantics.specs.Operands.{operands_at, item_at, segment_at, item_exp, segment_exps}
use Rattle.st_notation.specs.Elements.{opened, bare}
use Rattle.st_notation.specs.Fits.{Filling, one, run, missing}
use Rattle.st_notation.proofs.FitsLemmas.{Fits-length}
use Rattle.st_elab_table.specs.declared.decls.Decls.{Decls}
use Rattle.st_elab_table.specs.declared.decls.Scope.{Scope}
use Rattle.st_elab_table.specs.declared.operator.Operator.{Operator}
use Rattle.st_elab_table.specs.declared.operator.Operator.TheVariants as operator
use Rattle.st_elab_table.specs.Operators.{operator_of, connected, equated, ordered, reckoned}
use Rattle.st_elab_table.specs.Forms.{place, inferable, is_spliced, is_told_by_type, goes_over_list, is_concatenation}
use Rattle.st_elab_table.specs.Iterations.{Variable, iterated, iterated_type}
use Rattle.st_elab_table.specs.Inferred.{entry_of, fun_named, variable_type, variable_row, inferred_at, call_row, inferred_tuple}
use Rattle.st_elab_table.specs.Variables.{type_of_name}
use Rattle.st_elab_table.specs.Checked.{sequence_at, form_row, plain_row, tuple_at, checked_row}
use Rattle.st_elab_table.specs.Collections as table
use Rattle.st_elab_table.specs.Questions.{Manner, Question, check, infer, item, hole, Made, Step, Ends, Asks, Tests, Opens, Fills, Gives, Fails}
use Rattle.st_elab_table.specs.Steps.{made, breach, give, asked, found, each_asked, holes, holes_behind, exps, ty_of, is_collection, list_of_one, lifted_to, lifted_at, fitted, raised, injected, wider, number_type, larger, joined_at, as_joined, list_at, as_list}
use Rattle.st_elab_table.specs.Operands.{numeric, compared, equation_row, membership_row, both_numeric, power_row, negation_row, concatenated, binary_row}
use Rattle.st_elab_table.specs.Paths.{length_row, position_row, slice_row, declared_field, field_by, as_field, field_row, step_row, along, update_row, extension_row}
use Rattle.st_elab_table.specs.Records.{aligned, field_names, field_types, filled_fields, record_by, record_row, passed_on, variant_row, notation_row}
use Rattle.st_elab_table.specs.Elaboration.{row, Answered}
use Rattle.st_elab_table.proofs.Keeps.{Keeps, Answered-keeps}
use Rattle.st_elab_law.proofs.Claims.{Claims}
use Rattle.st_elab_law.proofs.Keeping.{keeps_if, keeps_asks, keeps_number, keeps_shaped}
use Rattle.st_elab_typed.specs.inner.Named.{IsNoIteration}
use Rattle.st_elab_typed.specs.Citations.{IsSyntax, IsKnown, AreKnown}
use Rattle.st_elab_typed.specs.inner.Cited.{ScopeKnown, OwnKnown, Cites, by_parts, by_body, AllCite, none, more}
use Rattle.st_elab_typed.proofs.KnownTypes.{looked_up, fun_itself, known-Bool, known-Nat, known-Int, known-Text, known-List, known-Tuple, element_known, option_known, tuple_known, name_known, number_known, kind_known, means_known, fields_known, cases_known, chosen_known, either_known, name_type_known, fun_known}

-- ---- forms

module _ (D : Decls) where
  cites_level : (x : IlExp) (y : IlExp-F IlExp Iteration ListItem PathSeg) → out-IlExp x ≡ y → IsNoIteration y → OwnKnown D y → AllCite D (operands_at item_exp segment_exps y) → Cites D x
  cites_level x y is n o h = by_parts (subst IsNoIteration (sym is) n) (subst (OwnKnown D) (sym is) o) (subst (λ z. AllCite D (operands_at item_exp segment_exps z)) (sym is) h)

  alone : {x : IlExp} → Cites D x → AllCite D (x ∷ [])
  alone h = more h none

  both : {x y : IlExp} → Cites D x → Cites D y → AllCite D (x ∷ y ∷ [])
  both h k = more h (alone k)

  cite_both : (xs ys : List IlExp) → AllCite D xs → AllCite D ys → AllCite D (xs ++ ys)
  cite_both [] ys none k = k
  cite_both (x ∷ xs) ys (more h hs) k = more h (cite_both xs ys hs k)

  cites_Up : (t : Ty) (x : IlExp) → IsKnown D t → Cites D x → Cites D (il.Up t x)
  cites_Up t x o h = cites_level (il.Up t x) _ (il.outs-Up t x) tt o (alone h)

  cites_Cat : (x y : IlExp) → Cites D x → Cites D y → Cites D (il.Cat x y)
  cites_Cat x y h k = cites_level (il.Cat x y) _ (il.outs-Cat x y) tt tt (both h k)

  cites_Join : (x y : IlExp) → Cites D x → Cites D y → Cites D (il.Join x y)
  cites_Join x y h k = cites_level (il.Join x y) _ (il.outs-Join x y) tt tt (both h k)

  cites_injected : (m n : NumTy) (x : IlExp) → Cites D x → Cites D (injected m n x)
  cites_injected number.Nat number.Nat x h = h
  cites_injected number.Nat number.Int x h = cites_Up ty.Int x (known-Int D) h
  cites_injected number.Int n x h = h

  cites_connected : (sign : Mark) (x y : IlExp) → Cites D x → Cites D y → Cites D (connected sign x y)
  cites_connected mark.Or x y h k = cites_level (il.Or x y) _ (il.outs-Or x y) tt tt (both h k)
  cites_connected mark.Implies x y h k = cites_level (il.Imp x y) _ (il.outs-Imp x y) tt tt (both h k)
  cites_connected mark.Equivalent x y h k = cites_level (il.Iff x y) _ (il.outs-Iff x y) tt tt (both h k)
  cites_connected sign x y h k = cites_level (il.And x y) _ (il.outs-And x y) tt tt (both h k)

  cites_equated : (sign : Mark) (x y : IlExp) → Cites D x → Cites D y → Cites D (equated sign x y)
  cites_equated mark.NotEqual x y h k = cites_level (il.Ne x y) _ (il.outs-Ne x y) tt tt (both h k)
  cites_equated sign x y h k = cites_level (il.Eq x y) _ (il.outs-Eq x y) tt tt (both h k)

  cites_ordered : (sign : Mark) (x y : IlExp) → Cites D x → Cites D y → Cites D (ordered sign x y)
  cites_ordered mark.Greater x y h k = cites_level (il.Gt x y) _ (il.outs-Gt x y) tt tt (both h k)
  cites_ordered mark.LessOrEqual x y h k = cites_level (il.Le x y) _ (il.outs-Le x y) tt tt (both h k)
  cites_ordered mark.GreaterOrEqual x y h k = cites_level (il.Ge x y) _ (il.outs-Ge x y) tt tt (both h k)
  cites_ordered sign x y h k = cites_level (il.Lt x y) _ (il.outs-Lt x y) tt tt (both h k)

  cites_reckoned : (sign : Mark) (n : NumTy) (x y : IlExp) → Cites D x → Cites D y → Cites D (reckoned sign n x y)
  cites_reckoned mark.Minus n x y h k = cites_level (il.Sub n x y) _ (il.outs-Sub n x y) tt tt (both h k)
  cites_reckoned mark.Star n x y h k = cites_level (il.Mul n x y) _ (il.outs-Mul n x y) tt tt (both h k)
  cites_reckoned mark.Slash n x y h k = cites_level (il.Div n x y) _ (il.outs-Div n x y) tt tt (both h k)
  cites_reckoned mark.Backslash n x y h k = cites_level (il.Rem n x y) _ (il.outs-Rem n x y) tt tt (both h k)
  cites_reckoned sign n x y h k = cites_level (il.Add n x y) _ (il.outs-Add n x y) tt tt (both h k)

  cites_one : (t : Ty) (x : IlExp) → IsKnown D t → Cites D x → Cites D (list_of_one t x)
  cites_one t x o h =
      let first : AllCite D (item_exp (part.One x) ∷ []) = subst (λ z. AllCite D (item_at z ∷ [])) (sym (part.outs-One x)) (alone h) in
      cites_level (il.List t (part.One x ∷ [])) _ (il.outs-List t (part.One x ∷ [])) tt o first

  cites_Present : (x : IlExp) → Cites D x → Cites D (il.Present x)
  cites_Present x h = cites_level (il.Present x) _ (il.outs-Present x) tt tt (alone h)

  cites_Absent : (t : Ty) → IsKnown D t → Cites D (il.Absent t)
  cites_Absent t o = cites_level (il.Absent t) _ (il.outs-Absent t) tt o none

  cites_Tuple : (xs : List IlExp) → AllCite D xs → Cites D (il.Tuple xs)
  cites_Tuple xs h = cites_level (il.Tuple xs) _ (il.outs-Tuple xs) tt tt h

  cites_path : (x : IlExp) (path : List PathSeg) (y : IlExp) → Cites D x → AllCite D (flattened (map segment_exps path)) → Cites D y
      → AllCite D (x ∷ flattened (map segment_exps path) ++ y ∷ [])
  cites_path x path y h p k = more h (cite_both (flattened (map segment_exps path)) (y ∷ []) p (alone k))

  item_cites : (m : Made) → Cites D m.exp → Cites D (item_exp (table.item_of m))
  item_cites m h = by m.spliced
    where
      by : (b : Bool) → Cites D (item_exp (if b then part.All m.exp else part.One m.exp))
      by true = subst (λ z. Cites D (item_at z)) (sym (part.outs-All m.exp)) h
      by false = subst (λ z. Cites D (item_at z)) (sym (part.outs-One m.exp)) h

-- what is asked of the types of a question
abbrev pub AskedKnown : Decls → Question → Type 0
AskedKnown D (check w at p e t) = IsKnown D t
AskedKnown D (infer w at e) = Unit {0}
AskedKnown D (item w t x e) = IsKnown D t × IsKnown D x
AskedKnown D (hole w at passed filling t) = IsKnown D t

-- what is made cites what is declared, and its type does
abbrev pub IsCited : Decls → Made → Type 0
IsCited D m = Cites D m.exp × IsKnown D m.ty

-- ---- steps

module _ (D : Decls) (S : Scope) (known : AreKnown D) (scope : ScopeKnown D S) where
  abbrev pub Claim : Question → Made → Type 0
  Claim q m = AskedKnown D q → IsCited D m

  abbrev Kept : Step → Type 0
  Kept = Keeps D Claim (IsCited D)

  list_kept : (at : Span) (t : Ty) (next : Ty → Step) → IsKnown D t → ((x : Ty) → IsKnown D x → Kept (next x)) → Kept (as_list at t next)
  list_kept at t next o h = λ u m. by u (out-Ty u) refl (means_known D known t u o m)
    where
      by : (u : Ty) (y : Ty-F Ty) → out-Ty u ≡ y → IsKnown D u → Kept (list_at at next y)
      by u (Ty-F.List x) is k = h x (element_known D u x is k)
      by u y is k = tt

  larger_kept : (a b : Ty) (next : Ty → Step) (other : Step) → IsKnown D a → IsKnown D b → ((t : Ty) → IsKnown D t → Kept (next t)) → Kept other → Kept (larger a b next other)
  larger_kept a b next other k l h o = ((λ _. h a k), (λ _. ((λ _. h b l), (λ _. o))))

  field_kept : (at whole : Span) (name : List ℕ) (t : Ty) (next : Ty → Step) → ((x : Ty) → IsKnown D x → Kept (next x)) → Kept (as_field D at whole name t next)
  field_kept at whole name t next h = λ u m. by u (fields_of D.types u) refl
    where
      declared : (fields : List (List ℕ × Ty)) → AllByRecursion (λ (f : List ℕ × Ty). IsKnown D f.1) fields → (o : Option Ty) → lookup (same_name name) fields ≡ o → Kept (declared_field whole next o)
      declared fields k None is = tt
      declared fields k (Some x) is = h x (looked_up (IsKnown D) name fields x k is)

      by : (u : Ty) (o : Option (List (List ℕ × Ty))) → fields_of D.types u ≡ o → Kept (field_by at whole name next o)
      by u None is = tt
      by u (Some fields) is = declared fields (fields_known D known u fields (named D.types u) refl is) (lookup (same_name name) fields) refl

  raised_kept : (m : Made) (t : Ty) (next : IlExp → Step) → IsKnown D t → Cites D m.exp → ((x : IlExp) → Cites D x → Kept (next x)) → Kept (raised m t next)
  raised_kept m t next o n h = ((λ _. h m.exp n), (λ _. h (il.Up t m.exp) (cites_Up D t m.exp o n)))

  joined_kept : (at : Span) (t : Ty) (next : (IlExp → IlExp → IlExp) → Step)
      → ((join : IlExp → IlExp → IlExp) → ((x y : IlExp) → Cites D x → Cites D y → Cites D (join x y)) → Kept (next join)) → Kept (as_joined at t next)
  joined_kept at t next h = λ u m. by (out-Ty u)
    where
      by : (y : Ty-F Ty) → Kept (joined_at at t next y)
      by (Ty-F.List x) = h il.Cat (cites_Cat D)
      by y = ((λ _. h il.Join (cites_Join D)), (λ _. tt))

  both_raised : (a b : Made) (t : Ty) (next : IlExp → IlExp → Step) → IsKnown D t → Cites D a.exp → Cites D b.exp
      → ((x y : IlExp) → Cites D x → Cites D y → Kept (next x y)) → Kept (raised a t (λ x. raised b t (next x)))
  both_raised a b t next o f g h = raised_kept a t (λ x. raised b t (next x)) o f (λ x n. raised_kept b t (next x) o g (λ y k. h x y n k))

  module _ (w : Within) where
    -- ---- operators

    compared_cites : (at : Span) (sign : Mark) (a b : Made) → IsCited D a → IsCited D b → Kept (compared at sign a b)
    compared_cites at sign a b f g =
        larger_kept a.ty b.ty (λ t. raised a t (λ x. raised b t (λ y. give (equated sign x y) ty.Bool))) (breach at Y1) f.1 g.1
        (λ t o. both_raised a b t (λ x y. give (equated sign x y) ty.Bool) o f.0 g.0 (λ x y h k. (cites_equated D sign x y h k, known-Bool D))) tt

    equation_cites : (at : Span) (sign : Mark) (l r : Exp) → Kept (equation_row w at sign l r)
    equation_cites at sign l r =
        keeps_if D Claim (IsCited D) (inferable l) _ _
        (λ _. λ a f. keeps_if D Claim (IsCited D) (inferable r) _ _ (λ _. λ b g. compared_cites at sign a b (f tt) (g tt))
        (λ _. λ b g. (cites_equated D sign a.exp b.exp (f tt).0 (g (f tt).1).0, known-Bool D)))
        (λ _. keeps_if D Claim (IsCited D) (inferable r) _ _ (λ _. λ b g a f. (cites_equated D sign a.exp b.exp (f (g tt).1).0 (g tt).0, known-Bool D)) (λ _. tt))

    member_cites : (x y : IlExp) → Cites D x → Cites D y → Cites D (il.Member x y)
    member_cites x y f g = cites_level D (il.Member x y) _ (il.outs-Member x y) tt tt (both D f g)

    membership_cites : (at : Span) (l r : Exp) → Kept (membership_row w at l r)
    membership_cites at l r =
        keeps_if D Claim (IsCited D) (inferable r) _ _
        (λ _. λ b g. list_kept (place r) b.ty (λ x. Asks (asked w l x) (λ a. give (il.Member a.exp b.exp) ty.Bool)) (g tt).1 (λ x o. λ a f. (member_cites a.exp b.exp (f o).0 (g tt).0, known-Bool D)))
        (λ _. keeps_if D Claim (IsCited D) (inferable l) _ _ (λ _. λ a f b g. (member_cites a.exp b.exp (f tt).0 (g (known-List D a.ty (f tt).1)).0, known-Bool D)) (λ _. tt))

    both_numbers : (l r : Exp) (next : NumTy → IlExp → IlExp → Step) → ((n : NumTy) (x y : IlExp) → Cites D x → Cites D y → Kept (next n x y)) → Kept (both_numeric w l r next)
    both_numbers l r next h = λ a f. keeps_number D Claim (IsCited D) (place l) a.ty
        (λ m. numeric w r (λ b n. next (wider m n) (injected m (wider m n) a.exp) (injected n (wider m n) b.exp)))
        (λ m. λ b g. keeps_number D Claim (IsCited D) (place r) b.ty
        (λ n. next (wider m n) (injected m (wider m n) a.exp) (injected n (wider m n) b.exp))
        (λ n. h (wider m n) (injected m (wider m n) a.exp) (injected n (wider m n) b.exp) (cites_injected D m (wider m n) a.exp (f tt).0) (cites_injected D n (wider m n) b.exp (g tt).0)))

    power_cites : (l r : Exp) → Kept (power_row w l r)
    power_cites l r = λ a f. keeps_number D Claim (IsCited D) (place l) a.ty
        (λ n. Asks (asked w r ty.Nat) (λ b. give (il.Pow n a.exp b.exp) (number_type n)))
        (λ n. λ b g. (cites_level D (il.Pow n a.exp b.exp) _ (il.outs-Pow n a.exp b.exp) tt tt (both D (f tt).0 (g (known-Nat D)).0), number_known D n))

    concatenated_cites : (at : Span) (a b : Made) → IsCited D a → IsCited D b → Kept (concatenated at a b)
    concatenated_cites at a b f g =
        larger_kept a.ty b.ty (λ t. as_joined at t (λ join. raised a t (λ x. raised b t (λ y. give (join x y) t)))) (breach at Y5) f.1 g.1
        (λ t o. joined_kept at t (λ join. raised a t (λ x. raised b t (λ y. give (join x y) t)))
        (λ join j. both_raised a b t (λ x y. give (join x y) t) o f.0 g.0 (λ x y h k. (j x y h k, o)))) tt

    binary_cites : (at : Span) (sign : Mark) (l r : Exp) (o : Operator) → Kept (binary_row w at sign l r o)
    binary_cites at sign l r operator.Logic = λ a f b g. (cites_connected D sign a.exp b.exp (f (known-Bool D)).0 (g (known-Bool D)).0, known-Bool D)
    binary_cites at sign l r operator.Equation = equation_cites at sign l r
    binary_cites at sign l r operator.Order = both_numbers l r (λ n x y. give (ordered sign x y) ty.Bool) (λ n x y f g. (cites_ordered D sign x y f g, known-Bool D))
    binary_cites at sign l r operator.Membership = membership_cites at l r
    binary_cites at sign l r operator.Concatenation = λ a f b g. concatenated_cites at a b (f tt) (g tt)
    binary_cites at sign l r operator.Arithmetic = both_numbers l r (λ n x y. give (reckoned sign n x y) (number_type n)) (λ n x y f g. (cites_reckoned D sign n x y f g, number_known D n))
    binary_cites at sign l r operator.Power = power_cites l r
    binary_cites at sign l r operator.Other = tt

    -- ---- parts

    negation_cites : (e : Exp) → Kept (negation_row w e)
    negation_cites e = λ m f. keeps_number D Claim (IsCited D) (place e) m.ty (λ n. give (il.Neg (injected n number.Int m.exp)) ty.Int)
        (λ n. (cites_level D (il.Neg (injected n number.Int m.exp)) _ (il.outs-Neg (injected n number.Int m.exp)) tt tt (alone D (cites_injected D n number.Int m.exp (f tt).0)), known-Int D))

    length_cites : (e : Exp) → Kept (length_row w e)
    length_cites e = λ m f. list_kept (place e) m.ty (λ x. give (il.Len m.exp) ty.Nat) (f tt).1 (λ x o. (cites_level D (il.Len m.exp) _ (il.outs-Len m.exp) tt tt (alone D (f tt).0), known-Nat D))

    position_cites : (e i : Exp) → Kept (position_row w e i)
    position_cites e i = λ m f. list_kept (place e) m.ty (λ x. Asks (asked w i ty.Nat) (λ a. give (il.At m.exp a.exp) x)) (f tt).1
        (λ x o. λ a g. (cites_level D (il.At m.exp a.exp) _ (il.outs-At m.exp a.exp) tt tt (both D (f tt).0 (g (known-Nat D)).0), o))

    slice_cites : (e i n : Exp) → Kept (slice_row w e i n)
    slice_cites e i n = λ m f. list_kept (place e) m.ty
        (λ x. Asks (asked w i ty.Nat) (λ a. Asks (asked w n ty.Nat) (λ b. give (il.Slice m.exp a.exp b.exp) m.ty))) (f tt).1
        (λ x o. λ a g b h. (cites_level D (il.Slice m.exp a.exp b.exp) _ (il.outs-Slice m.exp a.exp b.exp) tt tt (more (f tt).0 (both D (g (known-Nat D)).0 (h (known-Nat D)).0)), (f tt).1))

    dot_cites : (e : Exp) (at : Span) (name : List ℕ) → Kept (field_row D w at e name)
    dot_cites e at name = λ m f. field_kept (place e) at name m.ty (λ t. give (il.Dot m.exp name) t) (λ t o. (cites_level D (il.Dot m.exp name) _ (il.outs-Dot m.exp name) tt tt (alone D (f tt).0), o))

    -- ---- paths

    step_cites : (at : Span) (t : Ty) (next : PathSeg → Ty → Step) (y : Seg-F Count Node Seg Exp) → IsKnown D t
        → ((p : PathSeg) (u : Ty) → IsKnown D u → AllCite D (segment_exps p) → Kept (next p u)) → Kept (step_row D w at t next y)
    step_cites at t next (Seg-F.Field name) o h =
        field_kept at at name t (next (step.Field name)) (λ u k. h (step.Field name) u k (subst (λ z. AllCite D (segment_at z)) (sym (step.outs-Field name)) none))
    step_cites at t next (Seg-F.Seg::At i) o h =
        list_kept at t (λ x. Asks (asked w i ty.Nat) (λ a. next (step.At a.exp) x)) o
        (λ x k. λ a f. h (step.At a.exp) x k (subst (λ z. AllCite D (segment_at z)) (sym (step.outs-At a.exp)) (alone D (f (known-Nat D)).0)))
    step_cites at t next (Seg-F.Seg::Slice i n) o h =
        list_kept at t (λ x. Asks (asked w i ty.Nat) (λ a. Asks (asked w n ty.Nat) (λ b. next (step.Slice a.exp b.exp) t))) o
        (λ x k. λ a f b g. h (step.Slice a.exp b.exp) t o (subst (λ z. AllCite D (segment_at z)) (sym (step.outs-Slice a.exp b.exp)) (both D (f (known-Nat D)).0 (g (known-Nat D)).0)))

    along_cites : (at : Span) (path : List Seg) (t : Ty) (next : List PathSeg → Ty → Step) → IsKnown D t
        → ((ps : List PathSeg) (u : Ty) → IsKnown D u → AllCite D (flattened (map segment_exps ps)) → Kept (next ps u)) → Kept (along D w at path t next)
    along_cites at [] t next o h = h [] t o none
    along_cites at (s ∷ ss) t next o h =
        step_cites at t (λ p u. along D w at ss u (λ ps v. next (p ∷ ps) v)) (out-Seg s) o
        (λ p u k f. along_cites at ss u (λ ps v. next (p ∷ ps) v) k (λ ps v l g. h (p ∷ ps) v l (cite_both D (segment_exps p) (flattened (map segment_exps ps)) f g)))

    update_cites : (e : Exp) (at : Span) (path : List Seg) (value : Exp) → Kept (update_row D w at e path value)
    update_cites e at path value = λ m f. along_cites at path m.ty (λ ps t. Asks (asked w value t) (λ v. give (il.Set m.exp ps v.exp) m.ty)) (f tt).1
        (λ ps t o g. λ v h. (cites_level D (il.Set m.exp ps v.exp) _ (il.outs-Set m.exp ps v.exp) tt tt (cites_path D m.exp ps v.exp (f tt).0 g (h o).0), (f tt).1))

    extension_cites : (e : Exp) (at : Span) (path : List Seg) (list : Exp) → Kept (extension_row D w at e path list)
    extension_cites e at path list = λ m f. along_cites at path m.ty (λ ps t. as_list at t (λ x. Asks (asked w list t) (λ l. give (il.Extend m.exp ps l.exp) m.ty))) (f tt).1
        (λ ps t o g. list_kept at t (λ x. Asks (asked w list t) (λ l. give (il.Extend m.exp ps l.exp) m.ty)) o
        (λ x k. λ l h. (cites_level D (il.Extend m.exp ps l.exp) _ (il.outs-Extend m.exp ps l.exp) tt tt (cites_path D m.exp ps l.exp (f tt).0 g (h o).0), (f tt).1)))

    -- ---- one element

    lifted_to_cites : (at : Span) (m : Made) (t x : Ty) (lift : IlExp → IlExp) → IsKnown D t → IsKnown D x → ((y : IlExp) → Cites D y → Cites D (lift y)) → Cites D m.exp → Kept (lifted_to at m t x lift)
    lifted_to_cites at m t x lift o k l h = λ v _. keeps_if D Claim (IsCited D) (is_collection v) _ _ (λ _. tt)
        (λ _. ((λ _. raised_kept m x (λ y. give (lift y) t) k h (λ y n. (l y n, o))), (λ _. tt)))

    lifted_at_cites : (at : Span) (m : Made) (t u : Ty) (y : Ty-F Ty) → IsKnown D t → IsKnown D u → out-Ty u ≡ y → Cites D m.exp → Kept (lifted_at at m t y)
    lifted_at_cites at m t u (Ty-F.List x) o k is h = lifted_to_cites at m t x (list_of_one x) o (element_known D u x is k) (λ y n. cites_one D x y (element_known D u x is k) n) h
    lifted_at_cites at m t u (Ty-F.Opt x) o k is h = lifted_to_cites at m t x il.Present o (option_known D u x is k) (λ y n. cites_Present D y n) h
    lifted_at_cites at m t u y o k is h = tt

    fitted_cites : (at : Span) (t : Ty) (m : Made) → IsKnown D t → Cites D m.exp → Kept (fitted at t m)
    fitted_cites at t m o h = (
      (λ _. (h, o)),
      (λ _. ((λ _. (cites_Up D t m.exp o h, o)), (λ _. λ u means. lifted_at_cites at m t u (out-Ty u) o (means_known D known t u o means) refl h))),
    )

    element_cites : (at : Span) (p : Manner) (e : Exp) (t x : Ty) (lift : IlExp → IlExp) → IsKnown D t → IsKnown D x → ((y : IlExp) → Cites D y → Cites D (lift y)) → Kept (table.element w at p e t x lift)
    element_cites at p e t x lift o k l = λ v _. keeps_if D Claim (IsCited D) (is_collection v) _ _ (λ _. tt) (λ _. λ m h. (l m.exp (h k).0, o))

    other_cites : (at : Span) (p : Manner) (e : Exp) (t u : Ty) (y : Ty-F Ty) → IsKnown D t → IsKnown D u → out-Ty u ≡ y → Kept (table.other_row w at p e t y)
    other_cites at p e t u (Ty-F.List x) o k is = element_cites at p e t x (list_of_one x) o (element_known D u x is k) (λ y n. cites_one D x y (element_known D u x is k) n)
    other_cites at p e t u (Ty-F.Opt x) o k is = element_cites at p e t x il.Present o (option_known D u x is k) (λ y n. cites_Present D y n)
    other_cites at p e t u y o k is = tt

    eps_cites : (at : Span) (t u : Ty) (y : Ty-F Ty) → IsKnown D t → IsKnown D u → out-Ty u ≡ y → Kept (table.eps_row at t y)
    eps_cites at t u (Ty-F.List x) o k is = (cites_level D (il.List x []) _ (il.outs-List x []) tt (element_known D u x is k) none, o)
    eps_cites at t u (Ty-F.Opt x) o k is = (cites_level D (il.Empty x) _ (il.outs-Empty x) tt (option_known D u x is k) none, o)
    eps_cites at t u y o k is = tt

    concatenation_cites : (at : Span) (l r : Exp) (t : Ty) → IsKnown D t → Kept (table.concatenation_row w at l r t)
    concatenation_cites at l r t o =
        joined_kept at t (λ join. Asks (asked w l t) (λ a. Asks (asked w r t) (λ b. give (join a.exp b.exp) t))) (λ join j. λ a f b g. (j a.exp b.exp (f o).0 (g o).0, o))

    -- ---- iterations

    counts_by : (k : Iteration) (y : _) → out-Iteration k ≡ y → AllCite D (il_count_at y) → AllCite D (count_of k)
    counts_by k y is h = subst (λ z. AllCite D (il_count_at z)) (sym is) h

    pub counted_cites : (P : Made → Type 0) (y : Count-F Count Node Seg Exp) (next : Iteration → Step)
        → ((k : Iteration) → AllCite D (count_of k) → Keeps D Claim P (next k)) → Keeps D Claim P (table.counted_at w y next)
    counted_cites P Count-F.Star next h = h times.Star (counts_by times.Star _ times.outs-Star none)
    counted_cites P Count-F.Plus next h = h times.Plus (counts_by times.Plus _ times.outs-Plus none)
    counted_cites P Count-F.Quest next h = h times.Quest (counts_by times.Quest _ times.outs-Quest none)
    counted_cites P (Count-F.Times n) next h = λ m f. h (times.Times m.exp) (counts_by (times.Times m.exp) _ (times.outs-Times m.exp) (alone D (f (known-Nat D)).0))
    counted_cites P (Count-F.Below i n) next h = λ m f. h (times.Below i m.exp) (counts_by (times.Below i m.exp) _ (times.outs-Below i m.exp) (alone D (f (known-Nat D)).0))

    iteration_cites : (c : Count) (x : IlExp) (t : Ty) → IsKnown D t → Cites D x → Kept (table.iteration S w c x t)
    iteration_cites c x t o h =
        let names : List (List ℕ) = iterated S w c (λ name. occurs name x) in
        counted_cites (IsCited D) (out-Count c) (λ k. give (il.Iter k names x) t) (λ k counts. (by_body k names x (il.outs-Iter k names x) h counts, o))

    iterated_cites : (at : Span) (p : Manner) (e b : Exp) (c : Count) (t u : Ty) (y : Ty-F Ty) → IsKnown D t → IsKnown D u → out-Ty u ≡ y → Kept (table.iteration_row S w at p e b c t y)
    iterated_cites at p e b c t u (Ty-F.List x) o k is =
        keeps_if D Claim (IsCited D) (goes_over_list (out-Count c)) _ _ (λ _. λ m h. iteration_cites c m.exp t o (h (element_known D u x is k)).0) (λ _. other_cites at p e t u (Ty-F.List x) o k is)
    iterated_cites at p e b c t u (Ty-F.Opt x) o k is =
        keeps_if D Claim (IsCited D) (goes_over_list (out-Count c)) _ _ (λ _. other_cites at p e t u (Ty-F.Opt x) o k is) (λ _. λ m h. iteration_cites c m.exp t o (h (option_known D u x is k)).0)
    iterated_cites at p e b c t u y o k is = other_cites at p e t u y o k is

    -- ---- what several questions are answered with

    pub each_cites : (es : List Exp) (ts : List Ty) (ms : List Made) → AllByRecursion (IsKnown D) ts → Claims Claim (each_asked w es ts) ms → AllCite D (exps ms)
    each_cites [] ts [] o c = none
    each_cites [] ts (m ∷ ms) o c = absurd c
    each_cites (e ∷ es) [] [] o c = none
    each_cites (e ∷ es) [] (m ∷ ms) o c = absurd c
    each_cites (e ∷ es) (t ∷ ts) [] o c = absurd c
    each_cites (e ∷ es) (t ∷ ts) (m ∷ ms) o c = more (c.0 o.0).0 (each_cites es ts ms o.1 c.1)

    found_cites : (es : List Exp) (ms : List Made) → Claims Claim (map (found w) es) ms → AllCite D (exps ms) × AllByRecursion (IsKnown D) (map ty_of ms)
    found_cites [] [] c = (none, tt)
    found_cites [] (m ∷ ms) c = absurd c
    found_cites (e ∷ es) [] c = absurd c
    found_cites (e ∷ es) (m ∷ ms) c = let r = found_cites es ms c.1 in (more (c.0 tt).0 r.0, ((c.0 tt).1, r.1))

    pub holes_cite : (at : Span) (passed : List (List ℕ)) (fs : List Filling) (ts : List Ty) (ms : List Made) → AllByRecursion (IsKnown D) ts → Claims Claim (holes_behind w at passed fs ts) ms → AllCite D (exps ms)
    holes_cite at passed [] ts [] o c = none
    holes_cite at passed [] ts (m ∷ ms) o c = absurd c
    holes_cite at passed (f ∷ fs) [] [] o c = none
    holes_cite at passed (f ∷ fs) [] (m ∷ ms) o c = absurd c
    holes_cite at passed (f ∷ fs) (t ∷ ts) [] o c = absurd c
    holes_cite at passed (f ∷ fs) (t ∷ ts) (m ∷ ms) o c = more (c.0 o.0).0 (holes_cite at passed fs ts ms o.1 c.1)

    -- there is an expression for each hole
    pub holes_many : (at : Span) (passed : List (List ℕ)) (fs : List Filling) (ts : List Ty) (ms : List Made) → length fs ≡ length ts → Claims Claim (holes_behind w at passed fs ts) ms → length (exps ms) ≡ length ts
    holes_many at passed [] [] [] l c = refl
    holes_many at passed [] (t ∷ ts) ms l c = absurd (cc)
    holes_many at passed [] [] (m ∷ ms) l c = absurd c
    holes_many at passed (f ∷ fs) [] ms l c = absurd (cc)
    holes_many at passed (f ∷ fs) (t ∷ ts) [] l c = absurd c
    holes_many at passed (f ∷ fs) (t ∷ ts) (m ∷ ms) l c = ap suc (holes_many at passed fs ts ms (cc) c.1)

    items_cite : (t x : Ty) (es : List Exp) (ms : List Made) → IsKnown D t → IsKnown D x → Claims Claim (map (item w t x) es) ms → AllCite D (map item_exp (map table.item_of ms))
    items_cite t x [] [] o k c = none
    items_cite t x [] (m ∷ ms) o k c = absurd c
    items_cite t x (e ∷ es) [] o k c = absurd c
    items_cite t x (e ∷ es) (m ∷ ms) o k c = more (item_cites D m (c.0 (o, k)).0) (items_cite t x es ms o k c.1)

    -- ---- sequences, holes, tuples and calls

    sequence_cites : (at : Span) (es : List Exp) (t x : Ty) → IsKnown D t → IsKnown D x → Kept (table.sequence w at es t x)
    sequence_cites at es t x o k = λ v _. keeps_if D Claim (IsCited D) (is_collection v) _ _ (λ _. tt)
        (λ _. keeps_asks D Claim (IsCited D) (map (item w t x) es) (λ ms. give (il.List x (map table.item_of ms)) t)
        (λ ms c. (cites_level D (il.List x (map table.item_of ms)) _ (il.outs-List x (map table.item_of ms)) tt k (items_cite t x es ms o k c), o)))

    found_item_cites : (at : Span) (t x : Ty) (m : Made) → IsKnown D t → IsKnown D x → Cites D m.exp → Kept (table.found_item at t x m)
    found_item_cites at t x m o k h = (
      (λ _. raised_kept m x (λ y. give y x) k h (λ y n. (n, k))),
      (λ _. ((λ _. raised_kept m t (λ y. table.splice (made y t)) o h (λ y n. (n, o))), (λ _. tt))),
    )

    item_row_cites : (t x : Ty) (e : Exp) → IsKnown D t → IsKnown D x → Kept (table.item_row w t x e)
    item_row_cites t x e o k =
        keeps_if D Claim (IsCited D) (is_spliced e) _ _ (λ _. λ m h. h o)
        (λ _. keeps_if D Claim (IsCited D) (is_told_by_type e) _ _ (λ _. λ m h. found_item_cites (place e) t x m o k (h tt).0) (λ _. λ m h. h k))

    run_at_cites : (at : Span) (es : List Exp) (t u : Ty) (y : Ty-F Ty) → IsKnown D t → IsKnown D u → out-Ty u ≡ y → Kept (table.run_at w at es t y)
    run_at_cites at es t u (Ty-F.List x) o k is = sequence_cites at es t x o (element_known D u x is k)
    run_at_cites at es t u y o k is = tt

    hole_cites : (at : Span) (passed : List (List ℕ)) (filling : Filling) (t : Ty) → IsKnown D t → Kept (table.hole_row w at passed filling t)
    hole_cites at passed (one e) t o = λ m h. h o
    hole_cites at passed (run []) t o = (cites_Absent D t o, o)
    hole_cites at passed (run (e ∷ [])) t o = λ m h. h o
    hole_cites at passed (run (e ∷ f ∷ es)) t o = λ u means. run_at_cites at (e ∷ f ∷ es) t u (out-Ty u) o (means_known D known t u o means) refl
    hole_cites at passed missing t o = (cites_Absent D t o, o)

    inferred_tuple_cites : (es : List Exp) → Kept (inferred_tuple w es)
    inferred_tuple_cites es = keeps_asks D Claim (IsCited D) (map (found w) es) (λ ms. give (il.Tuple (exps ms)) (ty.Tuple (map ty_of ms)))
        (λ ms c. let r = found_cites es ms c in (cites_Tuple D (exps ms) r.0, known-Tuple D (map ty_of ms) r.1))

    call_cites : (at : Span) (name : List ℕ) (es : List Exp) (o : Option FunDef) → fun_named D.funs name ≡ o → Kept (call_row w at es o)
    call_cites at name es None is = tt
    call_cites at name es (Some f) is = keeps_if D Claim (IsCited D) (nat_eq (length es) (length f.params)) _ _
        (λ _. keeps_asks D Claim (IsCited D) (each_asked w es f.params) (λ ms. give (il.Call f.name (exps ms)) f.result)
        (λ ms c. (
          cites_level D (il.Call f.name (exps ms)) _ (il.outs-Call f.name (exps ms)) tt (f, fun_itself D.funs name f is)
              (each_cites es f.params ms (fun_known D known D.funs (λ (g : FunDef). AllByRecursion (IsKnown D) g.params) name f known.params is) c),
          fun_known D known D.funs (λ (g : FunDef). IsKnown D g.result) name f known.results is,
        )))
        (λ _. tt)

    -- ---- cases and records

    variant_cites : (at : Span) (passed : List (List ℕ)) (e : Exp) (t : Ty) (y : Ty-F Ty) → IsKnown D t → Kept (variant_row w at passed e t y)
    variant_cites at passed e t (Ty-F.Name variant) o = keeps_if D Claim (IsCited D) (is_among variant passed) _ _ (λ _. tt) (λ _. (
      (λ c h. keeps_asks D Claim (IsCited D) (holes_behind w at (passed_on c.whole passed variant) c.fillings c.operands) (λ ms. give (il.Case c.name c.tag (exps ms)) t)
          (λ ms g.
          let case : CaseDef = record { tag = c.tag; operands = c.operands } in
          let operands : AllByRecursion (IsKnown D) c.operands = chosen_known D known _ h.cases case (cases_known D known t h.cases h.has) h.chosen in
          let counted : length c.fillings ≡ length c.operands = Fits-length h.filled.template h.filled.shapes (bare e) c.fillings h.filled.fits ∙ sym h.filled.counted in
          let many : length (exps ms) ≡ length c.operands = holes_many at (passed_on c.whole passed variant) c.fillings c.operands ms counted g in
          let name : IsSyntax D c.name = name_known D (ty.Name c.name) c.name (ty.outs-Name c.name) (subst (IsKnown D) h.asked o) in (
            cites_level D (il.Case c.name c.tag (exps ms)) _ (il.outs-Case c.name c.tag (exps ms)) tt
                (name, record { template = h.filled.template; tag = h.filled.tagged; filled = sym h.filled.counted ∙ sym many })
                (holes_cite at (passed_on c.whole passed variant) c.fillings c.operands ms operands g),
            o,
          ))),
      (λ _. tt),
    ))
    variant_cites at passed e t y o = tt

    notation_cites : (at : Span) (p : Manner) (e : Exp) (t u : Ty) → IsKnown D t → IsKnown D u → Kept (notation_row w at p e t u)
    notation_cites at p e t u o k = ((λ _. variant_cites at p.passed e t (out-Ty u) o), (λ _. other_cites at p e t u (out-Ty u) o k refl))

    types_known : (fields : List (List ℕ × Ty)) → AllByRecursion (λ (f : List ℕ × Ty). IsKnown D f.1) fields → AllByRecursion (IsKnown D) (field_types fields)
    types_known [] h = tt
    types_known (f ∷ fs) h = (h.0, types_known fs h.1)

    filled_cites : (at : Span) (name : List ℕ) (ts : List Ty) (t : Ty) (o : Option (List Filling)) → IsSyntax D name → AllByRecursion (IsKnown D) ts → IsKnown D t → Kept (filled_fields w at name ts t o)
    filled_cites at name ts t None n h o = tt
    filled_cites at name ts t (Some fs) n h o =
        keeps_asks D Claim (IsCited D) (holes w at fs ts) (λ ms. give (il.Fields name (exps ms)) t)
        (λ ms c. (cites_level D (il.Fields name (exps ms)) _ (il.outs-Fields name (exps ms)) tt n (holes_cite at [] fs ts ms h c), o))

    record_cites : (at : Span) (p : Manner) (e : Exp) (given : List (List ℕ × Exp)) (t u : Ty) → IsKnown D t → IsKnown D u → Kept (record_row D w at p e given t u)
    record_cites at p e given t u o k = by (out-Ty t) (fields_of D.types u) refl refl
      where
        by : (y : Ty-F Ty) (f : Option (List (List ℕ × Ty))) → out-Ty t ≡ y → fields_of D.types u ≡ f → Kept (record_by w at p e given t u y f)
        by (Ty-F.Name name) (Some declared) is are =
            keeps_shaped D Claim (IsCited D) (field_types declared) (λ ss. filled_fields w at name (field_types declared) t (aligned (field_names declared) ss given))
            (λ ss. filled_cites at name (field_types declared) t (aligned (field_names declared) ss given) (name_known D t name is o)
            (types_known declared (fields_known D known u declared (named D.types u) refl are)) o)
        by (Ty-F.Name name) None is are = other_cites at p e t u (out-Ty u) o k refl
        by y f is are = other_cites at p e t u (out-Ty u) o k refl

    -- ---- inferable expressions

    entries_known : (vs : List Variable) → AllByRecursion (λ (v : Variable). IsKnown D v.1) vs → AllByRecursion (λ (e : List ℕ × Ty). IsKnown D e.1) (map entry_of vs)
    entries_known [] h = tt
    entries_known (v ∷ vs) h = (h.0, entries_known vs h.1)

    variable_known : (name : List ℕ) (t : Ty) → variable_type D S w name ≡ Some t → IsKnown D t
    variable_known name t h = by (is_among name w.indices) h
      where
        by : (b : Bool) → (if b then Some ty.Nat else option_or (lookup (same_name name) (map entry_of S.variables)) (type_of_name D name)) ≡ Some t → IsKnown D t
        by true k = let same : ty.Nat ≡ t = cc in subst (IsKnown D) same (known-Nat D)
        by false k = either_known D known (lookup (same_name name) (map entry_of S.variables)) (type_of_name D name) t k
            (looked_up (IsKnown D) name (map entry_of S.variables) t (entries_known S.variables scope)) (name_type_known D known name t)

    variable_cites : (at : Span) (name : List ℕ) (o : Option Ty) → variable_type D S w name ≡ o → Kept (variable_row at name o)
    variable_cites at name None is = tt
    variable_cites at name (Some t) is = (cites_level D (il.Var name) _ (il.outs-Var name) tt tt none, variable_known name t is)

    inferred_cites : (at : Span) (y : Node-F Count Node Seg Exp) → Kept (inferred_at D S w at y)
    inferred_cites at (Node-F.Name name) = variable_cites at name (variable_type D S w name) refl
    inferred_cites at (Node-F.Bool truth) = (cites_level D (il.Bool truth) _ (il.outs-Bool truth) tt tt none, known-Bool D)
    inferred_cites at (Node-F.Number n) = (cites_level D (il.Number n) _ (il.outs-Number n) tt tt none, known-Nat D)
    inferred_cites at (Node-F.Text text) = (cites_level D (il.Text text) _ (il.outs-Text text) tt tt none, known-Text D)
    inferred_cites at (Node-F.Binary l sign r) = binary_cites at sign l r (operator_of sign)
    inferred_cites at (Node-F.Not b) = λ m f. (cites_level D (il.Not m.exp) _ (il.outs-Not m.exp) tt tt (alone D (f (known-Bool D)).0), known-Bool D)
    inferred_cites at (Node-F.Neg b) = negation_cites b
    inferred_cites at (Node-F.Arith b) = λ m f. f tt
    inferred_cites at (Node-F.Paren b) = λ m f. f tt
    inferred_cites at (Node-F.Tuple es) = inferred_tuple_cites es
    inferred_cites at (Node-F.Dot b field) = dot_cites b at field
    inferred_cites at (Node-F.Node::At b i) = position_cites b i
    inferred_cites at (Node-F.Node::Slice b i n) = slice_cites b i n
    inferred_cites at (Node-F.Update b path value) = update_cites b at path value
    inferred_cites at (Node-F.Extend b path list) = extension_cites b at path list
    inferred_cites at (Node-F.Len b) = length_cites b
    inferred_cites at (Node-F.Call name es) = call_cites at name es (fun_named D.funs name) refl
    inferred_cites at (Node-F.Iter b c) = λ m f. iteration_cites c m.exp (iterated_type c m.ty) (kind_known D (kind_at (out-Count c)) m.ty (f tt).1) (f tt).0
    inferred_cites at y = tt

    -- ---- expressions at a type

    sequence_at_cites : (at : Span) (p : Manner) (e : Exp) (es : List Exp) (t u : Ty) (y : Ty-F Ty) → IsKnown D t → IsKnown D u → out-Ty u ≡ y → Kept (sequence_at w at p e es t u y)
    sequence_at_cites at p e es t u (Ty-F.List x) o k is =
        keeps_if D Claim (IsCited D) (table.is_run es p.in_parentheses) _ _ (λ _. sequence_cites at es t x o (element_known D u x is k)) (λ _. other_cites at p e t u (Ty-F.List x) o k is)
    sequence_at_cites at p e es t u y o k is = notation_cites at p e t u o k

    form_cites : (at : Span) (p : Manner) (e : Exp) (t u : Ty) (y : Node-F Count Node Seg Exp) → IsKnown D t → IsKnown D u → Kept (form_row D S w at p e t u y)
    form_cites at p e t u Node-F.Eps o k = eps_cites at t u (out-Ty u) o k refl
    form_cites at p e t u (Node-F.Binary l sign r) o k =
        keeps_if D Claim (IsCited D) (is_concatenation (operator_of sign)) _ _ (λ _. concatenation_cites at l r t o) (λ _. other_cites at p e t u (out-Ty u) o k refl)
    form_cites at p e t u (Node-F.Iter b c) o k = iterated_cites at p e b c t u (out-Ty u) o k refl
    form_cites at p e t u (Node-F.Seq es) o k = sequence_at_cites at p e es t u (out-Ty u) o k refl
    form_cites at p e t u (Node-F.Fields given) o k = record_cites at p e given t u o k
    form_cites at p e t u (Node-F.Atom name) o k = notation_cites at p e t u o k
    form_cites at p e t u (Node-F.Infix l sign r) o k = notation_cites at p e t u o k
    form_cites at p e t u (Node-F.Bracket opening b) o k = notation_cites at p e t u o k
    form_cites at p e t u y o k = other_cites at p e t u (out-Ty u) o k refl

    plain_cites : (at : Span) (p : Manner) (e : Exp) (t : Ty) → IsKnown D t → Kept (plain_row D S w at p e t)
    plain_cites at p e t o =
        keeps_if D Claim (IsCited D) (inferable e) _ _ (λ _. λ m h. fitted_cites at t m o (h tt).0) (λ _. λ u means. form_cites at p e t u (opened e) o (means_known D known t u o means))

    tuple_at_cites : (at : Span) (p : Manner) (e : Exp) (es : List Exp) (t u : Ty) (y : Ty-F Ty) → IsKnown D t → IsKnown D u → out-Ty u ≡ y → Kept (tuple_at D S w at p e es t y)
    tuple_at_cites at p e es t u (Ty-F.Tuple ts) o k is =
        keeps_if D Claim (IsCited D) (nat_eq (length es) (length ts)) _ _
        (λ _. keeps_asks D Claim (IsCited D) (each_asked w es ts) (λ ms. give (il.Tuple (exps ms)) t) (λ ms c. (cites_Tuple D (exps ms) (each_cites es ts ms (tuple_known D u ts is k) c), o)))
        (λ _. plain_cites at p e t o)
    tuple_at_cites at p e es t u y o k is = plain_cites at p e t o

    checked_cites : (at : Span) (p : Manner) (e : Exp) (t : Ty) (y : Node-F Count Node Seg Exp) → IsKnown D t → Kept (checked_row D S w at p e t y)
    checked_cites at p e t (Node-F.Paren b) o = λ m f. f o
    checked_cites at p e t (Node-F.Tuple es) o = λ u means. tuple_at_cites at p e es t u (out-Ty u) o (means_known D known t u o means) refl
    checked_cites at p e t y o = plain_cites at p e t o

  -- ---- all rows

  -- what steps keep of what is so, they keep where it is asked
  keeps_asked : (P : Type 0) (s : Step) → (P → Kept s) → Keeps D Claim (λ m. P → IsCited D m) s
  keeps_asked P s h = weaker s h
    where
      weaker : (s : Step) → (P → Kept s) → Keeps D Claim (λ m. P → IsCited D m) s
      weaker (Ends (Gives m)) h = h
      weaker (Ends (Fails b)) h = tt
      weaker (Asks q next) h = λ m c. weaker (next m) (λ p. h p m c)
      weaker (Tests c first second) h = ((λ k. weaker first (λ p. (h p).0 k)), (λ k. weaker second (λ p. (h p).1 k)))
      weaker (Opens t next) h = λ u m. weaker (next u) (λ p. h p u m)
      weaker (Fills t e next unfit) h = ((λ c k. weaker (next c) (λ p. (h p).0 c k)), (λ k. weaker unfit (λ p. (h p).1 k)))

  pub row_cites : (q : Question) → Keeps D Claim (Claim q) (row D S q)
  row_cites (check w at p e t) = keeps_asked (IsKnown D t) (checked_row D S w at p e t (opened e)) (λ o. checked_cites w at p e t (opened e) o)
  row_cites (infer w at e) = keeps_asked (Unit {0}) (row D S (infer w at e)) (λ _. keeps_if D Claim (IsCited D) (inferable e) _ _ (λ _. inferred_cites w at (opened e)) (λ _. tt))
  row_cites (item w t x e) = keeps_asked (IsKnown D t × IsKnown D x) (table.item_row w t x e) (λ o. item_row_cites w t x e o.0 o.1)
  row_cites (hole w at passed filling t) = keeps_asked (IsKnown D t) (table.hole_row w at passed filling t) (λ o. hole_cites w at passed filling t o)

  -- what answers a question cites what is declared
  pub Answered-cites : (q : Question) (m : Made) → Answered D S q (Gives m) → AskedKnown D q → IsCited D m
  Answered-cites q m h = Answered-keeps D S Claim row_cites q (Gives m) h
