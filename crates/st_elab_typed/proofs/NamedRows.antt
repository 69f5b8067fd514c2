-- What answers a question names in each iteration what it iterates.
use Rattle.std.proofs.Common.{◌≡◌, refl, sym, ap, subst, ℕ, List, [], ◌∷◌, ◌++◌, map, length, Bool, true, false}
use Rattle.std.specs.Prelude.{Option, Some, None, if◌then◌else◌, nat_eq}
use Rattle.st_num.specs.Names.{is_among}
use Rattle.st_num.specs.declared.span.Span.{Span}
use Rattle.st_num.specs.declared.mark.Mark.{Mark}
use Rattle.st_num.specs.declared.mark.Mark.TheVariants as mark
use Rattle.st_num.specs.declared.rule.RuleId.TheVariants.{Y1, Y5}
use Rattle.st_el.specs.declared.expression.Exp.{Exp}
use Rattle.st_el.specs.declared.expression.Node.{Node}
use Rattle.st_el.specs.declared.expression.Count.{Count, out-Count}
use Rattle.st_el.specs.declared.expression.Count.TheOpen.{Node-F, Count-F, Seg-F}
use Rattle.st_el.specs.declared.expression.Seg.{Seg, out-Seg}
use Rattle.st_il.specs.declared.definition.FunDef.{FunDef}
use Rattle.st_il.specs.declared.ty.Ty.{Ty, out-Ty}
use Rattle.st_il.specs.declared.ty.Ty.TheOpen.{Ty-F}
use Rattle.st_il.specs.declared.ty.Ty.TheVariants as ty
use Rattle.st_il.specs.declared.ty.NumTy.{NumTy}
use Rattle.st_il.specs.declared.ty.NumTy.TheVariants as number
use Rattle.st_il.specs.declared.expression.IlExp.{IlExp, out-IlExp}
use Rattle.st_il.specs.declared.expression.IlExp.TheOpen.{IlExp-F}
use Rattle.st_il.specs.declared.expression.IlExp.TheVariants as il
use Rattle.st_il.specs.declared.expression.Iteration.{Iteration, out-Iteration}
use Rattle.st_il.specs.declared.expression.Iteration.TheVariants as times
use Rattle.st_il.specs.declared.expression.ListItem.{ListItem}
use Rattle.st_il.specs.declared.expression.ListItem.TheVariants as part
use Rattle.st_il.specs.declared.expression.PathSeg.{PathSeg}
use Rattle.st_il.specs.declared.expression.PathSeg.TheVariants as step
use Rattle.st_il.specs.Occurrences.{occurs}
use Rattle.st_type_table.specs.Meaning.{fields_of}
use Rattle.st_dims.specs.declared.within.Within.{Within}
use Rattle.st_dims.specs.Around.{kind_at, index_at, inside, entered}
use Rattle.st_il.specs.Names.{flattened}
use Rattle.st_semantics.specs.Iterations.{count_of, index_of, kind_of, count_at as il_count_at, index_at as il_index_at, kind_at as il_kind_at}
use Rattle.st_semantics.specs.Operands.{operands_at, item_at, segment_at, item_exp, segment_exps}
use Rattle.st_notation.specs.Elements.{opened}
use Rattle.st_notation.specs.Fits.{Filling, one, run, missing}
use Rattle.st_elab_table.specs.declared.decls.Decls.{Decls}
use Rattle.st_elab_table.specs.declared.decls.Scope.{Scope}
use Rattle.st_elab_table.specs.declared.operator.Operator.{Operator}
use Rattle.st_elab_table.specs.declared.operator.Operator.TheVariants as operator
use Rattle.st_elab_table.specs.Operators.{operator_of, connected, equated, ordered, reckoned}
use Rattle.st_elab_table.specs.Forms.{place, inferable, is_spliced, is_told_by_type, goes_over_list, is_concatenation}
use Rattle.st_elab_table.specs.Iterations.{iterated, iterated_in, iterated_type}
use Rattle.st_elab_table.specs.Inferred.{fun_named, variable_type, variable_row, inferred_at, call_row, inferred_tuple}
use Rattle.st_elab_table.specs.Checked.{sequence_at, form_row, plain_row, tuple_at, checked_row}
use Rattle.st_elab_table.specs.Collections as table
use Rattle.st_elab_table.specs.Questions.{Manner, Question, check, infer, item, hole, Made, Step, Asks, Gives}
use Rattle.st_elab_table.specs.Steps.{made, breach, give, asked, found, each_asked, holes, holes_behind, exps, ty_of, is_collection, list_of_one, lifted_to, lifted_at, fitted, raised, injected, wider, number_type, joined_at, as_joined, as_list}
use Rattle.st_elab_table.specs.Operands.{numeric, compared, equation_row, membership_row, both_numeric, power_row, negation_row, concatenated, binary_row}
use Rattle.st_elab_table.specs.Paths.{length_row, position_row, slice_row, field_row, step_row, along, update_row, extension_row}
use Rattle.st_elab_table.specs.Records.{aligned, field_names, field_types, filled_fields, record_by, record_row, passed_on, variant_row, notation_row}
use Rattle.st_elab_table.specs.Elaboration.{row, Answered}
use Rattle.st_elab_table.proofs.Keeps.{Keeps, Answered-keeps}
use Rattle.st_elab_law.proofs.Claims.{Claims}
use Rattle.st_elab_law.proofs.Keeping.{keeps_if, keeps_asks, keeps_list, keeps_number, keeps_larger, keeps_field, keeps_shaped}
use Rattle.st_elab_typed.specs.inner.Named.{IsNoIteration, Names, by_parts, by_body, AllName, none, more}

-- what stands round what a question is about
abbrev pub around_of : Question → Within
around_of (check w at p e t) = w
around_of (infer w at e) = w
around_of (item w t element e) = w
around_of (hole w at passed filling t) = w

module _ (S : Scope) (w : Within) where
  -- ---- forms

  of_level : (x : IlExp) (y : IlExp-F IlExp Iteration ListItem PathSeg) → out-IlExp x ≡ y → IsNoIteration y → AllName S w (operands_at item_exp segment_exps y) → Names S w x
  of_level x y is n h = by_parts (subst IsNoIteration (sym is) n) (subst (λ z. AllName S w (operands_at item_exp segment_exps z)) (sym is) h)

  alone : {x : IlExp} → Names S w x → AllName S w (x ∷ [])
  alone h = more h none

  both : {x y : IlExp} → Names S w x → Names S w y → AllName S w (x ∷ y ∷ [])
  both h k = more h (alone k)

  all_both : (xs ys : List IlExp) → AllName S w xs → AllName S w ys → AllName S w (xs ++ ys)
  all_both [] ys none k = k
  all_both (x ∷ xs) ys (more h hs) k = more h (all_both xs ys hs k)

  pub names_Up : (t : Ty) (x : IlExp) → Names S w x → Names S w (il.Up t x)
  names_Up t x h = of_level (il.Up t x) _ (il.outs-Up t x) tt (alone h)

  pub names_Cat : (x y : IlExp) → Names S w x → Names S w y → Names S w (il.Cat x y)
  names_Cat x y h k = of_level (il.Cat x y) _ (il.outs-Cat x y) tt (both h k)

  pub names_Join : (x y : IlExp) → Names S w x → Names S w y → Names S w (il.Join x y)
  names_Join x y h k = of_level (il.Join x y) _ (il.outs-Join x y) tt (both h k)

  names_injected : (m n : NumTy) (x : IlExp) → Names S w x → Names S w (injected m n x)
  names_injected number.Nat number.Nat x h = h
  names_injected number.Nat number.Int x h = names_Up ty.Int x h
  names_injected number.Int n x h = h

  names_connected : (sign : Mark) (x y : IlExp) → Names S w x → Names S w y → Names S w (connected sign x y)
  names_connected mark.Or x y h k = of_level (il.Or x y) _ (il.outs-Or x y) tt (both h k)
  names_connected mark.Implies x y h k = of_level (il.Imp x y) _ (il.outs-Imp x y) tt (both h k)
  names_connected mark.Equivalent x y h k = of_level (il.Iff x y) _ (il.outs-Iff x y) tt (both h k)
  names_connected sign x y h k = of_level (il.And x y) _ (il.outs-And x y) tt (both h k)

  names_equated : (sign : Mark) (x y : IlExp) → Names S w x → Names S w y → Names S w (equated sign x y)
  names_equated mark.NotEqual x y h k = of_level (il.Ne x y) _ (il.outs-Ne x y) tt (both h k)
  names_equated sign x y h k = of_level (il.Eq x y) _ (il.outs-Eq x y) tt (both h k)

  names_ordered : (sign : Mark) (x y : IlExp) → Names S w x → Names S w y → Names S w (ordered sign x y)
  names_ordered mark.Greater x y h k = of_level (il.Gt x y) _ (il.outs-Gt x y) tt (both h k)
  names_ordered mark.LessOrEqual x y h k = of_level (il.Le x y) _ (il.outs-Le x y) tt (both h k)
  names_ordered mark.GreaterOrEqual x y h k = of_level (il.Ge x y) _ (il.outs-Ge x y) tt (both h k)
  names_ordered sign x y h k = of_level (il.Lt x y) _ (il.outs-Lt x y) tt (both h k)

  names_reckoned : (sign : Mark) (n : NumTy) (x y : IlExp) → Names S w x → Names S w y → Names S w (reckoned sign n x y)
  names_reckoned mark.Minus n x y h k = of_level (il.Sub n x y) _ (il.outs-Sub n x y) tt (both h k)
  names_reckoned mark.Star n x y h k = of_level (il.Mul n x y) _ (il.outs-Mul n x y) tt (both h k)
  names_reckoned mark.Slash n x y h k = of_level (il.Div n x y) _ (il.outs-Div n x y) tt (both h k)
  names_reckoned mark.Backslash n x y h k = of_level (il.Rem n x y) _ (il.outs-Rem n x y) tt (both h k)
  names_reckoned sign n x y h k = of_level (il.Add n x y) _ (il.outs-Add n x y) tt (both h k)

  names_one : (t : Ty) (x : IlExp) → Names S w x → Names S w (list_of_one t x)
  names_one t x h =
      let first : AllName S w (item_exp (part.One x) ∷ []) = subst (λ z. AllName S w (item_at z ∷ [])) (sym (part.outs-One x)) (alone h) in
      of_level (il.List t (part.One x ∷ [])) _ (il.outs-List t (part.One x ∷ [])) tt first

  names_Present : (x : IlExp) → Names S w x → Names S w (il.Present x)
  names_Present x h = of_level (il.Present x) _ (il.outs-Present x) tt (alone h)

  names_Absent : (t : Ty) → Names S w (il.Absent t)
  names_Absent t = of_level (il.Absent t) _ (il.outs-Absent t) tt none

  names_Empty : (t : Ty) → Names S w (il.Empty t)
  names_Empty t = of_level (il.Empty t) _ (il.outs-Empty t) tt none

  names_Tuple : (xs : List IlExp) → AllName S w xs → Names S w (il.Tuple xs)
  names_Tuple xs h = of_level (il.Tuple xs) _ (il.outs-Tuple xs) tt h

  names_path : (x : IlExp) (path : List PathSeg) (y : IlExp) → Names S w x → AllName S w (flattened (map segment_exps path)) → Names S w y
      → AllName S w (x ∷ flattened (map segment_exps path) ++ y ∷ [])
  names_path x path y h p k = more h (all_both (flattened (map segment_exps path)) (y ∷ []) p (alone k))

  item_names : (m : Made) → Names S w m.exp → Names S w (item_exp (table.item_of m))
  item_names m h = by m.spliced
    where
      by : (b : Bool) → Names S w (item_exp (if b then part.All m.exp else part.One m.exp))
      by true = subst (λ z. Names S w (item_at z)) (sym (part.outs-All m.exp)) h
      by false = subst (λ z. Names S w (item_at z)) (sym (part.outs-One m.exp)) h

-- ---- steps

module _ (D : Decls) (S : Scope) where
  abbrev pub Claim : Question → Made → Type 0
  Claim q m = Names S (around_of q) m.exp

  abbrev Kept : Within → Step → Type 0
  Kept w = Keeps D Claim (λ (m : Made). Names S w m.exp)

  module _ (w : Within) where
    abbrev Q : Made → Type 0
    Q m = Names S w m.exp

    raised_names : (m : Made) (t : Ty) (next : IlExp → Step) → Names S w m.exp → ((x : IlExp) → Names S w x → Kept w (next x)) → Kept w (raised m t next)
    raised_names m t next n h = ((λ _. h m.exp n), (λ _. h (il.Up t m.exp) (names_Up S w t m.exp n)))

    joined_names : (at : Span) (t : Ty) (next : (IlExp → IlExp → IlExp) → Step)
        → ((join : IlExp → IlExp → IlExp) → ((x y : IlExp) → Names S w x → Names S w y → Names S w (join x y)) → Kept w (next join)) → Kept w (as_joined at t next)
    joined_names at t next h = λ u m. by (out-Ty u)
      where
        by : (y : Ty-F Ty) → Kept w (joined_at at t next y)
        by (Ty-F.List x) = h il.Cat (names_Cat S w)
        by y = ((λ _. h il.Join (names_Join S w)), (λ _. tt))

    both_raised : (a b : Made) (t : Ty) (next : IlExp → IlExp → Step) → Names S w a.exp → Names S w b.exp
        → ((x y : IlExp) → Names S w x → Names S w y → Kept w (next x y)) → Kept w (raised a t (λ x. raised b t (next x)))
    both_raised a b t next f g h = raised_names a t (λ x. raised b t (next x)) f (λ x n. raised_names b t (next x) g (λ y k. h x y n k))

    -- ---- operators

    compared_names : (at : Span) (sign : Mark) (a b : Made) → Names S w a.exp → Names S w b.exp → Kept w (compared at sign a b)
    compared_names at sign a b f g =
        keeps_larger D Claim Q a.ty b.ty (λ t. raised a t (λ x. raised b t (λ y. give (equated sign x y) ty.Bool)))
        (λ t. both_raised a b t (λ x y. give (equated sign x y) ty.Bool) f g (λ x y h k. names_equated S w sign x y h k)) (breach at Y1) tt

    equation_names : (at : Span) (sign : Mark) (l r : Exp) → Kept w (equation_row w at sign l r)
    equation_names at sign l r =
        keeps_if D Claim Q (inferable l) _ _
        (λ _. λ a f. keeps_if D Claim Q (inferable r) _ _ (λ _. λ b g. compared_names at sign a b f g) (λ _. λ b g. names_equated S w sign a.exp b.exp f g))
        (λ _. keeps_if D Claim Q (inferable r) _ _ (λ _. λ b g a f. names_equated S w sign a.exp b.exp f g) (λ _. tt))

    member_names : (x y : IlExp) → Names S w x → Names S w y → Names S w (il.Member x y)
    member_names x y f g = of_level S w (il.Member x y) _ (il.outs-Member x y) tt (both S w f g)

    membership_names : (at : Span) (l r : Exp) → Kept w (membership_row w at l r)
    membership_names at l r =
        keeps_if D Claim Q (inferable r) _ _
        (λ _. λ b g. keeps_list D Claim Q (place r) b.ty (λ x. Asks (asked w l x) (λ a. give (il.Member a.exp b.exp) ty.Bool)) (λ x. λ a f. member_names a.exp b.exp f g))
        (λ _. keeps_if D Claim Q (inferable l) _ _ (λ _. λ a f b g. member_names a.exp b.exp f g) (λ _. tt))

    both_numbers : (l r : Exp) (next : NumTy → IlExp → IlExp → Step) → ((n : NumTy) (x y : IlExp) → Names S w x → Names S w y → Kept w (next n x y)) → Kept w (both_numeric w l r next)
    both_numbers l r next h = λ a f. keeps_number D Claim Q (place l) a.ty
        (λ m. numeric w r (λ b n. next (wider m n) (injected m (wider m n) a.exp) (injected n (wider m n) b.exp)))
        (λ m. λ b g. keeps_number D Claim Q (place r) b.ty
        (λ n. next (wider m n) (injected m (wider m n) a.exp) (injected n (wider m n) b.exp))
        (λ n. h (wider m n) (injected m (wider m n) a.exp) (injected n (wider m n) b.exp) (names_injected S w m (wider m n) a.exp f) (names_injected S w n (wider m n) b.exp g)))

    power_names : (l r : Exp) → Kept w (power_row w l r)
    power_names l r = λ a f. keeps_number D Claim Q (place l) a.ty
        (λ n. Asks (asked w r ty.Nat) (λ b. give (il.Pow n a.exp b.exp) (number_type n)))
        (λ n. λ b g. of_level S w (il.Pow n a.exp b.exp) _ (il.outs-Pow n a.exp b.exp) tt (both S w f g))

    concatenated_names : (at : Span) (a b : Made) → Names S w a.exp → Names S w b.exp → Kept w (concatenated at a b)
    concatenated_names at a b f g =
        keeps_larger D Claim Q a.ty b.ty (λ t. as_joined at t (λ join. raised a t (λ x. raised b t (λ y. give (join x y) t))))
        (λ t. joined_names at t (λ join. raised a t (λ x. raised b t (λ y. give (join x y) t)))
        (λ join j. both_raised a b t (λ x y. give (join x y) t) f g (λ x y h k. j x y h k))) (breach at Y5) tt

    binary_names : (at : Span) (sign : Mark) (l r : Exp) (o : Operator) → Kept w (binary_row w at sign l r o)
    binary_names at sign l r operator.Logic = λ a f b g. names_connected S w sign a.exp b.exp f g
    binary_names at sign l r operator.Equation = equation_names at sign l r
    binary_names at sign l r operator.Order = both_numbers l r (λ n x y. give (ordered sign x y) ty.Bool) (λ n x y f g. names_ordered S w sign x y f g)
    binary_names at sign l r operator.Membership = membership_names at l r
    binary_names at sign l r operator.Concatenation = λ a f b g. concatenated_names at a b f g
    binary_names at sign l r operator.Arithmetic = both_numbers l r (λ n x y. give (reckoned sign n x y) (number_type n)) (λ n x y f g. names_reckoned S w sign n x y f g)
    binary_names at sign l r operator.Power = power_names l r
    binary_names at sign l r operator.Other = tt

    -- ---- parts

    negation_names : (e : Exp) → Kept w (negation_row w e)
    negation_names e = λ m f. keeps_number D Claim Q (place e) m.ty (λ n. give (il.Neg (injected n number.Int m.exp)) ty.Int)
        (λ n. of_level S w (il.Neg (injected n number.Int m.exp)) _ (il.outs-Neg (injected n number.Int m.exp)) tt (alone S w (names_injected S w n number.Int m.exp f)))

    length_names : (e : Exp) → Kept w (length_row w e)
    length_names e = λ m f. keeps_list D Claim Q (place e) m.ty (λ x. give (il.Len m.exp) ty.Nat) (λ x. of_level S w (il.Len m.exp) _ (il.outs-Len m.exp) tt (alone S w f))

    position_names : (e i : Exp) → Kept w (position_row w e i)
    position_names e i = λ m f. keeps_list D Claim Q (place e) m.ty (λ x. Asks (asked w i ty.Nat) (λ a. give (il.At m.exp a.exp) x))
        (λ x. λ a g. of_level S w (il.At m.exp a.exp) _ (il.outs-At m.exp a.exp) tt (both S w f g))

    slice_names : (e i n : Exp) → Kept w (slice_row w e i n)
    slice_names e i n = λ m f. keeps_list D Claim Q (place e) m.ty
        (λ x. Asks (asked w i ty.Nat) (λ a. Asks (asked w n ty.Nat) (λ b. give (il.Slice m.exp a.exp b.exp) m.ty)))
        (λ x. λ a g b h. of_level S w (il.Slice m.exp a.exp b.exp) _ (il.outs-Slice m.exp a.exp b.exp) tt (more f (both S w g h)))

    field_names_kept : (e : Exp) (at : Span) (name : List ℕ) → Kept w (field_row D w at e name)
    field_names_kept e at name = λ m f. keeps_field D Claim Q (place e) at name m.ty (λ t. give (il.Dot m.exp name) t) (λ t. of_level S w (il.Dot m.exp name) _ (il.outs-Dot m.exp name) tt (alone S w f))

    -- ---- paths

    step_names : (at : Span) (t : Ty) (next : PathSeg → Ty → Step) (y : Seg-F Count Node Seg Exp)
        → ((p : PathSeg) (u : Ty) → AllName S w (segment_exps p) → Kept w (next p u)) → Kept w (step_row D w at t next y)
    step_names at t next (Seg-F.Field name) h =
        keeps_field D Claim Q at at name t (next (step.Field name)) (λ u. h (step.Field name) u (subst (λ z. AllName S w (segment_at z)) (sym (step.outs-Field name)) none))
    step_names at t next (Seg-F.Seg::At i) h =
        keeps_list D Claim Q at t (λ x. Asks (asked w i ty.Nat) (λ a. next (step.At a.exp) x))
        (λ x. λ a f. h (step.At a.exp) x (subst (λ z. AllName S w (segment_at z)) (sym (step.outs-At a.exp)) (alone S w f)))
    step_names at t next (Seg-F.Seg::Slice i n) h =
        keeps_list D Claim Q at t (λ x. Asks (asked w i ty.Nat) (λ a. Asks (asked w n ty.Nat) (λ b. next (step.Slice a.exp b.exp) t)))
        (λ x. λ a f b g. h (step.Slice a.exp b.exp) t (subst (λ z. AllName S w (segment_at z)) (sym (step.outs-Slice a.exp b.exp)) (both S w f g)))

    along_names : (at : Span) (path : List Seg) (t : Ty) (next : List PathSeg → Ty → Step)
        → ((ps : List PathSeg) (u : Ty) → AllName S w (flattened (map segment_exps ps)) → Kept w (next ps u)) → Kept w (along D w at path t next)
    along_names at [] t next h = h [] t none
    along_names at (s ∷ ss) t next h =
        step_names at t (λ p u. along D w at ss u (λ ps v. next (p ∷ ps) v)) (out-Seg s)
        (λ p u f. along_names at ss u (λ ps v. next (p ∷ ps) v) (λ ps v g. h (p ∷ ps) v (all_both S w (segment_exps p) (flattened (map segment_exps ps)) f g)))

    update_names : (e : Exp) (at : Span) (path : List Seg) (value : Exp) → Kept w (update_row D w at e path value)
    update_names e at path value = λ m f. along_names at path m.ty (λ ps t. Asks (asked w value t) (λ v. give (il.Set m.exp ps v.exp) m.ty))
        (λ ps t g. λ v h. of_level S w (il.Set m.exp ps v.exp) _ (il.outs-Set m.exp ps v.exp) tt (names_path S w m.exp ps v.exp f g h))

    extension_names : (e : Exp) (at : Span) (path : List Seg) (list : Exp) → Kept w (extension_row D w at e path list)
    extension_names e at path list = λ m f. along_names at path m.ty (λ ps t. as_list at t (λ x. Asks (asked w list t) (λ l. give (il.Extend m.exp ps l.exp) m.ty)))
        (λ ps t g. keeps_list D Claim Q at t (λ x. Asks (asked w list t) (λ l. give (il.Extend m.exp ps l.exp) m.ty))
        (λ x. λ l h. of_level S w (il.Extend m.exp ps l.exp) _ (il.outs-Extend m.exp ps l.exp) tt (names_path S w m.exp ps l.exp f g h)))

    -- ---- one element

    lifted_to_names : (at : Span) (m : Made) (t x : Ty) (lift : IlExp → IlExp) → ((y : IlExp) → Names S w y → Names S w (lift y)) → Names S w m.exp → Kept w (lifted_to at m t x lift)
    lifted_to_names at m t x lift l h = λ v _. keeps_if D Claim Q (is_collection v) _ _ (λ _. tt)
        (λ _. ((λ _. raised_names m x (λ y. give (lift y) t) h (λ y k. l y k)), (λ _. tt)))

    lifted_at_names : (at : Span) (m : Made) (t : Ty) (y : Ty-F Ty) → Names S w m.exp → Kept w (lifted_at at m t y)
    lifted_at_names at m t (Ty-F.List x) h = lifted_to_names at m t x (list_of_one x) (names_one S w x) h
    lifted_at_names at m t (Ty-F.Opt x) h = lifted_to_names at m t x il.Present (names_Present S w) h
    lifted_at_names at m t y h = tt

    fitted_names : (at : Span) (t : Ty) (m : Made) → Names S w m.exp → Kept w (fitted at t m)
    fitted_names at t m h = ((λ _. h), (λ _. ((λ _. names_Up S w t m.exp h), (λ _. λ u _. lifted_at_names at m t (out-Ty u) h))))

    element_names : (at : Span) (p : Manner) (e : Exp) (t x : Ty) (lift : IlExp → IlExp) → ((y : IlExp) → Names S w y → Names S w (lift y)) → Kept w (table.element w at p e t x lift)
    element_names at p e t x lift l = λ v _. keeps_if D Claim Q (is_collection v) _ _ (λ _. tt) (λ _. λ m h. l m.exp h)

    other_names : (at : Span) (p : Manner) (e : Exp) (t : Ty) (y : Ty-F Ty) → Kept w (table.other_row w at p e t y)
    other_names at p e t (Ty-F.List x) = element_names at p e t x (list_of_one x) (names_one S w x)
    other_names at p e t (Ty-F.Opt x) = element_names at p e t x il.Present (names_Present S w)
    other_names at p e t y = tt

    eps_names : (at : Span) (t : Ty) (y : Ty-F Ty) → Kept w (table.eps_row at t y)
    eps_names at t (Ty-F.List x) = of_level S w (il.List x []) _ (il.outs-List x []) tt none
    eps_names at t (Ty-F.Opt x) = names_Empty S w x
    eps_names at t y = tt

    concatenation_names : (at : Span) (l r : Exp) (t : Ty) → Kept w (table.concatenation_row w at l r t)
    concatenation_names at l r t =
        joined_names at t (λ join. Asks (asked w l t) (λ a. Asks (asked w r t) (λ b. give (join a.exp b.exp) t))) (λ join j. λ a f b g. j a.exp b.exp f g)

    -- ---- iterations

    -- an iteration has the kind and the index of the mark that it is elaborated from
    abbrev Marked : Count → Iteration → Type 0
    Marked c k = (kind_of k ≡ kind_at (out-Count c)) × (index_of k ≡ index_at (out-Count c)) × AllName S w (count_of k)

    by_form : (k : Iteration) (y : _) → out-Iteration k ≡ y → AllName S w (il_count_at y) → AllName S w (count_of k)
    by_form k y is h = subst (λ z. AllName S w (il_count_at z)) (sym is) h

    pub counted_names : (P : Made → Type 0) (c : Count) (y : Count-F Count Node Seg Exp) (next : Iteration → Step) → out-Count c ≡ y
        → ((k : Iteration) → kind_of k ≡ kind_at y → index_of k ≡ index_at y → AllName S w (count_of k) → Keeps D Claim P (next k)) → Keeps D Claim P (table.counted_at w y next)
    counted_names P c Count-F.Star next is h = h times.Star (ap il_kind_at times.outs-Star) (ap il_index_at times.outs-Star) (by_form times.Star _ times.outs-Star none)
    counted_names P c Count-F.Plus next is h = h times.Plus (ap il_kind_at times.outs-Plus) (ap il_index_at times.outs-Plus) (by_form times.Plus _ times.outs-Plus none)
    counted_names P c Count-F.Quest next is h = h times.Quest (ap il_kind_at times.outs-Quest) (ap il_index_at times.outs-Quest) (by_form times.Quest _ times.outs-Quest none)
    counted_names P c (Count-F.Times n) next is h = λ m f.
        h (times.Times m.exp) (ap il_kind_at (times.outs-Times m.exp)) (ap il_index_at (times.outs-Times m.exp)) (by_form (times.Times m.exp) _ (times.outs-Times m.exp) (alone S w f))
    counted_names P c (Count-F.Below i n) next is h = λ m f.
        h (times.Below i m.exp) (ap il_kind_at (times.outs-Below i m.exp)) (ap il_index_at (times.outs-Below i m.exp)) (by_form (times.Below i m.exp) _ (times.outs-Below i m.exp) (alone S w f))

    iteration_names : (c : Count) (x : IlExp) (t : Ty) → Names S (inside w c) x → Kept w (table.iteration S w c x t)
    iteration_names c x t h =
        let names : List (List ℕ) = iterated S w c (λ name. occurs name x) in
        counted_names Q c (out-Count c) (λ k. give (il.Iter k names x) t) refl
        (λ k same_kind same_index counts. by_body k names x (il.outs-Iter k names x)
        (ap (λ index. iterated_in S.variables (length w.kinds) (w.indices ++ index) (λ name. occurs name x)) (sym same_index))
        (subst (λ (z : Within). Names S z x) (λ i. entered (sym same_kind i) (sym same_index i) w) h) counts)

    iterated_names : (at : Span) (p : Manner) (e b : Exp) (c : Count) (t : Ty) (y : Ty-F Ty) → Kept w (table.iteration_row S w at p e b c t y)
    iterated_names at p e b c t (Ty-F.List x) =
        keeps_if D Claim Q (goes_over_list (out-Count c)) _ _ (λ _. λ m h. iteration_names c m.exp t h) (λ _. other_names at p e t (Ty-F.List x))
    iterated_names at p e b c t (Ty-F.Opt x) =
        keeps_if D Claim Q (goes_over_list (out-Count c)) _ _ (λ _. other_names at p e t (Ty-F.Opt x)) (λ _. λ m h. iteration_names c m.exp t h)
    iterated_names at p e b c t y = other_names at p e t y

    -- ---- what several questions are answered with

    pub each_names : (es : List Exp) (ts : List Ty) (ms : List Made) → Claims Claim (each_asked w es ts) ms → AllName S w (exps ms)
    each_names [] ts [] c = none
    each_names [] ts (m ∷ ms) c = absurd c
    each_names (e ∷ es) [] [] c = none
    each_names (e ∷ es) [] (m ∷ ms) c = absurd c
    each_names (e ∷ es) (t ∷ ts) [] c = absurd c
    each_names (e ∷ es) (t ∷ ts) (m ∷ ms) c = more c.0 (each_names es ts ms c.1)

    found_names : (es : List Exp) (ms : List Made) → Claims Claim (map (found w) es) ms → AllName S w (exps ms)
    found_names [] [] c = none
    found_names [] (m ∷ ms) c = absurd c
    found_names (e ∷ es) [] c = absurd c
    found_names (e ∷ es) (m ∷ ms) c = more c.0 (found_names es ms c.1)

    pub holes_names : (at : Span) (passed : List (List ℕ)) (fs : List Filling) (ts : List Ty) (ms : List Made) → Claims Claim (holes_behind w at passed fs ts) ms → AllName S w (exps ms)
    holes_names at passed [] ts [] c = none
    holes_names at passed [] ts (m ∷ ms) c = absurd c
    holes_names at passed (f ∷ fs) [] [] c = none
    holes_names at passed (f ∷ fs) [] (m ∷ ms) c = absurd c
    holes_names at passed (f ∷ fs) (t ∷ ts) [] c = absurd c
    holes_names at passed (f ∷ fs) (t ∷ ts) (m ∷ ms) c = more c.0 (holes_names at passed fs ts ms c.1)

    items_names : (t x : Ty) (es : List Exp) (ms : List Made) → Claims Claim (map (item w t x) es) ms → AllName S w (map item_exp (map table.item_of ms))
    items_names t x [] [] c = none
    items_names t x [] (m ∷ ms) c = absurd c
    items_names t x (e ∷ es) [] c = absurd c
    items_names t x (e ∷ es) (m ∷ ms) c = more (item_names S w m c.0) (items_names t x es ms c.1)

    -- ---- sequences, holes, tuples and calls

    sequence_names : (at : Span) (es : List Exp) (t x : Ty) → Kept w (table.sequence w at es t x)
    sequence_names at es t x = λ v _. keeps_if D Claim Q (is_collection v) _ _ (λ _. tt)
        (λ _. keeps_asks D Claim Q (map (item w t x) es) (λ ms. give (il.List x (map table.item_of ms)) t)
        (λ ms c. of_level S w (il.List x (map table.item_of ms)) _ (il.outs-List x (map table.item_of ms)) tt (items_names t x es ms c)))

    found_item_names : (at : Span) (t x : Ty) (m : Made) → Names S w m.exp → Kept w (table.found_item at t x m)
    found_item_names at t x m h = (
      (λ _. raised_names m x (λ y. give y x) h (λ y k. k)),
      (λ _. ((λ _. raised_names m t (λ y. table.splice (made y t)) h (λ y k. k)), (λ _. tt))),
    )

    item_row_names : (t x : Ty) (e : Exp) → Kept w (table.item_row w t x e)
    item_row_names t x e =
        keeps_if D Claim Q (is_spliced e) _ _ (λ _. λ m h. h)
        (λ _. keeps_if D Claim Q (is_told_by_type e) _ _ (λ _. λ m h. found_item_names (place e) t x m h) (λ _. λ m h. h))

    run_at_names : (at : Span) (es : List Exp) (t : Ty) (y : Ty-F Ty) → Kept w (table.run_at w at es t y)
    run_at_names at es t (Ty-F.List x) = sequence_names at es t x
    run_at_names at es t y = tt

    hole_names : (at : Span) (passed : List (List ℕ)) (filling : Filling) (t : Ty) → Kept w (table.hole_row w at passed filling t)
    hole_names at passed (one e) t = λ m h. h
    hole_names at passed (run []) t = names_Absent S w t
    hole_names at passed (run (e ∷ [])) t = λ m h. h
    hole_names at passed (run (e ∷ f ∷ es)) t = λ u _. run_at_names at (e ∷ f ∷ es) t (out-Ty u)
    hole_names at passed missing t = names_Absent S w t

    inferred_tuple_names : (es : List Exp) → Kept w (inferred_tuple w es)
    inferred_tuple_names es = keeps_asks D Claim Q (map (found w) es) (λ ms. give (il.Tuple (exps ms)) (ty.Tuple (map ty_of ms))) (λ ms c. names_Tuple S w (exps ms) (found_names es ms c))

    call_names : (at : Span) (es : List Exp) (o : Option FunDef) → Kept w (call_row w at es o)
    call_names at es None = tt
    call_names at es (Some f) = keeps_if D Claim Q (nat_eq (length es) (length f.params)) _ _
        (λ _. keeps_asks D Claim Q (each_asked w es f.params) (λ ms. give (il.Call f.name (exps ms)) f.result)
        (λ ms c. of_level S w (il.Call f.name (exps ms)) _ (il.outs-Call f.name (exps ms)) tt (each_names es f.params ms c)))
        (λ _. tt)

    -- ---- cases and records

    variant_names : (at : Span) (passed : List (List ℕ)) (e : Exp) (t : Ty) (y : Ty-F Ty) → Kept w (variant_row w at passed e t y)
    variant_names at passed e t (Ty-F.Name variant) = keeps_if D Claim Q (is_among variant passed) _ _ (λ _. tt) (λ _. (
      (λ c h. keeps_asks D Claim Q (holes_behind w at (passed_on c.whole passed variant) c.fillings c.operands) (λ ms. give (il.Case c.name c.tag (exps ms)) t)
          (λ ms g. of_level S w (il.Case c.name c.tag (exps ms)) _ (il.outs-Case c.name c.tag (exps ms)) tt (holes_names at (passed_on c.whole passed variant) c.fillings c.operands ms g))),
      (λ _. tt),
    ))
    variant_names at passed e t y = tt

    notation_names : (at : Span) (p : Manner) (e : Exp) (t u : Ty) → Kept w (notation_row w at p e t u)
    notation_names at p e t u = ((λ _. variant_names at p.passed e t (out-Ty u)), (λ _. other_names at p e t (out-Ty u)))

    filled_names : (at : Span) (name : List ℕ) (ts : List Ty) (t : Ty) (o : Option (List Filling)) → Kept w (filled_fields w at name ts t o)
    filled_names at name ts t None = tt
    filled_names at name ts t (Some fs) =
        keeps_asks D Claim Q (holes w at fs ts) (λ ms. give (il.Fields name (exps ms)) t)
        (λ ms c. of_level S w (il.Fields name (exps ms)) _ (il.outs-Fields name (exps ms)) tt (holes_names at [] fs ts ms c))

    record_names : (at : Span) (p : Manner) (e : Exp) (given : List (List ℕ × Exp)) (t u : Ty) → Kept w (record_row D w at p e given t u)
    record_names at p e given t u = by (out-Ty t) (fields_of D.types u)
      where
        by : (y : Ty-F Ty) (o : Option (List (List ℕ × Ty))) → Kept w (record_by w at p e given t u y o)
        by (Ty-F.Name name) (Some declared) =
            keeps_shaped D Claim Q (field_types declared) (λ ss. filled_fields w at name (field_types declared) t (aligned (field_names declared) ss given))
            (λ ss. filled_names at name (field_types declared) t (aligned (field_names declared) ss given))
        by (Ty-F.Name name) None = other_names at p e t (out-Ty u)
        by y o = other_names at p e t (out-Ty u)

    -- ---- inferable expressions

    variable_names : (at : Span) (name : List ℕ) (o : Option Ty) → Kept w (variable_row at name o)
    variable_names at name None = tt
    variable_names at name (Some t) = of_level S w (il.Var name) _ (il.outs-Var name) tt none

    inferred_names : (at : Span) (e : Exp) (y : Node-F Count Node Seg Exp) → Kept w (inferred_at D S w at y)
    inferred_names at e (Node-F.Name name) = variable_names at name (variable_type D S w name)
    inferred_names at e (Node-F.Bool truth) = of_level S w (il.Bool truth) _ (il.outs-Bool truth) tt none
    inferred_names at e (Node-F.Number n) = of_level S w (il.Number n) _ (il.outs-Number n) tt none
    inferred_names at e (Node-F.Text text) = of_level S w (il.Text text) _ (il.outs-Text text) tt none
    inferred_names at e (Node-F.Binary l sign r) = binary_names at sign l r (operator_of sign)
    inferred_names at e (Node-F.Not b) = λ m f. of_level S w (il.Not m.exp) _ (il.outs-Not m.exp) tt (alone S w f)
    inferred_names at e (Node-F.Neg b) = negation_names b
    inferred_names at e (Node-F.Arith b) = λ m f. f
    inferred_names at e (Node-F.Paren b) = λ m f. f
    inferred_names at e (Node-F.Tuple es) = inferred_tuple_names es
    inferred_names at e (Node-F.Dot b field) = field_names_kept b at field
    inferred_names at e (Node-F.Node::At b i) = position_names b i
    inferred_names at e (Node-F.Node::Slice b i n) = slice_names b i n
    inferred_names at e (Node-F.Update b path value) = update_names b at path value
    inferred_names at e (Node-F.Extend b path list) = extension_names b at path list
    inferred_names at e (Node-F.Len b) = length_names b
    inferred_names at e (Node-F.Call name es) = call_names at es (fun_named D.funs name)
    inferred_names at e (Node-F.Iter b c) = λ m f. iteration_names c m.exp (iterated_type c m.ty) f
    inferred_names at e y = tt

    -- ---- expressions at a type

    sequence_at_names : (at : Span) (p : Manner) (e : Exp) (es : List Exp) (t u : Ty) (y : Ty-F Ty) → Kept w (sequence_at w at p e es t u y)
    sequence_at_names at p e es t u (Ty-F.List x) = keeps_if D Claim Q (table.is_run es p.in_parentheses) _ _ (λ _. sequence_names at es t x) (λ _. other_names at p e t (Ty-F.List x))
    sequence_at_names at p e es t u y = notation_names at p e t u

    form_names : (at : Span) (p : Manner) (e : Exp) (t u : Ty) (y : Node-F Count Node Seg Exp) → Kept w (form_row D S w at p e t u y)
    form_names at p e t u Node-F.Eps = eps_names at t (out-Ty u)
    form_names at p e t u (Node-F.Binary l sign r) =
        keeps_if D Claim Q (is_concatenation (operator_of sign)) _ _ (λ _. concatenation_names at l r t) (λ _. other_names at p e t (out-Ty u))
    form_names at p e t u (Node-F.Iter b c) = iterated_names at p e b c t (out-Ty u)
    form_names at p e t u (Node-F.Seq es) = sequence_at_names at p e es t u (out-Ty u)
    form_names at p e t u (Node-F.Fields given) = record_names at p e given t u
    form_names at p e t u (Node-F.Atom name) = notation_names at p e t u
    form_names at p e t u (Node-F.Infix l sign r) = notation_names at p e t u
    form_names at p e t u (Node-F.Bracket opening b) = notation_names at p e t u
    form_names at p e t u y = other_names at p e t (out-Ty u)

    plain_names : (at : Span) (p : Manner) (e : Exp) (t : Ty) → Kept w (plain_row D S w at p e t)
    plain_names at p e t = keeps_if D Claim Q (inferable e) _ _ (λ _. λ m h. fitted_names at t m h) (λ _. λ u _. form_names at p e t u (opened e))

    tuple_at_names : (at : Span) (p : Manner) (e : Exp) (es : List Exp) (t : Ty) (y : Ty-F Ty) → Kept w (tuple_at D S w at p e es t y)
    tuple_at_names at p e es t (Ty-F.Tuple ts) =
        keeps_if D Claim Q (nat_eq (length es) (length ts)) _ _
        (λ _. keeps_asks D Claim Q (each_asked w es ts) (λ ms. give (il.Tuple (exps ms)) t) (λ ms c. names_Tuple S w (exps ms) (each_names es ts ms c))) (λ _. plain_names at p e t)
    tuple_at_names at p e es t y = plain_names at p e t

    checked_names : (at : Span) (p : Manner) (e : Exp) (t : Ty) (y : Node-F Count Node Seg Exp) → Kept w (checked_row D S w at p e t y)
    checked_names at p e t (Node-F.Paren b) = λ m f. f
    checked_names at p e t (Node-F.Tuple es) = λ u _. tuple_at_names at p e es t (out-Ty u)
    checked_names at p e t y = plain_names at p e t

  -- ---- all rows

  pub row_names : (q : Question) → Keeps D Claim (Claim q) (row D S q)
  row_names (check w at p e t) = checked_names w at p e t (opened e)
  row_names (infer w at e) = keeps_if D Claim (λ (m : Made). Names S w m.exp) (inferable e) _ _ (λ _. inferred_names w at e (opened e)) (λ _. tt)
  row_names (item w t x e) = item_row_names w t x e
  row_names (hole w at passed filling t) = hole_names w at passed filling t

  -- what answers a question names in each iteration what it iterates
  pub Answered-names : (q : Question) (m : Made) → Answered D S q (Gives m) → Names S (around_of q) m.exp
  Answered-names q m h = Answered-keeps D S Claim row_names q (Gives m) h
