-- Steps that ask only questions of some kind, and the rows of the table that do.
use Rattle.std.proofs.Common.{◌≡◌, refl, ℕ, List, [], ◌∷◌, length, map, Bool, true, false}
use Rattle.std.specs.Prelude.{if◌then◌else◌, Option, Some, None, nat_eq}
use Rattle.std.specs.Map.{lookup}
use Rattle.std.specs.List.{AllByRecursion}
use Rattle.st_num.specs.Names.{same_name, is_among}
use Rattle.st_num.specs.declared.span.Span.{Span}
use Rattle.st_num.specs.declared.mark.Mark.{Mark}
use Rattle.st_num.specs.declared.rule.RuleId.TheVariants.{Y1, Y5}
use Rattle.st_el.specs.declared.expression.Exp.{Exp}
use Rattle.st_el.specs.declared.expression.Node.{Node}
use Rattle.st_el.specs.declared.expression.Count.{Count, out-Count}
use Rattle.st_el.specs.declared.expression.Count.TheOpen.{Count-F, Node-F, Seg-F}
use Rattle.st_el.specs.declared.expression.Seg.{Seg, out-Seg}
use Rattle.st_il.specs.declared.ty.Ty.{Ty, out-Ty}
use Rattle.st_il.specs.declared.ty.Ty.TheOpen.{Ty-F}
use Rattle.st_il.specs.declared.ty.Ty.TheVariants as ty
use Rattle.st_il.specs.declared.ty.NumTy.{NumTy}
use Rattle.st_il.specs.declared.ty.NumTy.TheVariants as number
use Rattle.st_il.specs.declared.definition.FunDef.{FunDef}
use Rattle.st_il.specs.declared.expression.IlExp.{IlExp}
use Rattle.st_il.specs.declared.expression.IlExp.TheVariants as il
use Rattle.st_il.specs.declared.expression.Iteration.{Iteration}
use Rattle.st_il.specs.declared.expression.Iteration.TheVariants as times
use Rattle.st_il.specs.declared.expression.PathSeg.{PathSeg}
use Rattle.st_il.specs.declared.expression.PathSeg.TheVariants as step
use Rattle.st_type_table.specs.Meaning.{Means, fields_of}
use Rattle.st_dims.specs.declared.within.Within.{Within}
use Rattle.st_dims.specs.Around.{inside}
use Rattle.st_notation.specs.declared.filled.Shape.{Shape}
use Rattle.st_notation.specs.Elements.{opened}
use Rattle.st_elab_table.specs.declared.decls.Decls.{Decls}
use Rattle.st_elab_table.specs.declared.decls.Scope.{Scope}
use Rattle.st_elab_table.specs.declared.operator.Operator.{Operator}
use Rattle.st_elab_table.specs.declared.operator.Operator.TheVariants as operator
use Rattle.st_elab_table.specs.Forms.{place, inferable, is_concatenation, is_spliced, is_told_by_type, goes_over_list}
use Rattle.st_elab_table.specs.Operators.{operator_of, equated, ordered, reckoned}
use Rattle.st_elab_table.specs.Iterations.{iterated_type}
use Rattle.st_elab_table.specs.Choice.{shape_of, IsCaseOf}
use Rattle.st_elab_table.specs.Questions.{Manner, Question, check, infer, item, Made, Chosen, Step, Ends, Asks, Tests, Opens, Fills, asks}
use Rattle.st_elab_table.specs.Steps.{breach, made, give, list_of_one, injected, wider, number_type, enclosed, asked, found, by_itself, each_asked, is_collection_at, is_collection, list_at, as_list, number_at, as_number, larger, raised, lifted_to, lifted_at, fitted, joined_at, as_joined}
use Rattle.st_elab_table.specs.Collections.{element, other_row, eps_row, concatenation_row, splice, counted_at, iteration, body_row, iteration_row, sequence, found_item, item_row, is_run, run_at}
use Rattle.st_elab_table.specs.Records.{aligned, shaped, filled_fields, record_by, case_row, variant_row, notation_row}
use Rattle.st_elab_table.specs.Paths.{declared_field, field_by, as_field, step_row, along}
use Rattle.st_elab_table.specs.Operands.{compared, beside, equation_row, membership_row, numeric, both_numeric, concatenated, binary_row}
use Rattle.st_elab_table.specs.Inferred.{fun_named, variable_type, variable_row, call_row, inferred_at, inferred_row}
use Rattle.st_elab_table.specs.Checked.{sequence_at, form_row, plain_row, tuple_at, checked_row}
use Rattle.st_elab_table.specs.Elaboration.{Holds}

-- P holds of each question that the steps ask, whatever is answered to those before it.
abbrev pub AsksOnly : Decls → (Question → Type 0) → Step → Type 0
AsksOnly D P (Ends a) = Unit {0}
AsksOnly D P (Asks q next) = P q × ((m : Made) → AsksOnly D P (next m))
AsksOnly D P (Tests c first second) = (Holds D c → AsksOnly D P first) × ((Holds D c → ⊥) → AsksOnly D P second)
AsksOnly D P (Opens t next) = (u : Ty) → Means D.types t u → AsksOnly D P (next u)
AsksOnly D P (Fills t e next unfit) =
    ((c : Chosen) → IsCaseOf D.types t e c → AsksOnly D P (next c)) × (((c : Chosen) → IsCaseOf D.types t e c → ⊥) → AsksOnly D P unfit)

-- P holds of each question about the expression, at a type or for its type.
pub record IsAskable (P : Question → Type 0) (e : Exp) : Type 0 where
  pub checked : (w : Within) (at : Span) (p : Manner) (t : Ty) → P (check w at p e t)
  pub found : (w : Within) (at : Span) → P (infer w at e)

-- what the count of an iteration has in it is askable
abbrev pub CountAskable : (Question → Type 0) → Count-F Count Node Seg Exp → Type 0
CountAskable P (Count-F.Times n) = IsAskable P n
CountAskable P (Count-F.Below i n) = IsAskable P n
CountAskable P Count-F.Star = Unit {0}
CountAskable P Count-F.Plus = Unit {0}
CountAskable P Count-F.Quest = Unit {0}

-- what a step of a path has in it is askable
abbrev pub StepAskable : (Question → Type 0) → Seg-F Count Node Seg Exp → Type 0
StepAskable P (Seg-F.Field name) = Unit {0}
StepAskable P (Seg-F.Seg::At i) = IsAskable P i
StepAskable P (Seg-F.Seg::Slice i n) = IsAskable P i × IsAskable P n

abbrev pub AllAskable : (Question → Type 0) → List Exp → Type 0
AllAskable P = AllByRecursion (IsAskable P)

abbrev pub PathAskable : (Question → Type 0) → List Seg → Type 0
PathAskable P = AllByRecursion (λ (s : Seg). StepAskable P (out-Seg s))

abbrev pub FieldsAskable : (Question → Type 0) → List (List ℕ × Exp) → Type 0
FieldsAskable P = AllByRecursion (λ (f : List ℕ × Exp). IsAskable P f.1)

-- the parts of a node are askable
abbrev pub PartsAskable : (Question → Type 0) → Node-F Count Node Seg Exp → Type 0
PartsAskable P (Node-F.Name name) = Unit {0}
PartsAskable P (Node-F.Atom name) = Unit {0}
PartsAskable P (Node-F.Bool truth) = Unit {0}
PartsAskable P (Node-F.Number n) = Unit {0}
PartsAskable P (Node-F.Text text) = Unit {0}
PartsAskable P Node-F.Eps = Unit {0}
PartsAskable P (Node-F.Seq es) = AllAskable P es
PartsAskable P (Node-F.Infix l sign r) = IsAskable P l × IsAskable P r
PartsAskable P (Node-F.Binary l sign r) = IsAskable P l × IsAskable P r
PartsAskable P (Node-F.Not e) = IsAskable P e
PartsAskable P (Node-F.Neg e) = IsAskable P e
PartsAskable P (Node-F.Arith e) = IsAskable P e
PartsAskable P (Node-F.Paren e) = IsAskable P e
PartsAskable P (Node-F.Bracket opening e) = IsAskable P e
PartsAskable P (Node-F.Tuple es) = AllAskable P es
PartsAskable P (Node-F.Fields fs) = FieldsAskable P fs
PartsAskable P (Node-F.Dot e field) = IsAskable P e
PartsAskable P (Node-F.Node::At e i) = IsAskable P e × IsAskable P i
PartsAskable P (Node-F.Node::Slice e i n) = IsAskable P e × IsAskable P i × IsAskable P n
PartsAskable P (Node-F.Update e path x) = IsAskable P e × PathAskable P path × IsAskable P x
PartsAskable P (Node-F.Extend e path x) = IsAskable P e × PathAskable P path × IsAskable P x
PartsAskable P (Node-F.Len e) = IsAskable P e
PartsAskable P (Node-F.Call name es) = AllAskable P es
PartsAskable P (Node-F.Iter b c) = IsAskable P b × CountAskable P (out-Count c)

module _ (D : Decls) (P : Question → Type 0) where
  -- ---- steps

  only_if : (b : Bool) (s u : Step) → (b ≡ true → AsksOnly D P s) → (b ≡ false → AsksOnly D P u) → AsksOnly D P (if b then s else u)
  only_if true s u h k = h refl
  only_if false s u h k = k refl

  pub only_asks : (qs : List Question) (next : List Made → Step) → AllByRecursion P qs → ((ms : List Made) → AsksOnly D P (next ms)) → AsksOnly D P (asks qs next)
  only_asks [] next h k = k []
  only_asks (q ∷ qs) next h k = (h.0, λ m. only_asks qs (λ ms. next (m ∷ ms)) h.1 (λ ms. k (m ∷ ms)))

  only_list : (at : Span) (t : Ty) (next : Ty → Step) → ((x : Ty) → AsksOnly D P (next x)) → AsksOnly D P (as_list at t next)
  only_list at t next h = λ u m. by (out-Ty u)
    where
      by : (y : Ty-F Ty) → AsksOnly D P (list_at at next y)
      by (Ty-F.List x) = h x
      by y = tt

  only_number : (at : Span) (t : Ty) (next : NumTy → Step) → ((n : NumTy) → AsksOnly D P (next n)) → AsksOnly D P (as_number at t next)
  only_number at t next h = λ u m. by (out-Ty u)
    where
      by : (y : Ty-F Ty) → AsksOnly D P (number_at at next y)
      by Ty-F.Nat = h number.Nat
      by Ty-F.Int = h number.Int
      by y = tt

  only_larger : (a b : Ty) (next : Ty → Step) (none : Step) → ((t : Ty) → AsksOnly D P (next t)) → AsksOnly D P none → AsksOnly D P (larger a b next none)
  only_larger a b next none h k = ((λ _. h a), (λ _. ((λ _. h b), (λ _. k))))

  only_field : (at whole : Span) (name : List ℕ) (t : Ty) (next : Ty → Step) → ((x : Ty) → AsksOnly D P (next x)) → AsksOnly D P (as_field D at whole name t next)
  only_field at whole name t next h = λ u m. by (fields_of D.types u)
    where
      declared : (o : Option Ty) → AsksOnly D P (declared_field whole next o)
      declared None = tt
      declared (Some x) = h x

      by : (o : Option (List (List ℕ × Ty))) → AsksOnly D P (field_by at whole name next o)
      by None = tt
      by (Some fields) = declared (lookup (same_name name) fields)

  only_raised : (m : Made) (t : Ty) (next : IlExp → Step) → ((x : IlExp) → AsksOnly D P (next x)) → AsksOnly D P (raised m t next)
  only_raised m t next h = ((λ _. h m.exp), (λ _. h (il.Up t m.exp)))

  only_joined : (at : Span) (t : Ty) (next : (IlExp → IlExp → IlExp) → Step) → ((join : IlExp → IlExp → IlExp) → AsksOnly D P (next join)) → AsksOnly D P (as_joined at t next)
  only_joined at t next h = λ u m. by (out-Ty u)
    where
      by : (y : Ty-F Ty) → AsksOnly D P (joined_at at t next y)
      by (Ty-F.List x) = h il.Cat
      by y = ((λ _. h il.Join), (λ _. tt))

  only_lifted : (at : Span) (m : Made) (t x : Ty) (lift : IlExp → IlExp) → AsksOnly D P (lifted_to at m t x lift)
  only_lifted at m t x lift = λ v _. only_if (is_collection v) _ _ (λ _. tt) (λ _. ((λ _. only_raised m x (λ y. give (lift y) t) (λ y. tt)), (λ _. tt)))

  only_fitted : (at : Span) (t : Ty) (m : Made) → AsksOnly D P (fitted at t m)
  only_fitted at t m = ((λ _. tt), (λ _. ((λ _. tt), (λ _. λ u _. by (out-Ty u)))))
    where
      by : (y : Ty-F Ty) → AsksOnly D P (lifted_at at m t y)
      by (Ty-F.List x) = only_lifted at m t x (list_of_one x)
      by (Ty-F.Opt x) = only_lifted at m t x il.Present
      by y = tt

  only_shaped : (ts : List Ty) (next : List Shape → Step) → ((ss : List Shape) → AsksOnly D P (next ss)) → AsksOnly D P (shaped ts next)
  only_shaped [] next h = h []
  only_shaped (t ∷ ts) next h = λ u _. only_shaped ts (λ ss. next (shape_of u ∷ ss)) (λ ss. h (shape_of u ∷ ss))

  -- ---- questions about parts

  at_type : (e : Exp) → IsAskable P e → (w : Within) (t : Ty) → P (asked w e t)
  at_type e g w t = g.checked w (place e) by_itself t

  with_own : (e : Exp) → IsAskable P e → (w : Within) → P (found w e)
  with_own e g w = g.found w (place e)

  each_at_type : (w : Within) (es : List Exp) (ts : List Ty) → AllAskable P es → AllByRecursion P (each_asked w es ts)
  each_at_type w [] ts g = tt
  each_at_type w (e ∷ es) [] g = tt
  each_at_type w (e ∷ es) (t ∷ ts) g = (at_type e g.0 w t, each_at_type w es ts g.1)

  each_with_own : (w : Within) (es : List Exp) → AllAskable P es → AllByRecursion P (map (found w) es)
  each_with_own w [] g = tt
  each_with_own w (e ∷ es) g = (with_own e g.0 w, each_with_own w es g.1)

  -- ---- operators

  only_compared : (at : Span) (sign : Mark) (a b : Made) → AsksOnly D P (compared at sign a b)
  only_compared at sign a b = only_larger a.ty b.ty
      (λ t. raised a t (λ x. raised b t (λ y. give (equated sign x y) ty.Bool))) (breach at Y1)
      (λ t. only_raised a t (λ x. raised b t (λ y. give (equated sign x y) ty.Bool)) (λ x. only_raised b t (λ y. give (equated sign x y) ty.Bool) (λ y. tt))) tt

  only_concatenated : (at : Span) (a b : Made) → AsksOnly D P (concatenated at a b)
  only_concatenated at a b = only_larger a.ty b.ty
      (λ t. as_joined at t (λ join. raised a t (λ x. raised b t (λ y. give (join x y) t)))) (breach at Y5)
      (λ t. only_joined at t (λ join. raised a t (λ x. raised b t (λ y. give (join x y) t)))
      (λ join. only_raised a t (λ x. raised b t (λ y. give (join x y) t)) (λ x. only_raised b t (λ y. give (join x y) t) (λ y. tt)))) tt

  only_numeric : (w : Within) (e : Exp) (next : Made → NumTy → Step) → IsAskable P e → ((m : Made) (n : NumTy) → AsksOnly D P (next m n)) → AsksOnly D P (numeric w e next)
  only_numeric w e next g h = (with_own e g w, λ m. only_number (place e) m.ty (next m) (h m))

  module _ (w : Within) (at : Span) (sign : Mark) (l r : Exp) (gl : IsAskable P l) (gr : IsAskable P r) where
    only_beside : (a : Made) → AsksOnly D P (beside w at sign r a)
    only_beside a = only_if (inferable r) _ _ (λ _. (with_own r gr w, λ b. only_compared at sign a b)) (λ _. (at_type r gr w a.ty, λ b. tt))

    only_equation : AsksOnly D P (equation_row w at sign l r)
    only_equation = only_if (inferable l) _ _ (λ _. (with_own l gl w, λ a. only_beside a))
        (λ _. only_if (inferable r) _ _ (λ _. (with_own r gr w, λ b. (at_type l gl w b.ty, λ a. tt))) (λ _. tt))

    only_membership : AsksOnly D P (membership_row w at l r)
    only_membership = only_if (inferable r) _ _ (λ _. (with_own r gr w, λ b. only_list (place r) b.ty _ (λ x. (at_type l gl w x, λ a. tt))))
        (λ _. only_if (inferable l) _ _ (λ _. (with_own l gl w, λ a. (at_type r gr w (ty.List a.ty), λ b. tt))) (λ _. tt))

    only_both : (next : NumTy → IlExp → IlExp → Step) → ((n : NumTy) (x y : IlExp) → AsksOnly D P (next n x y)) → AsksOnly D P (both_numeric w l r next)
    only_both next h =
        only_numeric w l (λ a m. numeric w r (λ b n. next (wider m n) (injected m (wider m n) a.exp) (injected n (wider m n) b.exp))) gl
        (λ a m. only_numeric w r (λ b n. next (wider m n) (injected m (wider m n) a.exp) (injected n (wider m n) b.exp)) gr (λ b n. h (wider m n) (injected m (wider m n) a.exp) (injected n (wider m n) b.exp)))

    only_binary : (o : Operator) → AsksOnly D P (binary_row w at sign l r o)
    only_binary operator.Logic = (at_type l gl w ty.Bool, λ a. (at_type r gr w ty.Bool, λ b. tt))
    only_binary operator.Equation = only_equation
    only_binary operator.Order = only_both (λ n x y. give (ordered sign x y) ty.Bool) (λ n x y. tt)
    only_binary operator.Membership = only_membership
    only_binary operator.Concatenation = (with_own l gl w, λ a. (with_own r gr w, λ b. only_concatenated at a b))
    only_binary operator.Arithmetic = only_both (λ n x y. give (reckoned sign n x y) (number_type n)) (λ n x y. tt)
    only_binary operator.Power =
        only_numeric w l (λ a n. Asks (asked w r ty.Nat) (λ b. give (il.Pow n a.exp b.exp) (number_type n))) gl (λ a n. (at_type r gr w ty.Nat, λ b. tt))
    only_binary operator.Other = tt

  -- ---- iterations

  only_counted : (w : Within) (c : Count-F Count Node Seg Exp) (next : Iteration → Step) → CountAskable P c → ((k : Iteration) → AsksOnly D P (next k)) → AsksOnly D P (counted_at w c next)
  only_counted w Count-F.Star next g h = h times.Star
  only_counted w Count-F.Plus next g h = h times.Plus
  only_counted w Count-F.Quest next g h = h times.Quest
  only_counted w (Count-F.Times n) next g h = (at_type n g w ty.Nat, λ m. h (times.Times m.exp))
  only_counted w (Count-F.Below i n) next g h = (at_type n g w ty.Nat, λ m. h (times.Below i m.exp))

  only_iteration : (S : Scope) (w : Within) (c : Count) (body : IlExp) (t : Ty) → CountAskable P (out-Count c) → AsksOnly D P (iteration S w c body t)
  only_iteration S w c body t g = only_counted w (out-Count c) _ g (λ k. tt)

  -- ---- paths

  only_step : (w : Within) (at : Span) (t : Ty) (next : PathSeg → Ty → Step) (y : Seg-F Count Node Seg Exp) → StepAskable P y → ((p : PathSeg) (u : Ty) → AsksOnly D P (next p u)) → AsksOnly D P (step_row D w at t next y)
  only_step w at t next (Seg-F.Field name) g h = only_field at at name t _ (λ x. h (step.Field name) x)
  only_step w at t next (Seg-F.Seg::At i) g h = only_list at t _ (λ x. (at_type i g w ty.Nat, λ a. h (step.At a.exp) x))
  only_step w at t next (Seg-F.Seg::Slice i n) g h = only_list at t _ (λ x. (at_type i g.0 w ty.Nat, λ a. (at_type n g.1 w ty.Nat, λ b. h (step.Slice a.exp b.exp) t)))

  only_along : (w : Within) (at : Span) (path : List Seg) (t : Ty) (next : List PathSeg → Ty → Step) → PathAskable P path → ((ps : List PathSeg) (u : Ty) → AsksOnly D P (next ps u)) → AsksOnly D P (along D w at path t next)
  only_along w at [] t next g h = h [] t
  only_along w at (s ∷ path) t next g h = only_step w at t _ (out-Seg s) g.0 (λ p u. only_along w at path u (λ ps v. next (p ∷ ps) v) g.1 (λ ps v. h (p ∷ ps) v))

  -- ---- expressions whose type is asked for

  only_variable : (at : Span) (name : List ℕ) (o : Option Ty) → AsksOnly D P (variable_row at name o)
  only_variable at name None = tt
  only_variable at name (Some t) = tt

  only_call : (w : Within) (at : Span) (es : List Exp) (o : Option FunDef) → AllAskable P es → AsksOnly D P (call_row w at es o)
  only_call w at es None g = tt
  only_call w at es (Some f) g = only_if (nat_eq (length es) (length f.params)) _ _ (λ _. only_asks (each_asked w es f.params) _ (each_at_type w es f.params g) (λ ms. tt)) (λ _. tt)

  only_inferred : (S : Scope) (w : Within) (at : Span) (y : Node-F Count Node Seg Exp) → PartsAskable P y → AsksOnly D P (inferred_at D S w at y)
  only_inferred S w at (Node-F.Name name) g = only_variable at name (variable_type D S w name)
  only_inferred S w at (Node-F.Bool truth) g = tt
  only_inferred S w at (Node-F.Number n) g = tt
  only_inferred S w at (Node-F.Text text) g = tt
  only_inferred S w at (Node-F.Binary l sign r) g = only_binary w at sign l r g.0 g.1 (operator_of sign)
  only_inferred S w at (Node-F.Not e) g = (at_type e g w ty.Bool, λ m. tt)
  only_inferred S w at (Node-F.Neg e) g = only_numeric w e (λ m n. give (il.Neg (injected n number.Int m.exp)) ty.Int) g (λ m n. tt)
  only_inferred S w at (Node-F.Arith e) g = (with_own e g w, λ m. tt)
  only_inferred S w at (Node-F.Paren e) g = (g.found w at, λ m. tt)
  only_inferred S w at (Node-F.Tuple es) g = only_asks (map (found w) es) _ (each_with_own w es g) (λ ms. tt)
  only_inferred S w at (Node-F.Dot e field) g = (with_own e g w, λ m. only_field (place e) at field m.ty _ (λ x. tt))
  only_inferred S w at (Node-F.Node::At e i) g = (with_own e g.0 w, λ m. only_list (place e) m.ty _ (λ x. (at_type i g.1 w ty.Nat, λ a. tt)))
  only_inferred S w at (Node-F.Node::Slice e i n) g = (with_own e g.0 w, λ m. only_list (place e) m.ty _ (λ x. (at_type i g.1 w ty.Nat, λ a. (at_type n g.2 w ty.Nat, λ b. tt))))
  only_inferred S w at (Node-F.Update e path x) g = (with_own e g.0 w, λ m. only_along w at path m.ty _ g.1 (λ ps t. (at_type x g.2 w t, λ v. tt)))
  only_inferred S w at (Node-F.Extend e path x) g = (with_own e g.0 w, λ m. only_along w at path m.ty _ g.1 (λ ps t. only_list at t _ (λ y. (at_type x g.2 w t, λ v. tt))))
  only_inferred S w at (Node-F.Len e) g = (with_own e g w, λ m. only_list (place e) m.ty _ (λ x. tt))
  only_inferred S w at (Node-F.Call name es) g = only_call w at es (fun_named D.funs name) g
  only_inferred S w at (Node-F.Iter b c) g = (with_own b g.0 (inside w c), λ m. only_iteration S w c m.exp (iterated_type c m.ty) g.1)
  only_inferred S w at y g = tt

  pub only_inferred_row : (S : Scope) (w : Within) (at : Span) (e : Exp) (y : Node-F Count Node Seg Exp) → PartsAskable P y → AsksOnly D P (inferred_row D S w at e y)
  only_inferred_row S w at e y g = only_if (inferable e) _ _ (λ _. only_inferred S w at y g) (λ _. tt)

  -- ---- items

  only_found_item : (at : Span) (t x : Ty) (m : Made) → AsksOnly D P (found_item at t x m)
  only_found_item at t x m = ((λ _. only_raised m x (λ y. give y x) (λ y. tt)), (λ _. ((λ _. only_raised m t (λ y. splice (made y t)) (λ y. tt)), (λ _. tt))))

  pub only_item : (w : Within) (t x : Ty) (e : Exp) → IsAskable P e → AsksOnly D P (item_row w t x e)
  only_item w t x e g = only_if (is_spliced e) _ _ (λ _. (at_type e g w t, λ m. tt))
      (λ _. only_if (is_told_by_type e) _ _ (λ _. (with_own e g w, λ m. only_found_item (place e) t x m)) (λ _. (at_type e g w x, λ m. tt)))

  pub only_sequence : (w : Within) (at : Span) (es : List Exp) (t x : Ty) → AllByRecursion P (map (item w t x) es) → AsksOnly D P (sequence w at es t x)
  only_sequence w at es t x g = λ v _. only_if (is_collection v) _ _ (λ _. tt) (λ _. only_asks (map (item w t x) es) _ g (λ ms. tt))

  pub only_run_at : (w : Within) (at : Span) (es : List Exp) (t : Ty) (y : Ty-F Ty) → ((x : Ty) → AllByRecursion P (map (item w t x) es)) → AsksOnly D P (run_at w at es t y)
  only_run_at w at es t (Ty-F.List x) g = only_sequence w at es t x (g x)
  only_run_at w at es t y g = tt

  -- ---- an expression at a type

  -- P holds of the question about the expression at each type that is no list and no option
  abbrev pub AskableAlone : Within → Span → Manner → Exp → Type 0
  AskableAlone w at p e = (x v : Ty) → Means D.types x v → is_collection v ≡ false → P (check w at p e x)

  only_element : (w : Within) (at : Span) (p : Manner) (e : Exp) (t x : Ty) (lift : IlExp → IlExp) → AskableAlone w at p e → AsksOnly D P (element w at p e t x lift)
  only_element w at p e t x lift g = λ v means. only_if (is_collection v) _ _ (λ _. tt) (λ no. (g x v means no, λ m. tt))

  pub only_other : (w : Within) (at : Span) (p : Manner) (e : Exp) (t : Ty) (y : Ty-F Ty) → AskableAlone w at p e → AsksOnly D P (other_row w at p e t y)
  only_other w at p e t (Ty-F.List x) g = only_element w at p e t x _ g
  only_other w at p e t (Ty-F.Opt x) g = only_element w at p e t x _ g
  only_other w at p e t y g = tt

  -- at a type that is no list and no option, nothing is asked as one element
  pub only_plain : (w : Within) (at : Span) (p : Manner) (e : Exp) (t u : Ty) → is_collection u ≡ false → AsksOnly D P (other_row w at p e t (out-Ty u))
  only_plain w at p e t u plain = by (out-Ty u) plain
    where
      by : (y : Ty-F Ty) → is_collection_at y ≡ false → AsksOnly D P (other_row w at p e t y)
      by (Ty-F.List x) is = absurd (cc)
      by (Ty-F.Opt x) is = absurd (cc)
      by y is = tt

  -- what the expression is asked at the type t, where it is no part of another
  pub record AreAskable (w : Within) (at : Span) (p : Manner) (e : Exp) (t : Ty) : Type 0 where
    pub parts : (y : Node-F Count Node Seg Exp) → opened e ≡ y → PartsAskable P y
    pub own : P (infer w at e)
    pub items : (es : List Exp) → opened e ≡ Node-F.Seq es → (x : Ty) → AllByRecursion P (map (item w t x) es)
    pub others : (u : Ty) → Means D.types t u → AsksOnly D P (other_row w at p e t (out-Ty u))
    pub fields : (fs : List (List ℕ × Exp)) → opened e ≡ Node-F.Fields fs → (name : List ℕ) (declared : List (List ℕ × Ty)) (ss : List Shape) → AsksOnly D P (filled_fields w at name (map (λ (f : List ℕ × Ty). f.1) declared) t (aligned (map (λ (f : List ℕ × Ty). f.0) declared) ss fs))
    pub cases : (u : Ty) (variant : List ℕ) → Means D.types t u → out-Ty u ≡ Ty-F.Name variant → is_among variant p.passed ≡ false → AsksOnly D P (case_row w at p.passed e t variant)

  module _ (S : Scope) (w : Within) (at : Span) (p : Manner) (e : Exp) (t : Ty) (g : AreAskable w at p e t) where
    only_notation : (u : Ty) → Means D.types t u → AsksOnly D P (notation_row w at p e t u)
    only_notation u means = ((λ _. by (out-Ty u) refl), (λ _. g.others u means))
      where
        by : (y : Ty-F Ty) → out-Ty u ≡ y → AsksOnly D P (variant_row w at p.passed e t y)
        by (Ty-F.Name variant) is = only_if (is_among variant p.passed) _ _ (λ _. tt) (λ fresh. g.cases u variant means is fresh)
        by y is = tt

    only_body : (b : Exp) (c : Count) (x : Ty) → IsAskable P b → CountAskable P (out-Count c) → AsksOnly D P (body_row S w b c x t)
    only_body b c x gb gc = (at_type b gb (inside w c) x, λ m. only_iteration S w c m.exp t gc)

    only_iterated : (b : Exp) (c : Count) (y : Ty-F Ty) → IsAskable P b → CountAskable P (out-Count c) → AsksOnly D P (other_row w at p e t y) → AsksOnly D P (iteration_row S w at p e b c t y)
    only_iterated b c (Ty-F.List x) gb gc other = only_if (goes_over_list (out-Count c)) _ _ (λ _. only_body b c x gb gc) (λ _. other)
    only_iterated b c (Ty-F.Opt x) gb gc other = only_if (goes_over_list (out-Count c)) _ _ (λ _. other) (λ _. only_body b c x gb gc)
    only_iterated b c y gb gc other = other

    only_eps : (y : Ty-F Ty) → AsksOnly D P (eps_row at t y)
    only_eps (Ty-F.List x) = tt
    only_eps (Ty-F.Opt x) = tt
    only_eps y = tt

    only_sequence_at : (es : List Exp) (u : Ty) (y : Ty-F Ty) → opened e ≡ Node-F.Seq es → Means D.types t u → AsksOnly D P (other_row w at p e t y) → AsksOnly D P (sequence_at w at p e es t u y)
    only_sequence_at es u (Ty-F.List x) is means other = only_if (is_run es p.in_parentheses) _ _ (λ _. only_sequence w at es t x (g.items es is x)) (λ _. other)
    only_sequence_at es u y is means other = only_notation u means

    only_record : (fs : List (List ℕ × Exp)) (u : Ty) (y : Ty-F Ty) (o : Option (List (List ℕ × Ty))) → opened e ≡ Node-F.Fields fs → Means D.types t u → AsksOnly D P (record_by w at p e fs t u y o)
    only_record fs u (Ty-F.Name name) (Some declared) is means = only_shaped (map (λ (f : List ℕ × Ty). f.1) declared) _ (λ ss. g.fields fs is name declared ss)
    only_record fs u (Ty-F.Name name) None is means = g.others u means
    only_record fs u y o is means = g.others u means

    only_sides : (l r : Exp) → IsAskable P l → IsAskable P r → AsksOnly D P (concatenation_row w at l r t)
    only_sides l r gl gr =
        only_joined at t (λ join. Asks (asked w l t) (λ a. Asks (asked w r t) (λ b. give (join a.exp b.exp) t))) (λ join. (at_type l gl w t, λ a. (at_type r gr w t, λ b. tt)))

    only_form : (u : Ty) (y : Node-F Count Node Seg Exp) → opened e ≡ y → Means D.types t u → AsksOnly D P (form_row D S w at p e t u y)
    only_form u Node-F.Eps is means = only_eps (out-Ty u)
    only_form u (Node-F.Binary l sign r) is means = only_if (is_concatenation (operator_of sign)) _ _
        (λ _. only_sides l r (g.parts (Node-F.Binary l sign r) is).0 (g.parts (Node-F.Binary l sign r) is).1) (λ _. g.others u means)
    only_form u (Node-F.Iter b c) is means = only_iterated b c (out-Ty u) (g.parts (Node-F.Iter b c) is).0 (g.parts (Node-F.Iter b c) is).1 (g.others u means)
    only_form u (Node-F.Seq es) is means = only_sequence_at es u (out-Ty u) is means (g.others u means)
    only_form u (Node-F.Fields fs) is means = only_record fs u (out-Ty t) (fields_of D.types u) is means
    only_form u (Node-F.Atom name) is means = only_notation u means
    only_form u (Node-F.Infix l sign r) is means = only_notation u means
    only_form u (Node-F.Bracket opening b) is means = only_notation u means
    only_form u y is means = g.others u means

    only_at_form : AsksOnly D P (plain_row D S w at p e t)
    only_at_form = only_if (inferable e) _ _ (λ _. (g.own, λ m. only_fitted at t m)) (λ _. λ u means. only_form u (opened e) refl means)

    only_tuple : (es : List Exp) (y : Ty-F Ty) → AllAskable P es → AsksOnly D P (tuple_at D S w at p e es t y)
    only_tuple es (Ty-F.Tuple ts) gs = only_if (nat_eq (length es) (length ts)) _ _ (λ _. only_asks (each_asked w es ts) _ (each_at_type w es ts gs) (λ ms. tt)) (λ _. only_at_form)
    only_tuple es y gs = only_at_form

    pub only_checked : (y : Node-F Count Node Seg Exp) → opened e ≡ y → AsksOnly D P (checked_row D S w at p e t y)
    only_checked (Node-F.Paren inner) is = ((g.parts (Node-F.Paren inner) is).checked w at (enclosed p) t, λ m. tt)
    only_checked (Node-F.Tuple es) is = λ u _. only_tuple es (out-Ty u) (g.parts (Node-F.Tuple es) is)
    only_checked y is = only_at_form
