-- Each row of the table asks at places of its question, and its breaches stand at them.
use Rattle.std.proofs.Common.{ℕ, List, [], ◌∷◌, length, map, Bool, true, false}
use Rattle.std.specs.Prelude.{if◌then◌else◌, Option, Some, None, nat_eq}
use Rattle.std.specs.Map.{lookup}
use Rattle.std.specs.Option.{option_map}
use Rattle.std.specs.List.{AllByRecursion}
use Rattle.st_num.specs.Names.{same_name, is_among}
use Rattle.st_num.specs.declared.span.Span.{Span}
use Rattle.st_num.specs.declared.mark.Mark.{Mark}
use Rattle.st_num.specs.declared.rule.RuleId.TheVariants.{Y1, Y5}
use Rattle.st_el.specs.declared.expression.Exp.{Exp}
use Rattle.st_el.specs.declared.expression.Node.{Node}
use Rattle.st_el.specs.declared.expression.Count.{Count, out-Count}
use Rattle.st_el.specs.declared.expression.Count.TheOpen.{Count-F, Node-F, Seg-F}
use Rattle.st_el.specs.declared.expression.Seg.{Seg, out-Seg}
use Rattle.st_il.specs.declared.ty.Ty.{Ty, out-Ty}
use Rattle.st_il.specs.declared.ty.Ty.TheOpen.{Ty-F}
use Rattle.st_il.specs.declared.ty.Ty.TheVariants as ty
use Rattle.st_il.specs.declared.ty.NumTy.{NumTy}
use Rattle.st_il.specs.declared.ty.NumTy.TheVariants as number
use Rattle.st_il.specs.declared.definition.FunDef.{FunDef}
use Rattle.st_il.specs.declared.expression.IlExp.{IlExp}
use Rattle.st_il.specs.declared.expression.IlExp.TheVariants as il
use Rattle.st_il.specs.declared.expression.Iteration.{Iteration}
use Rattle.st_il.specs.declared.expression.Iteration.TheVariants as times
use Rattle.st_il.specs.declared.expression.PathSeg.{PathSeg}
use Rattle.st_il.specs.declared.expression.PathSeg.TheVariants as step
use Rattle.st_type_table.specs.Meaning.{fields_of}
use Rattle.st_dims.specs.declared.within.Within.{Within}
use Rattle.st_dims.specs.Around.{inside}
use Rattle.st_notation.specs.declared.filled.Shape.{Shape}
use Rattle.st_notation.specs.Elements.{opened, bare}
use Rattle.st_notation.specs.Fits.{Filling, one, run, missing}
use Rattle.st_elab_table.specs.declared.decls.Decls.{Decls}
use Rattle.st_elab_table.specs.declared.decls.Scope.{Scope}
use Rattle.st_elab_table.specs.declared.operator.Operator.{Operator}
use Rattle.st_elab_table.specs.declared.operator.Operator.TheVariants as operator
use Rattle.st_elab_table.specs.Forms.{place, inferable, is_concatenation, is_spliced, is_told_by_type, goes_over_list}
use Rattle.st_elab_table.specs.Operators.{operator_of, equated, ordered, reckoned}
use Rattle.st_elab_table.specs.Iterations.{iterated_type}
use Rattle.st_elab_table.specs.Choice.{shape_of, IsCaseOf}
use Rattle.st_elab_table.specs.Questions.{Manner, Question, check, infer, item, hole, Made, Answer, Gives, Fails, Chosen, Step, Ends, Asks, Tests, Opens, Fills, asks}
use Rattle.st_elab_table.specs.Steps.{breach, made, give, list_of_one, injected, wider, number_type, asked, found, each_asked, holes_behind, holes, exps as exps_of, is_collection, list_at, as_list, number_at, as_number, larger, raised, lifted_to, lifted_at, fitted, joined_at, as_joined}
use Rattle.st_elab_table.specs.Collections.{element, other_row, eps_row, concatenation_row, splice, counted_at, iteration, body_row, iteration_row, sequence, found_item, item_row, is_run, run_at, hole_row}
use Rattle.st_elab_table.specs.Records.{is_omissible, omitted, aligned, shaped, filled_fields, record_by, passed_on, case_row, variant_row, notation_row}
use Rattle.st_elab_table.specs.Paths.{declared_field, field_by, as_field, step_row, along}
use Rattle.st_elab_table.specs.Operands.{compared, beside, equation_row, membership_row, numeric, both_numeric, concatenated, binary_row}
use Rattle.st_elab_table.specs.Inferred.{fun_named, variable_type, variable_row, call_row, inferred_at}
use Rattle.st_elab_table.specs.Checked.{sequence_at, form_row, plain_row, tuple_at, checked_row}
use Rattle.st_elab_table.specs.Elaboration.{row}
use Rattle.st_elab_law.proofs.ExpStands.{ExpStands, NodeStands, of_seq, of_binary, of_not, of_neg, of_arith, of_paren, of_tuple, of_fields, of_dot, of_at, of_slice, of_update, of_extend, of_len, of_call, of_iter, ExpsStand, exps, FieldsStand, fields, SegsStand, steps, SegStands, at_position, at_slice, CountStands, by_times, by_below, ExpStands-place, ExpStands-parts}
use Rattle.st_elab_law.proofs.FillingStands.{FillingStands, FillingsStand, ExpStands-bare, Fits-stands}

module _ (D : Decls) (P : Span → Type 0) where
  -- a breach stands at such a place
  abbrev pub AnswerStands : Answer → Type 0
  AnswerStands (Gives m) = Unit {0}
  AnswerStands (Fails b) = P b.at

  -- a question is about what begins at such places
  abbrev pub QuestionStands : Question → Type 0
  QuestionStands (check w at p e t) = P at × ExpStands P e
  QuestionStands (infer w at e) = P at × ExpStands P e
  QuestionStands (item w t x e) = ExpStands P e
  QuestionStands (hole w at passed filling t) = P at × FillingStands P filling

  -- the steps ask such questions, and their breaches stand at such places
  abbrev pub StepStands : Step → Type 0
  StepStands (Ends a) = AnswerStands a
  StepStands (Asks q next) = QuestionStands q × ((m : Made) → StepStands (next m))
  StepStands (Tests c first second) = StepStands first × StepStands second
  StepStands (Opens t next) = (u : Ty) → StepStands (next u)
  StepStands (Fills t e next unfit) = ((c : Chosen) → IsCaseOf D.types t e c → StepStands (next c)) × StepStands unfit

  abbrev QuestionsStand : List Question → Type 0
  QuestionsStand = AllByRecursion QuestionStands

  -- ---- steps

  if_stands : (b : Bool) (s u : Step) → StepStands s → StepStands u → StepStands (if b then s else u)
  if_stands true s u h k = h
  if_stands false s u h k = k

  pub asks_stand : (qs : List Question) (next : List Made → Step) → QuestionsStand qs → ((ms : List Made) → StepStands (next ms)) → StepStands (asks qs next)
  asks_stand [] next h k = k []
  asks_stand (q ∷ qs) next h k = (h.0, λ m. asks_stand qs (λ ms. next (m ∷ ms)) h.1 (λ ms. k (m ∷ ms)))

  list_stands : (at : Span) (t : Ty) (next : Ty → Step) → P at → ((x : Ty) → StepStands (next x)) → StepStands (as_list at t next)
  list_stands at t next p h = λ u. by (out-Ty u)
    where
      by : (y : Ty-F Ty) → StepStands (list_at at next y)
      by (Ty-F.List x) = h x
      by y = p

  number_stands : (at : Span) (t : Ty) (next : NumTy → Step) → P at → ((n : NumTy) → StepStands (next n)) → StepStands (as_number at t next)
  number_stands at t next p h = λ u. by (out-Ty u)
    where
      by : (y : Ty-F Ty) → StepStands (number_at at next y)
      by Ty-F.Nat = h number.Nat
      by Ty-F.Int = h number.Int
      by y = p

  larger_stands : (a b : Ty) (next : Ty → Step) (none : Step) → ((t : Ty) → StepStands (next t)) → StepStands none → StepStands (larger a b next none)
  larger_stands a b next none h k = (h a, (h b, k))

  field_stands : (at whole : Span) (name : List ℕ) (t : Ty) (next : Ty → Step) → P at → P whole → ((x : Ty) → StepStands (next x)) → StepStands (as_field D at whole name t next)
  field_stands at whole name t next p q h = λ u. by (fields_of D.types u)
    where
      declared : (o : Option Ty) → StepStands (declared_field whole next o)
      declared None = q
      declared (Some x) = h x

      by : (o : Option (List (List ℕ × Ty))) → StepStands (field_by at whole name next o)
      by None = p
      by (Some fs) = declared (lookup (same_name name) fs)

  raised_stands : (m : Made) (t : Ty) (next : IlExp → Step) → ((x : IlExp) → StepStands (next x)) → StepStands (raised m t next)
  raised_stands m t next h = (h m.exp, h (il.Up t m.exp))

  joined_stands : (at : Span) (t : Ty) (next : (IlExp → IlExp → IlExp) → Step) → P at → ((join : IlExp → IlExp → IlExp) → StepStands (next join)) → StepStands (as_joined at t next)
  joined_stands at t next p h = λ u. by (out-Ty u)
    where
      by : (y : Ty-F Ty) → StepStands (joined_at at t next y)
      by (Ty-F.List x) = h il.Cat
      by y = (h il.Join, p)

  lifted_stands : (at : Span) (m : Made) (t x : Ty) (lift : IlExp → IlExp) → P at → StepStands (lifted_to at m t x lift)
  lifted_stands at m t x lift p = λ v. if_stands (is_collection v) _ _ p (raised_stands m x (λ y. give (lift y) t) (λ y. tt), p)

  fitted_stands : (at : Span) (t : Ty) (m : Made) → P at → StepStands (fitted at t m)
  fitted_stands at t m p = (tt, (tt, λ u. by (out-Ty u)))
    where
      by : (y : Ty-F Ty) → StepStands (lifted_at at m t y)
      by (Ty-F.List x) = lifted_stands at m t x (list_of_one x) p
      by (Ty-F.Opt x) = lifted_stands at m t x il.Present p
      by y = p

  shaped_stands : (ts : List Ty) (next : List Shape → Step) → ((ss : List Shape) → StepStands (next ss)) → StepStands (shaped ts next)
  shaped_stands [] next h = h []
  shaped_stands (t ∷ ts) next h = λ u. shaped_stands ts (λ ss. next (shape_of u ∷ ss)) (λ ss. h (shape_of u ∷ ss))

  -- ---- questions about parts

  pub asked_stands : (e : Exp) → ExpStands P e → (w : Within) (t : Ty) → QuestionStands (asked w e t)
  asked_stands e h w t = (ExpStands-place P h, h)

  found_stands : (e : Exp) → ExpStands P e → (w : Within) → QuestionStands (found w e)
  found_stands e h w = (ExpStands-place P h, h)

  pub each_asked_stands : (w : Within) (es : List Exp) (ts : List Ty) → ExpsStand P es → QuestionsStand (each_asked w es ts)
  each_asked_stands w [] ts h = tt
  each_asked_stands w (e ∷ es) [] h = tt
  each_asked_stands w (e ∷ es) (t ∷ ts) (exps h hs) = (asked_stands e h w t, each_asked_stands w es ts hs)

  each_found_stands : (w : Within) (es : List Exp) → ExpsStand P es → QuestionsStand (map (found w) es)
  each_found_stands w [] h = tt
  each_found_stands w (e ∷ es) (exps h hs) = (found_stands e h w, each_found_stands w es hs)

  items_stand : (w : Within) (t x : Ty) (es : List Exp) → ExpsStand P es → QuestionsStand (map (item w t x) es)
  items_stand w t x [] h = tt
  items_stand w t x (e ∷ es) (exps h hs) = (h, items_stand w t x es hs)

  pub holes_stand : (w : Within) (at : Span) (passed : List (List ℕ)) (fs : List Filling) (ts : List Ty) → P at → FillingsStand P fs → QuestionsStand (holes_behind w at passed fs ts)
  holes_stand w at passed [] ts p h = tt
  holes_stand w at passed (f ∷ fs) [] p h = tt
  holes_stand w at passed (f ∷ fs) (t ∷ ts) p h = ((p, h.0), holes_stand w at passed fs ts p h.1)

  -- ---- operators

  compared_stands : (at : Span) (sign : Mark) (a b : Made) → P at → StepStands (compared at sign a b)
  compared_stands at sign a b p = larger_stands a.ty b.ty
      (λ t. raised a t (λ x. raised b t (λ y. give (equated sign x y) ty.Bool))) (breach at Y1)
      (λ t. raised_stands a t (λ x. raised b t (λ y. give (equated sign x y) ty.Bool)) (λ x. raised_stands b t (λ y. give (equated sign x y) ty.Bool) (λ y. tt))) p

  concatenated_stands : (at : Span) (a b : Made) → P at → StepStands (concatenated at a b)
  concatenated_stands at a b p = larger_stands a.ty b.ty
      (λ t. as_joined at t (λ join. raised a t (λ x. raised b t (λ y. give (join x y) t)))) (breach at Y5)
      (λ t. joined_stands at t (λ join. raised a t (λ x. raised b t (λ y. give (join x y) t))) p
      (λ join. raised_stands a t (λ x. raised b t (λ y. give (join x y) t)) (λ x. raised_stands b t (λ y. give (join x y) t) (λ y. tt)))) p

  numeric_stands : (w : Within) (e : Exp) (next : Made → NumTy → Step) → ExpStands P e → ((m : Made) (n : NumTy) → StepStands (next m n)) → StepStands (numeric w e next)
  numeric_stands w e next h k = (found_stands e h w, λ m. number_stands (place e) m.ty (next m) (ExpStands-place P h) (k m))

  module _ (w : Within) (at : Span) (sign : Mark) (l r : Exp) (p : P at) (hl : ExpStands P l) (hr : ExpStands P r) where
    beside_stands : (a : Made) → StepStands (beside w at sign r a)
    beside_stands a = if_stands (inferable r) _ _ (found_stands r hr w, λ b. compared_stands at sign a b p) (asked_stands r hr w a.ty, λ b. tt)

    equation_stands : StepStands (equation_row w at sign l r)
    equation_stands = if_stands (inferable l) _ _ (found_stands l hl w, λ a. beside_stands a)
        (if_stands (inferable r) _ _ (found_stands r hr w, λ b. (asked_stands l hl w b.ty, λ a. tt)) p)

    membership_stands : StepStands (membership_row w at l r)
    membership_stands = if_stands (inferable r) _ _ (found_stands r hr w, λ b. list_stands (place r) b.ty _ (ExpStands-place P hr) (λ x. (asked_stands l hl w x, λ a. tt)))
        (if_stands (inferable l) _ _ (found_stands l hl w, λ a. (asked_stands r hr w (ty.List a.ty), λ b. tt)) p)

    both_stand : (next : NumTy → IlExp → IlExp → Step) → ((n : NumTy) (x y : IlExp) → StepStands (next n x y)) → StepStands (both_numeric w l r next)
    both_stand next h =
        numeric_stands w l (λ a m. numeric w r (λ b n. next (wider m n) (injected m (wider m n) a.exp) (injected n (wider m n) b.exp))) hl
        (λ a m. numeric_stands w r (λ b n. next (wider m n) (injected m (wider m n) a.exp) (injected n (wider m n) b.exp)) hr (λ b n. h (wider m n) (injected m (wider m n) a.exp) (injected n (wider m n) b.exp)))

    binary_stands : (o : Operator) → StepStands (binary_row w at sign l r o)
    binary_stands operator.Logic = (asked_stands l hl w ty.Bool, λ a. (asked_stands r hr w ty.Bool, λ b. tt))
    binary_stands operator.Equation = equation_stands
    binary_stands operator.Order = both_stand (λ n x y. give (ordered sign x y) ty.Bool) (λ n x y. tt)
    binary_stands operator.Membership = membership_stands
    binary_stands operator.Concatenation = (found_stands l hl w, λ a. (found_stands r hr w, λ b. concatenated_stands at a b p))
    binary_stands operator.Arithmetic = both_stand (λ n x y. give (reckoned sign n x y) (number_type n)) (λ n x y. tt)
    binary_stands operator.Power =
        numeric_stands w l (λ a n. Asks (asked w r ty.Nat) (λ b. give (il.Pow n a.exp b.exp) (number_type n))) hl (λ a n. (asked_stands r hr w ty.Nat, λ b. tt))
    binary_stands operator.Other = p

  -- ---- iterations

  pub counted_stands : (w : Within) (c : Count-F Count Node Seg Exp) (next : Iteration → Step) → CountStands P c → ((k : Iteration) → StepStands (next k)) → StepStands (counted_at w c next)
  counted_stands w Count-F.Star next g h = h times.Star
  counted_stands w Count-F.Plus next g h = h times.Plus
  counted_stands w Count-F.Quest next g h = h times.Quest
  counted_stands w (Count-F.Times n) next (by_times g) h = (asked_stands n g w ty.Nat, λ m. h (times.Times m.exp))
  counted_stands w (Count-F.Below i n) next (by_below g) h = (asked_stands n g w ty.Nat, λ m. h (times.Below i m.exp))

  iteration_stands : (S : Scope) (w : Within) (c : Count) (body : IlExp) (t : Ty) → CountStands P (out-Count c) → StepStands (iteration S w c body t)
  iteration_stands S w c body t g = counted_stands w (out-Count c) _ g (λ k. tt)

  -- ---- paths

  step_stands : (w : Within) (at : Span) (t : Ty) (next : PathSeg → Ty → Step) (y : Seg-F Count Node Seg Exp) → P at → SegStands P y → ((p : PathSeg) (u : Ty) → StepStands (next p u)) → StepStands (step_row D w at t next y)
  step_stands w at t next (Seg-F.Field name) q g h = field_stands at at name t _ q q (λ x. h (step.Field name) x)
  step_stands w at t next (Seg-F.Seg::At i) q (at_position g) h = list_stands at t _ q (λ x. (asked_stands i g w ty.Nat, λ a. h (step.At a.exp) x))
  step_stands w at t next (Seg-F.Seg::Slice i n) q (at_slice g k) h = list_stands at t _ q (λ x. (asked_stands i g w ty.Nat, λ a. (asked_stands n k w ty.Nat, λ b. h (step.Slice a.exp b.exp) t)))

  along_stands : (w : Within) (at : Span) (path : List Seg) (t : Ty) (next : List PathSeg → Ty → Step) → P at → SegsStand P path → ((ps : List PathSeg) (u : Ty) → StepStands (next ps u)) → StepStands (along D w at path t next)
  along_stands w at [] t next q g h = h [] t
  along_stands w at (s ∷ path) t next q (steps g gs) h = step_stands w at t _ (out-Seg s) q g (λ p u. along_stands w at path u (λ ps v. next (p ∷ ps) v) q gs (λ ps v. h (p ∷ ps) v))

  -- ---- expressions whose type is asked for

  variable_stands : (at : Span) (name : List ℕ) (o : Option Ty) → P at → StepStands (variable_row at name o)
  variable_stands at name None p = p
  variable_stands at name (Some t) p = tt

  call_stands : (w : Within) (at : Span) (es : List Exp) (o : Option FunDef) → P at → ExpsStand P es → StepStands (call_row w at es o)
  call_stands w at es None p g = p
  call_stands w at es (Some f) p g = if_stands (nat_eq (length es) (length f.params)) _ _ (asks_stand (each_asked w es f.params) _ (each_asked_stands w es f.params g) (λ ms. tt)) p

  inferred_stands : (S : Scope) (w : Within) (at : Span) (y : Node-F Count Node Seg Exp) → P at → NodeStands P y → StepStands (inferred_at D S w at y)
  inferred_stands S w at (Node-F.Name name) p g = variable_stands at name (variable_type D S w name) p
  inferred_stands S w at (Node-F.Bool truth) p g = tt
  inferred_stands S w at (Node-F.Number n) p g = tt
  inferred_stands S w at (Node-F.Text text) p g = tt
  inferred_stands S w at (Node-F.Binary l sign r) p (of_binary h k) = binary_stands w at sign l r p h k (operator_of sign)
  inferred_stands S w at (Node-F.Not e) p (of_not h) = (asked_stands e h w ty.Bool, λ m. tt)
  inferred_stands S w at (Node-F.Neg e) p (of_neg h) = numeric_stands w e (λ m n. give (il.Neg (injected n number.Int m.exp)) ty.Int) h (λ m n. tt)
  inferred_stands S w at (Node-F.Arith e) p (of_arith h) = (found_stands e h w, λ m. tt)
  inferred_stands S w at (Node-F.Paren e) p (of_paren h) = ((p, h), λ m. tt)
  inferred_stands S w at (Node-F.Tuple es) p (of_tuple h) = asks_stand (map (found w) es) _ (each_found_stands w es h) (λ ms. tt)
  inferred_stands S w at (Node-F.Dot e field) p (of_dot h) = (found_stands e h w, λ m. field_stands (place e) at field m.ty _ (ExpStands-place P h) p (λ x. tt))
  inferred_stands S w at (Node-F.Node::At e i) p (of_at h k) = (found_stands e h w, λ m. list_stands (place e) m.ty _ (ExpStands-place P h) (λ x. (asked_stands i k w ty.Nat, λ a. tt)))
  inferred_stands S w at (Node-F.Node::Slice e i n) p (of_slice h k l) =
      (found_stands e h w, λ m. list_stands (place e) m.ty _ (ExpStands-place P h) (λ x. (asked_stands i k w ty.Nat, λ a. (asked_stands n l w ty.Nat, λ b. tt))))
  inferred_stands S w at (Node-F.Update e path x) p (of_update h k l) = (found_stands e h w, λ m. along_stands w at path m.ty _ p k (λ ps t. (asked_stands x l w t, λ v. tt)))
  inferred_stands S w at (Node-F.Extend e path x) p (of_extend h k l) = (found_stands e h w, λ m. along_stands w at path m.ty _ p k (λ ps t. list_stands at t _ p (λ y. (asked_stands x l w t, λ v. tt))))
  inferred_stands S w at (Node-F.Len e) p (of_len h) = (found_stands e h w, λ m. list_stands (place e) m.ty _ (ExpStands-place P h) (λ x. tt))
  inferred_stands S w at (Node-F.Call name es) p (of_call h) = call_stands w at es (fun_named D.funs name) p h
  inferred_stands S w at (Node-F.Iter b c) p (of_iter h k) = (found_stands b h (inside w c), λ m. iteration_stands S w c m.exp (iterated_type c m.ty) k)
  inferred_stands S w at y p g = p

  -- ---- items and holes

  found_item_stands : (at : Span) (t x : Ty) (m : Made) → P at → StepStands (found_item at t x m)
  found_item_stands at t x m p = (raised_stands m x (λ y. give y x) (λ y. tt), (raised_stands m t (λ y. splice (made y t)) (λ y. tt), p))

  item_stands : (w : Within) (t x : Ty) (e : Exp) → ExpStands P e → StepStands (item_row w t x e)
  item_stands w t x e h = if_stands (is_spliced e) _ _ (asked_stands e h w t, λ m. tt)
      (if_stands (is_told_by_type e) _ _ (found_stands e h w, λ m. found_item_stands (place e) t x m (ExpStands-place P h)) (asked_stands e h w x, λ m. tt))

  sequence_stands : (w : Within) (at : Span) (es : List Exp) (t x : Ty) → P at → ExpsStand P es → StepStands (sequence w at es t x)
  sequence_stands w at es t x p h = λ v. if_stands (is_collection v) _ _ p (asks_stand (map (item w t x) es) _ (items_stand w t x es h) (λ ms. tt))

  run_at_stands : (w : Within) (at : Span) (es : List Exp) (t : Ty) (y : Ty-F Ty) → P at → ExpsStand P es → StepStands (run_at w at es t y)
  run_at_stands w at es t (Ty-F.List x) p h = sequence_stands w at es t x p h
  run_at_stands w at es t y p h = p

  hole_stands : (w : Within) (at : Span) (passed : List (List ℕ)) (f : Filling) (t : Ty) → P at → FillingStands P f → StepStands (hole_row w at passed f t)
  hole_stands w at passed (one e) t p h = ((ExpStands-place P h, h), λ m. tt)
  hole_stands w at passed (run []) t p h = tt
  hole_stands w at passed (run (e ∷ [])) t p (exps h hs) = ((ExpStands-place P h, h), λ m. tt)
  hole_stands w at passed (run (e ∷ f ∷ es)) t p h = λ u. run_at_stands w at (e ∷ f ∷ es) t (out-Ty u) p h
  hole_stands w at passed missing t p h = tt

  -- ---- fields

  abbrev FieldsFilled : Option (List Filling) → Type 0
  FieldsFilled None = Unit {0}
  FieldsFilled (Some fs) = FillingsStand P fs

  omitted_filled : (s : Shape) (o : Option (List Filling)) → FieldsFilled o → FieldsFilled (omitted s o)
  omitted_filled s o g = by (is_omissible s) o g
    where
      by : (b : Bool) (o : Option (List Filling)) → FieldsFilled o → FieldsFilled (if b then option_map (λ (fs : List Filling). missing ∷ fs) o else None)
      by false o g = tt
      by true None g = tt
      by true (Some fs) g = (tt, g)

  given_filled : (e : Exp) (o : Option (List Filling)) → ExpStands P e → FieldsFilled o → FieldsFilled (option_map (λ (fs : List Filling). one e ∷ fs) o)
  given_filled e None k g = tt
  given_filled e (Some fs) k g = (k, g)

  aligned_filled : (names : List (List ℕ)) (ss : List Shape) (given : List (List ℕ × Exp)) → FieldsStand P given → FieldsFilled (aligned names ss given)
  aligned_filled [] ss [] g = tt
  aligned_filled [] ss (f ∷ given) g = tt
  aligned_filled (name ∷ names) [] given g = tt
  aligned_filled (name ∷ names) (s ∷ ss) [] g = omitted_filled s (aligned names ss []) (aligned_filled names ss [] g)
  aligned_filled (name ∷ names) (s ∷ ss) (f ∷ given) (fields g gs) = by (same_name name f.0) (aligned_filled names ss given gs) (aligned_filled names ss (f ∷ given) (fields g gs))
    where
      by : (b : Bool) → FieldsFilled (aligned names ss given) → FieldsFilled (aligned names ss (f ∷ given))
          → FieldsFilled (if b then option_map (λ (fs : List Filling). one f.1 ∷ fs) (aligned names ss given) else omitted s (aligned names ss (f ∷ given)))
      by true k l = given_filled f.1 (aligned names ss given) g k
      by false k l = omitted_filled s (aligned names ss (f ∷ given)) l

  filled_stands : (w : Within) (at : Span) (name : List ℕ) (ts : List Ty) (t : Ty) (o : Option (List Filling)) → P at → FieldsFilled o → StepStands (filled_fields w at name ts t o)
  filled_stands w at name ts t None p g = p
  filled_stands w at name ts t (Some fs) p g = asks_stand (holes w at fs ts) (λ ms. give (il.Fields name (exps_of ms)) t) (holes_stand w at [] fs ts p g) (λ ms. tt)

  -- ---- an expression at a type

  module _ (S : Scope) (w : Within) (at : Span) (p : Manner) (e : Exp) (t : Ty) (there : P at) (h : ExpStands P e) where
    element_stands : (x : Ty) (lift : IlExp → IlExp) → StepStands (element w at p e t x lift)
    element_stands x lift = λ v. if_stands (is_collection v) _ _ there ((there, h), λ m. tt)

    other_stands : (y : Ty-F Ty) → StepStands (other_row w at p e t y)
    other_stands (Ty-F.List x) = element_stands x (list_of_one x)
    other_stands (Ty-F.Opt x) = element_stands x il.Present
    other_stands y = there

    case_stands : (variant : List ℕ) → StepStands (case_row w at p.passed e t variant)
    case_stands variant = (of_case, there)
      where
        of_case : (c : Chosen) → IsCaseOf D.types t e c
            → StepStands (asks (holes_behind w at (passed_on c.whole p.passed variant) c.fillings c.operands) (λ ms. give (il.Case c.name c.tag (exps_of ms)) t))
        of_case c k =
            asks_stand (holes_behind w at (passed_on c.whole p.passed variant) c.fillings c.operands) (λ ms. give (il.Case c.name c.tag (exps_of ms)) t)
            (holes_stand w at (passed_on c.whole p.passed variant) c.fillings c.operands there
            (Fits-stands P k.filled.template k.filled.shapes (bare e) c.fillings k.filled.fits (ExpStands-bare P e h)))
            (λ ms. tt)

    notation_stands : (u : Ty) → StepStands (notation_row w at p e t u)
    notation_stands u = (by (out-Ty u), other_stands (out-Ty u))
      where
        by : (y : Ty-F Ty) → StepStands (variant_row w at p.passed e t y)
        by (Ty-F.Name variant) = if_stands (is_among variant p.passed) _ _ there (case_stands variant)
        by y = there

    body_stands : (b : Exp) (c : Count) (x : Ty) → ExpStands P b → CountStands P (out-Count c) → StepStands (body_row S w b c x t)
    body_stands b c x k l = (asked_stands b k (inside w c) x, λ m. iteration_stands S w c m.exp t l)

    iterated_stands : (b : Exp) (c : Count) (y : Ty-F Ty) → ExpStands P b → CountStands P (out-Count c) → StepStands (iteration_row S w at p e b c t y)
    iterated_stands b c (Ty-F.List x) k l = if_stands (goes_over_list (out-Count c)) _ _ (body_stands b c x k l) (other_stands (Ty-F.List x))
    iterated_stands b c (Ty-F.Opt x) k l = if_stands (goes_over_list (out-Count c)) _ _ (other_stands (Ty-F.Opt x)) (body_stands b c x k l)
    iterated_stands b c y k l = other_stands y

    eps_stands : (y : Ty-F Ty) → StepStands (eps_row at t y)
    eps_stands (Ty-F.List x) = tt
    eps_stands (Ty-F.Opt x) = tt
    eps_stands y = there

    sequence_at_stands : (es : List Exp) (u : Ty) (y : Ty-F Ty) → ExpsStand P es → StepStands (sequence_at w at p e es t u y)
    sequence_at_stands es u (Ty-F.List x) k = if_stands (is_run es p.in_parentheses) _ _ (sequence_stands w at es t x there k) (other_stands (Ty-F.List x))
    sequence_at_stands es u y k = notation_stands u

    record_stands : (fs : List (List ℕ × Exp)) (u : Ty) (y : Ty-F Ty) (o : Option (List (List ℕ × Ty))) → FieldsStand P fs → StepStands (record_by w at p e fs t u y o)
    record_stands fs u (Ty-F.Name name) (Some declared) k =
        shaped_stands (map (λ (f : List ℕ × Ty). f.1) declared) _
        (λ ss. filled_stands w at name (map (λ (f : List ℕ × Ty). f.1) declared) t (aligned (map (λ (f : List ℕ × Ty). f.0) declared) ss fs) there (aligned_filled (map (λ (f : List ℕ × Ty). f.0) declared) ss fs k))
    record_stands fs u (Ty-F.Name name) None k = other_stands (out-Ty u)
    record_stands fs u y o k = other_stands (out-Ty u)

    sides_stand : (l r : Exp) → ExpStands P l → ExpStands P r → StepStands (concatenation_row w at l r t)
    sides_stand l r k m =
        joined_stands at t (λ join. Asks (asked w l t) (λ a. Asks (asked w r t) (λ b. give (join a.exp b.exp) t))) there (λ join. (asked_stands l k w t, λ a. (asked_stands r m w t, λ b. tt)))

    form_stands : (u : Ty) (y : Node-F Count Node Seg Exp) → NodeStands P y → StepStands (form_row D S w at p e t u y)
    form_stands u Node-F.Eps k = eps_stands (out-Ty u)
    form_stands u (Node-F.Binary l sign r) (of_binary k m) = if_stands (is_concatenation (operator_of sign)) _ _ (sides_stand l r k m) (other_stands (out-Ty u))
    form_stands u (Node-F.Iter b c) (of_iter k l) = iterated_stands b c (out-Ty u) k l
    form_stands u (Node-F.Seq es) (of_seq k) = sequence_at_stands es u (out-Ty u) k
    form_stands u (Node-F.Fields fs) (of_fields k) = record_stands fs u (out-Ty t) (fields_of D.types u) k
    form_stands u (Node-F.Atom name) k = notation_stands u
    form_stands u (Node-F.Infix l sign r) k = notation_stands u
    form_stands u (Node-F.Bracket opening b) k = notation_stands u
    form_stands u y k = other_stands (out-Ty u)

    plain_stands : StepStands (plain_row D S w at p e t)
    plain_stands = if_stands (inferable e) _ _ ((there, h), λ m. fitted_stands at t m there) (λ u. form_stands u (opened e) (ExpStands-parts P h))

    tuple_stands : (es : List Exp) (y : Ty-F Ty) → ExpsStand P es → StepStands (tuple_at D S w at p e es t y)
    tuple_stands es (Ty-F.Tuple ts) k = if_stands (nat_eq (length es) (length ts)) _ _ (asks_stand (each_asked w es ts) _ (each_asked_stands w es ts k) (λ ms. tt)) plain_stands
    tuple_stands es y k = plain_stands

    checked_stands : (y : Node-F Count Node Seg Exp) → NodeStands P y → StepStands (checked_row D S w at p e t y)
    checked_stands (Node-F.Paren inner) (of_paren k) = ((there, k), λ m. tt)
    checked_stands (Node-F.Tuple es) (of_tuple k) = λ u. tuple_stands es (out-Ty u) k
    checked_stands y k = plain_stands

  -- the row of a question
  pub row_stands : (S : Scope) (q : Question) → QuestionStands q → StepStands (row D S q)
  row_stands S (check w at p e t) h = checked_stands S w at p e t h.0 h.1 (opened e) (ExpStands-parts P h.1)
  row_stands S (infer w at e) h = if_stands (inferable e) _ _ (inferred_stands S w at (opened e) h.0 (ExpStands-parts P h.1)) h.0
  row_stands S (item w t x e) h = item_stands w t x e h
  row_stands S (hole w at passed filling t) h = hole_stands w at passed filling t h.0 h.1
