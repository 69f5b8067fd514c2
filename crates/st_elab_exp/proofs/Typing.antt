-- What an expression is at a type has that type.
use Rattle.std.proofs.Common.{◌≡◌, refl, ℕ, List, [], ◌∷◌, map, length, Bool, true, false, nat_eq, Option, Some, None, if◌then◌else◌}
use Rattle.st_num.specs.declared.span.Span.{Span}
use Rattle.st_el.specs.declared.expression.Exp.{Exp}
use Rattle.st_el.specs.declared.expression.Node.{Node}
use Rattle.st_el.specs.declared.expression.Count.{Count, out-Count}
use Rattle.st_el.specs.declared.expression.Count.TheOpen.{Count-F, Node-F}
use Rattle.st_el.specs.declared.expression.Seg.{Seg}
use Rattle.st_num.specs.Names.{is_among}
use Rattle.st_il.specs.declared.ty.Ty.{Ty, out-Ty}
use Rattle.st_il.specs.declared.ty.Ty.TheOpen.{Ty-F}
use Rattle.st_il.specs.declared.expression.IlExp.{IlExp}
use Rattle.st_il.specs.declared.expression.IlExp.TheVariants as il
use Rattle.st_il.specs.declared.expression.Iteration.{Iteration}
use Rattle.st_il.specs.declared.expression.Iteration.TheVariants as times
use Rattle.st_type_table.specs.Meaning.{fields_of}
use Rattle.st_notation.specs.declared.filled.Shape.{Shape}
use Rattle.st_notation.specs.Elements.{opened}
use Rattle.st_notation.specs.Fits.{Filling}
use Rattle.st_elab_table.specs.declared.decls.Decls.{Decls}
use Rattle.st_elab_table.specs.declared.decls.Scope.{Scope}
use Rattle.st_dims.specs.declared.within.Within.{Within}
use Rattle.st_elab_table.specs.Operators.{operator_of}
use Rattle.st_elab_table.specs.Forms.{inferable, is_concatenation, goes_over_list}
use Rattle.st_elab_table.specs.Choice.{shape_of}
use Rattle.st_elab_table.specs.Questions.{Manner, Question, check, infer, item, hole, Made, Gives, Fails, Step, Ends, Asks, Tests, Opens, Fills, asks}
use Rattle.st_elab_table.specs.Steps.{give, asked, holes, holes_behind, each_asked, exps, is_collection, lifted_to, lifted_at, fitted, joined_at, list_of_one}
use Rattle.st_elab_table.specs.Collections.{item_of, element, other_row, eps_row, concatenation_row, counted_at, body_row, iteration_row, sequence, is_run}
use Rattle.st_elab_table.specs.Records.{shaped, filled_fields, field_types, record_by, passed_on, case_row, variant_row, notation_row}
use Rattle.st_elab_table.specs.Checked.{sequence_at, form_row, plain_row, tuple_at, checked_row}
use Rattle.st_elab_table.specs.Elaboration.{row, Answered}
use Rattle.st_elab_table.proofs.Keeps.{Keeps, Answered-keeps}

-- what is made for a question at a type has that type
abbrev OfType : Question → Made → Type 0
OfType (check w at p e t) m = m.ty ≡ t
OfType _ m = Unit {0}

module _ (D : Decls) where
  -- any step gives something
  any : (s : Step) → Keeps D OfType (λ m. Unit {0}) s
  any (Ends (Gives m)) = tt
  any (Ends (Fails b)) = tt
  any (Asks q next) = λ m k. any (next m)
  any (Tests c first second) = (λ h. any first, λ h. any second)
  any (Opens t next) = λ u m. any (next u)
  any (Fills t e next unfit) = (λ c h. any (next c), λ h. any unfit)

  -- the step gives something of this type
  abbrev At : Ty → Step → Type 0
  At t s = Keeps D OfType (λ m. m.ty ≡ t) s

  at_either : (t : Ty) (b : Bool) (s u : Step) → At t s → At t u → At t (if b then s else u)
  at_either t true s u h k = h
  at_either t false s u h k = k

  at_asks : (t : Ty) (qs : List Question) (next : List Made → Step) → ((ms : List Made) → At t (next ms)) → At t (asks qs next)
  at_asks t [] next h = h []
  at_asks t (q ∷ qs) next h = λ m k. at_asks t qs (λ ms. next (m ∷ ms)) (λ ms. h (m ∷ ms))

  at_gives : (t : Ty) (qs : List Question) (f : List Made → IlExp) → At t (asks qs (λ ms. give (f ms) t))
  at_gives t qs f = at_asks t qs (λ ms. give (f ms) t) (λ ms. refl)

  at_element : (w : Within) (at : Span) (p : Manner) (e : Exp) (t x : Ty) (lift : IlExp → IlExp) → At t (element w at p e t x lift)
  at_element w at p e t x lift = λ v m. at_either t (is_collection v) _ _ tt (λ m k. refl)

  at_other : (w : Within) (at : Span) (p : Manner) (e : Exp) (t : Ty) (y : Ty-F Ty) → At t (other_row w at p e t y)
  at_other w at p e t (Ty-F.List x) = at_element w at p e t x (list_of_one x)
  at_other w at p e t (Ty-F.Opt x) = at_element w at p e t x il.Present
  at_other w at p e t y = tt

  at_eps : (at : Span) (t : Ty) (y : Ty-F Ty) → At t (eps_row at t y)
  at_eps at t (Ty-F.List x) = refl
  at_eps at t (Ty-F.Opt x) = refl
  at_eps at t y = tt

  at_joined : (at : Span) (t : Ty) (next : (IlExp → IlExp → IlExp) → Step) (y : Ty-F Ty) → ((join : IlExp → IlExp → IlExp) → At t (next join)) → At t (joined_at at t next y)
  at_joined at t next (Ty-F.List x) h = h il.Cat
  at_joined at t next y h = (λ can. h il.Join, λ cannot. tt)

  at_concatenation : (w : Within) (at : Span) (l r : Exp) (t : Ty) → At t (concatenation_row w at l r t)
  at_concatenation w at l r t = λ u m. at_joined at t (λ join. Asks (asked w l t) (λ a. Asks (asked w r t) (λ b. give (join a.exp b.exp) t))) (out-Ty u) (λ join a h b k. refl)

  at_counted : (w : Within) (t : Ty) (c : Count-F Count Node Seg Exp) (next : Iteration → Step) → ((k : Iteration) → At t (next k)) → At t (counted_at w c next)
  at_counted w t Count-F.Star next h = h times.Star
  at_counted w t Count-F.Plus next h = h times.Plus
  at_counted w t Count-F.Quest next h = h times.Quest
  at_counted w t (Count-F.Times n) next h = λ m k. h (times.Times m.exp)
  at_counted w t (Count-F.Below i n) next h = λ m k. h (times.Below i m.exp)

  at_body : (S : Scope) (w : Within) (b : Exp) (c : Count) (x t : Ty) → At t (body_row S w b c x t)
  at_body S w b c x t = λ m k. at_counted w t (out-Count c) _ (λ k. refl)

  at_iteration : (S : Scope) (w : Within) (at : Span) (p : Manner) (e b : Exp) (c : Count) (t : Ty) (y : Ty-F Ty) → At t (iteration_row S w at p e b c t y)
  at_iteration S w at p e b c t (Ty-F.List x) = at_either t (goes_over_list (out-Count c)) _ _ (at_body S w b c x t) (at_other w at p e t (Ty-F.List x))
  at_iteration S w at p e b c t (Ty-F.Opt x) = at_either t (goes_over_list (out-Count c)) _ _ (at_other w at p e t (Ty-F.Opt x)) (at_body S w b c x t)
  at_iteration S w at p e b c t y = at_other w at p e t y

  at_sequence : (w : Within) (at : Span) (es : List Exp) (t x : Ty) → At t (sequence w at es t x)
  at_sequence w at es t x = λ v m. at_either t (is_collection v) _ _ tt (at_gives t (map (item w t x) es) (λ ms. il.List x (map item_of ms)))

  at_case : (w : Within) (at : Span) (passed : List (List ℕ)) (e : Exp) (t : Ty) (variant : List ℕ) → At t (case_row w at passed e t variant)
  at_case w at passed e t variant = (λ c h. at_gives t (holes_behind w at (passed_on c.whole passed variant) c.fillings c.operands) (λ ms. il.Case c.name c.tag (exps ms)), λ h. tt)

  at_variant : (w : Within) (at : Span) (passed : List (List ℕ)) (e : Exp) (t : Ty) (y : Ty-F Ty) → At t (variant_row w at passed e t y)
  at_variant w at passed e t (Ty-F.Name variant) = at_either t (is_among variant passed) _ _ tt (at_case w at passed e t variant)
  at_variant w at passed e t y = tt

  at_notation : (w : Within) (at : Span) (p : Manner) (e : Exp) (t u : Ty) → At t (notation_row w at p e t u)
  at_notation w at p e t u = (λ variant. at_variant w at p.passed e t (out-Ty u), λ other. at_other w at p e t (out-Ty u))

  at_sequence_at : (w : Within) (at : Span) (p : Manner) (e : Exp) (es : List Exp) (t u : Ty) (y : Ty-F Ty) → At t (sequence_at w at p e es t u y)
  at_sequence_at w at p e es t u (Ty-F.List x) = at_either t (is_run es p.in_parentheses) _ _ (at_sequence w at es t x) (at_other w at p e t (Ty-F.List x))
  at_sequence_at w at p e es t u y = at_notation w at p e t u

  at_shaped : (t : Ty) (ts : List Ty) (next : List Shape → Step) → ((ss : List Shape) → At t (next ss)) → At t (shaped ts next)
  at_shaped t [] next h = h []
  at_shaped t (x ∷ ts) next h = λ u m. at_shaped t ts (λ ss. next (shape_of u ∷ ss)) (λ ss. h (shape_of u ∷ ss))

  at_filled : (w : Within) (at : Span) (name : List ℕ) (ts : List Ty) (t : Ty) (fs : Option (List Filling)) → At t (filled_fields w at name ts t fs)
  at_filled w at name ts t None = tt
  at_filled w at name ts t (Some fs) = at_gives t (holes w at fs ts) (λ ms. il.Fields name (exps ms))

  at_record : (w : Within) (at : Span) (p : Manner) (e : Exp) (written : List (List ℕ × Exp)) (t u : Ty) (y : Ty-F Ty) (fields : Option (List (List ℕ × Ty)))
      → At t (record_by w at p e written t u y fields)
  at_record w at p e written t u (Ty-F.Name name) (Some fields) = at_shaped t (field_types fields) _ (λ ss. at_filled w at name (field_types fields) t _)
  at_record w at p e written t u y fields = at_other w at p e t (out-Ty u)

  at_lifted : (at : Span) (m : Made) (t x : Ty) (lift : IlExp → IlExp) → At t (lifted_to at m t x lift)
  at_lifted at m t x lift = λ v means. at_either t (is_collection v) _ _ tt (λ below. (λ same. refl, λ differ. refl), λ above. tt)

  at_lifted_at : (at : Span) (m : Made) (t : Ty) (y : Ty-F Ty) → At t (lifted_at at m t y)
  at_lifted_at at m t (Ty-F.List x) = at_lifted at m t x (list_of_one x)
  at_lifted_at at m t (Ty-F.Opt x) = at_lifted at m t x il.Present
  at_lifted_at at m t y = tt

  at_fitted : (at : Span) (t : Ty) (m : Made) → At t (fitted at t m)
  at_fitted at t m = (λ same. refl, λ differ. (λ below. refl, λ above u means. at_lifted_at at m t (out-Ty u)))

  at_form : (S : Scope) (w : Within) (at : Span) (p : Manner) (e : Exp) (t u : Ty) (n : Node-F Count Node Seg Exp) → At t (form_row D S w at p e t u n)
  at_form S w at p e t u Node-F.Eps = at_eps at t (out-Ty u)
  at_form S w at p e t u (Node-F.Binary l sign r) =
      at_either t (is_concatenation (operator_of sign)) _ _ (at_concatenation w at l r t) (at_other w at p e t (out-Ty u))
  at_form S w at p e t u (Node-F.Iter b c) = at_iteration S w at p e b c t (out-Ty u)
  at_form S w at p e t u (Node-F.Seq es) = at_sequence_at w at p e es t u (out-Ty u)
  at_form S w at p e t u (Node-F.Fields written) = at_record w at p e written t u (out-Ty t) (fields_of D.types u)
  at_form S w at p e t u (Node-F.Atom name) = at_notation w at p e t u
  at_form S w at p e t u (Node-F.Infix l sign r) = at_notation w at p e t u
  at_form S w at p e t u (Node-F.Bracket opening b) = at_notation w at p e t u
  at_form S w at p e t u n = at_other w at p e t (out-Ty u)

  at_plain : (S : Scope) (w : Within) (at : Span) (p : Manner) (e : Exp) (t : Ty) → At t (plain_row D S w at p e t)
  at_plain S w at p e t = at_either t (inferable e) _ _ (λ m k. at_fitted at t m) (λ u means. at_form S w at p e t u (opened e))

  at_tuple : (S : Scope) (w : Within) (at : Span) (p : Manner) (e : Exp) (es : List Exp) (t : Ty) (y : Ty-F Ty) → At t (tuple_at D S w at p e es t y)
  at_tuple S w at p e es t (Ty-F.Tuple ts) = at_either t (nat_eq (length es) (length ts)) _ _ (at_gives t (each_asked w es ts) (λ ms. il.Tuple (exps ms))) (at_plain S w at p e t)
  at_tuple S w at p e es t y = at_plain S w at p e t

  at_checked : (S : Scope) (w : Within) (at : Span) (p : Manner) (e : Exp) (t : Ty) (n : Node-F Count Node Seg Exp) → At t (checked_row D S w at p e t n)
  at_checked S w at p e t (Node-F.Paren inner) = λ m k. k
  at_checked S w at p e t (Node-F.Tuple es) = λ u means. at_tuple S w at p e es t (out-Ty u)
  at_checked S w at p e t n = at_plain S w at p e t

  each_row : (S : Scope) (q : Question) → Keeps D OfType (OfType q) (row D S q)
  each_row S (check w at p e t) = at_checked S w at p e t (opened e)
  each_row S (infer w at e) = any _
  each_row S (item w t x e) = any _
  each_row S (hole w at passed filling t) = any _

  pub of_its_type : (S : Scope) (w : Within) (at : Span) (p : Manner) (e : Exp) (t : Ty) (m : Made) → Answered D S (check w at p e t) (Gives m) → m.ty ≡ t
  of_its_type S w at p e t m h = Answered-keeps D S OfType (each_row S) (check w at p e t) (Gives m) h
