-- Lists, holes, records and cases have the notes of their source.
use Rattle.std.proofs.Common.{◌≡◌, refl, sym, ◌∙◌, ap, subst, append_assoc, ℕ, suc, List, [], ◌∷◌, ◌++◌, map, length, take, drop, Bool, true, false}
use Rattle.std.proofs.lemmas.Bool.{eqb-true}
use Rattle.std.proofs.lemmas.List.{map-append, append-nil, length-map, take-append-drop}
use Rattle.std.specs.Prelude.{IsTrue, Option, Some, None, if◌then◌else◌, nat_eq}
use Rattle.std.specs.Option.{option_map}
use Rattle.st_num.specs.declared.span.Span.{Span}
use Rattle.st_num.specs.Names.{same_name, is_among}
use Rattle.st_el.specs.declared.expression.Exp.{Exp}
use Rattle.st_el.specs.declared.expression.Node.{Node}
use Rattle.st_el.specs.declared.expression.Count.{Count, out-Count}
use Rattle.st_el.specs.declared.expression.Count.TheOpen.{Node-F, Count-F}
use Rattle.st_el.specs.declared.expression.Seg.{Seg}
use Rattle.st_il.specs.declared.definition.FunDef.{FunDef}
use Rattle.st_il.specs.declared.ty.Ty.{Ty, out-Ty}
use Rattle.st_il.specs.declared.ty.Ty.TheOpen.{Ty-F}
use Rattle.st_il.specs.declared.ty.Ty.TheVariants as ty
use Rattle.st_il.specs.declared.template.Template.{Template, out-Template}
use Rattle.st_il.specs.declared.expression.IlExp.{IlExp}
use Rattle.st_il.specs.declared.expression.IlExp.TheVariants as il
use Rattle.st_il.specs.declared.expression.ListItem.TheVariants as part
use Rattle.st_il.specs.declared.expression.Iteration.{Iteration}
use Rattle.st_il.specs.declared.expression.Iteration.TheVariants as iteration
use Rattle.st_il.specs.Occurrences.{occurs}
use Rattle.st_type_table.specs.declared.entry.CaseDef.{CaseDef}
use Rattle.st_type_table.specs.Meaning.{fields_of}
use Rattle.st_dims.specs.declared.within.Within.{Within}
use Rattle.st_notation.specs.declared.filled.Shape.{Shape}
use Rattle.st_notation.specs.declared.filled.Shape.TheVariants as shape
use Rattle.st_notation.specs.Elements.{opened, bare, elements_at, elements, is_atom_at, is_atom, before}
use Rattle.st_notation.specs.Fits.{Filling, one, run, missing, Take, one_element, shared_run, run_up_to, takes, Fits, hole, atom, bracket, sides, sequence as in_sequence, FitInOrder, end, next_atom, next_bracket, next_hole}
use Rattle.st_il.specs.declared.template.Template.TheOpen.{Template-F}
use Rattle.st_notation.proofs.FitsLemmas.{Fits-length}
use Rattle.st_elab_table.specs.declared.decls.Decls.{Decls}
use Rattle.st_elab_table.specs.declared.decls.Scope.{Scope}
use Rattle.st_elab_table.specs.Choice.{FillsCase}
use Rattle.st_elab_table.specs.Forms.{place, is_spliced, is_told_by_type, goes_over_list}
use Rattle.st_elab_table.specs.Inferred.{call_row, inferred_tuple}
use Rattle.st_elab_table.specs.Iterations.{iterated as iterated_names}
use Rattle.st_elab_table.specs.Questions.{Manner, item, Made, Step, Asks, asks}
use Rattle.st_elab_table.specs.Steps.{made, give, asked, found, each_asked, holes, holes_behind, exps, ty_of, is_collection, list_of_one, lifted_to, lifted_at, fitted}
use Rattle.st_elab_table.specs.Records.{aligned, omitted, field_names, field_types, filled_fields, record_by, record_row, passed_on, variant_row, notation_row}
use Rattle.st_elab_table.specs.Collections as table
use Rattle.st_elab_table.proofs.Keeps.{Keeps}
use Rattle.st_elab_law.specs.Notes.{Notes, nothing, beside, all_of, written, filling_written}
use Rattle.st_elab_law.specs.Noted.{over_list, iterated, noted, round_of, noted_item}
use Rattle.st_elab_law.proofs.Claims.{Claims}
use Rattle.st_elab_law.proofs.Keeping.{keeps_if, keeps_asks, keeps_shaped}
use Rattle.st_elab_law.proofs.Recording.{omitted_some, one_some}
use Rattle.st_elab_law.proofs.NotesOfForms.{noted-Case, noted-Fields, noted-Tuple, noted-List, noted-Empty, noted-Present, noted-Absent, noted-Call, noted-Up, noted-Iter, round-Star, round-Plus, round-Quest, round-Times, round-Below, item-One, item-All}
use Rattle.st_elab_law.proofs.NotesOfSources.{field_written, round_written, written-Eps, written-Atom, written-Bracket, written-Infix, written-Seq, written-bare, round-Star as count-Star, round-Plus as count-Plus, round-Quest as count-Quest, round-Times as count-Times, round-Below as count-Below}
use Rattle.st_elab_law.proofs.NotesOfOperators.{Noted, Notes_as, Kept, raised_occurs, joined_occurs, of_two}

-- ---- several parts

pub single : (a : Notes) → all_of (a ∷ []) ≡ a
single a = λ i w. append-nil (a w) i

all_append : (as' bs : List Notes) → all_of (as' ++ bs) ≡ beside (all_of as') (all_of bs)
all_append [] bs = refl
all_append (a ∷ as') bs = ap (beside a) (all_append as' bs) ∙ (λ i w. sym (append_assoc (a w) (all_of as' w) (all_of bs w)) i)

fillings_append : (fs gs : List Filling) → all_of (map filling_written (fs ++ gs)) ≡ beside (all_of (map filling_written fs)) (all_of (map filling_written gs))
fillings_append fs gs = ap all_of (map-append filling_written fs gs) ∙ all_append (map filling_written fs) (map filling_written gs)

taken_written : (n : ℕ) (es : List Exp) → beside (all_of (map written (take n es))) (all_of (map written (drop n es))) ≡ all_of (map written es)
taken_written n es =
    sym (all_append (map written (take n es)) (map written (drop n es))) ∙ ap all_of (sym (map-append written (take n es) (drop n es))) ∙ ap (λ z. all_of (map written z)) (take-append-drop n es)

-- ---- what fits a template

atom_written : (name : List ℕ) (e : Exp) → IsTrue (is_atom name e) → written e ≡ nothing
atom_written name e h = by (opened e) refl h
  where
    by : (y : Node-F Count Node Seg Exp) → opened e ≡ y → IsTrue (is_atom_at name y) → written e ≡ nothing
    by (Node-F.Atom other) is k = written-Atom e other is
    by y is k = absurd (cc)

elements_written : (e : Exp) → all_of (map written (elements e)) ≡ written e
elements_written e = by (opened e) refl
  where
    by : (y : Node-F Count Node Seg Exp) → opened e ≡ y → all_of (map written (elements_at e y)) ≡ written e
    by (Node-F.Seq parts) is = counted (nat_eq (length parts) 1)
      where
        counted : (b : Bool) → all_of (map written (if b then e ∷ [] else parts)) ≡ written e
        counted true = single (written e)
        counted false = sym (written-Seq e parts is)
    by y is = single (written e)

-- what a hole takes has the notes of the elements that it takes
abbrev TakesAs : List Exp → Take → Type 0
TakesAs es taken = filling_written taken.filling ≡ all_of (map written (take taken.count es))

one_taken : (es : List Exp) (taken : Take) → one_element es ≡ Some taken → TakesAs es taken
one_taken [] taken is = absurd (cc)
one_taken (e ∷ es) taken is =
    let same : record { filling = one e; count = 1 } ≡ taken = cc in
    subst (TakesAs (e ∷ es)) same (sym (single (written e)))

run_taken : (es : List Exp) (n : ℕ) (taken : Take) → Some (shared_run es n) ≡ Some taken → TakesAs es taken
run_taken es n taken is =
    let same : shared_run es n ≡ taken = cc in
    subst (TakesAs es) same refl

missing_taken : (taken : Take) → Some (record { filling = missing; count = 0 }) ≡ Some taken → TakesAs [] taken
missing_taken taken is =
    let same : record { filling = missing; count = 0 } ≡ taken = cc in
    subst (TakesAs []) same refl

before_taken : (y : Template-F Template) (es : List Exp) (taken : Take) → run_up_to y es ≡ Some taken → TakesAs es taken
before_taken (Template-F.Atom name) es taken is = run_taken es (before name es) taken is
before_taken y es taken is = one_taken es taken is

hole_taken : (s : Shape) (ts : List Template) (es : List Exp) (taken : Take) → takes s ts es ≡ Some taken → TakesAs es taken
hole_taken shape.Plain ts es taken is = one_taken es taken is
hole_taken shape.List [] es taken is = run_taken es (length es) taken is
hole_taken shape.List (next ∷ ts) es taken is = before_taken (out-Template next) es taken is
hole_taken shape.Opt [] [] taken is = missing_taken taken is
hole_taken shape.Opt [] (e ∷ es) taken is = one_taken (e ∷ es) taken is
hole_taken shape.Opt (next ∷ ts) es taken is = one_taken es taken is

mutual
  pub Fits-occur : (t : Template) (ss : List Shape) (e : Exp) (fs : List Filling) → Fits t ss e fs → all_of (map filling_written fs) ≡ written e
  Fits-occur t ss e fs (hole p) = single (written e)
  Fits-occur t ss e fs (atom name p h) = sym (atom_written name (bare e) h) ∙ written-bare e
  Fits-occur t ss e fs (bracket opening inside inner p is h) = Fits-occur inside ss inner fs h ∙ sym (written-Bracket (bare e) opening inner is) ∙ written-bare e
  Fits-occur t ss e all (sides {fs = fs} {gs = gs} left sign right front behind p is h k) =
      let first = Fits-occur left ss front fs h in
      let second = Fits-occur right (drop (length fs) ss) behind gs k in
      fillings_append fs gs ∙ (λ i. beside (first i) (second i)) ∙ sym (written-Infix (bare e) front sign behind is) ∙ written-bare e
  Fits-occur t ss e fs (in_sequence parts p h) = InOrder-occur parts ss (elements (bare e)) fs h ∙ elements_written (bare e) ∙ written-bare e

  InOrder-occur : (ts : List Template) (ss : List Shape) (es : List Exp) (fs : List Filling) → FitInOrder ts ss es fs → all_of (map filling_written fs) ≡ all_of (map written es)
  InOrder-occur ts ss es fs end = refl
  InOrder-occur (t ∷ ts) ss es fs (next_atom {e = e} {es = rest} name p is h) =
      InOrder-occur ts ss rest fs h ∙ (λ i. beside (sym (atom_written name e is) i) (all_of (map written rest)))
  InOrder-occur (t ∷ ts) ss es all (next_bracket {e = e} {es = rest} {fs = fs} {gs = gs} opening inside inner p is h k) =
      let first = Fits-occur inside ss inner fs h ∙ sym (written-Bracket e opening inner is) in
      let others = InOrder-occur ts (drop (length fs) ss) rest gs k in
      fillings_append fs gs ∙ (λ i. beside (first i) (others i))
  InOrder-occur (t ∷ ts) (s ∷ ss) es all (next_hole {fs = fs} taken p is h) =
      let first = hole_taken s ts es taken is in
      let others = InOrder-occur ts ss (drop taken.count es) fs h in
      (λ i. beside (first i) (others i)) ∙ taken_written taken.count es

-- ---- what several questions are answered with

each_occur : (w : Within) (es : List Exp) (ts : List Ty) (ms : List Made) → length es ≡ length ts → Claims Noted (each_asked w es ts) ms → map noted (exps ms) ≡ map written es
each_occur w [] ts [] l c = refl
each_occur w [] ts (m ∷ ms) l c = absurd c
each_occur w (e ∷ es) [] ms l c = absurd (cc)
each_occur w (e ∷ es) (t ∷ ts) [] l c = absurd c
each_occur w (e ∷ es) (t ∷ ts) (m ∷ ms) l c =
    let rest = each_occur w es ts ms (cc) c.1 in
    λ i. c.0 i ∷ rest i

found_occur : (w : Within) (es : List Exp) (ms : List Made) → Claims Noted (map (found w) es) ms → map noted (exps ms) ≡ map written es
found_occur w [] [] c = refl
found_occur w [] (m ∷ ms) c = absurd c
found_occur w (e ∷ es) [] c = absurd c
found_occur w (e ∷ es) (m ∷ ms) c =
    let rest = found_occur w es ms c.1 in
    λ i. c.0 i ∷ rest i

pub holes_occur : (w : Within) (at : Span) (passed : List (List ℕ)) (fs : List Filling) (ts : List Ty) (ms : List Made) → length fs ≡ length ts → Claims Noted (holes_behind w at passed fs ts) ms
    → map noted (exps ms) ≡ map filling_written fs
holes_occur w at passed [] ts [] l c = refl
holes_occur w at passed [] ts (m ∷ ms) l c = absurd c
holes_occur w at passed (f ∷ fs) [] ms l c = absurd (cc)
holes_occur w at passed (f ∷ fs) (t ∷ ts) [] l c = absurd c
holes_occur w at passed (f ∷ fs) (t ∷ ts) (m ∷ ms) l c =
    let rest = holes_occur w at passed fs ts ms (cc) c.1 in
    λ i. c.0 i ∷ rest i

-- what fits a notation has the notes of what fills its holes
pub fills_occur : (D : Decls) (w : Within) (at : Span) (passed : List (List ℕ)) (e : Exp) (c : CaseDef) (fs : List Filling) (ms : List Made) → FillsCase D.types c e fs → Claims Noted (holes_behind w at passed fs c.operands) ms
    → all_of (map noted (exps ms)) ≡ written e
fills_occur D w at passed e c fs ms f g =
    let counted : length fs ≡ length c.operands = Fits-length f.template f.shapes (bare e) fs f.fits ∙ sym f.counted in
    ap all_of (holes_occur w at passed fs c.operands ms counted g) ∙ Fits-occur f.template f.shapes (bare e) fs f.fits ∙ written-bare e

-- ---- one element

one_noted : (t : Ty) (x : IlExp) → noted (list_of_one t x) ≡ noted x
one_noted t x = noted-List t (part.One x ∷ []) ∙ ap (λ z. all_of (z ∷ [])) (item-One x) ∙ single (noted x)

module _ (D : Decls) (e : Exp) where
  lifted_to_occurs : (at : Span) (m : Made) (t x : Ty) (lift : IlExp → IlExp) → ((y : IlExp) → noted (lift y) ≡ noted y) → noted m.exp ≡ written e → Kept D (written e) (lifted_to at m t x lift)
  lifted_to_occurs at m t x lift is h = λ v _. keeps_if D Noted (Notes_as (written e)) (is_collection v) _ _ (λ _. tt)
      (λ _. ((λ _. raised_occurs D (Notes_as (written e)) m x (λ y. give (lift y) t) (λ y k. is y ∙ k ∙ h)), (λ _. tt)))

  lifted_at_occurs : (at : Span) (m : Made) (t : Ty) (y : Ty-F Ty) → noted m.exp ≡ written e → Kept D (written e) (lifted_at at m t y)
  lifted_at_occurs at m t (Ty-F.List x) h = lifted_to_occurs at m t x (list_of_one x) (one_noted x) h
  lifted_at_occurs at m t (Ty-F.Opt x) h = lifted_to_occurs at m t x il.Present noted-Present h
  lifted_at_occurs at m t y h = tt

  pub fitted_occurs : (at : Span) (t : Ty) (m : Made) → noted m.exp ≡ written e → Kept D (written e) (fitted at t m)
  fitted_occurs at t m h = ((λ _. h), (λ _. ((λ _. noted-Up t m.exp ∙ h), (λ _. λ u _. lifted_at_occurs at m t (out-Ty u) h))))

  element_occurs : (w : Within) (at : Span) (p : Manner) (t x : Ty) (lift : IlExp → IlExp) → ((y : IlExp) → noted (lift y) ≡ noted y) → Kept D (written e) (table.element w at p e t x lift)
  element_occurs w at p t x lift is = λ v _. keeps_if D Noted (Notes_as (written e)) (is_collection v) _ _ (λ _. tt) (λ _. λ m h. is m.exp ∙ h)

  pub other_occurs : (w : Within) (at : Span) (p : Manner) (t : Ty) (y : Ty-F Ty) → Kept D (written e) (table.other_row w at p e t y)
  other_occurs w at p t (Ty-F.List x) = element_occurs w at p t x (list_of_one x) (one_noted x)
  other_occurs w at p t (Ty-F.Opt x) = element_occurs w at p t x il.Present noted-Present
  other_occurs w at p t y = tt

  pub eps_occurs : (at : Span) (t : Ty) (y : Ty-F Ty) → opened e ≡ Node-F.Eps → Kept D (written e) (table.eps_row at t y)
  eps_occurs at t (Ty-F.List x) is = noted-List x [] ∙ sym (written-Eps e is)
  eps_occurs at t (Ty-F.Opt x) is = noted-Empty x ∙ sym (written-Eps e is)
  eps_occurs at t y is = tt

  pub concatenation_occurs : (w : Within) (at : Span) (l r : Exp) (t : Ty) → written e ≡ beside (written l) (written r) → Kept D (written e) (table.concatenation_row w at l r t)
  concatenation_occurs w at l r t is =
      joined_occurs D (Notes_as (written e)) at t (λ join. Asks (asked w l t) (λ a. Asks (asked w r t) (λ b. give (join a.exp b.exp) t)))
      (λ join j. λ a f b g. of_two D (written e) l r is (join a.exp b.exp) a.exp b.exp (j a.exp b.exp) f g)

-- ---- iterations

pub counted_occurs : (D : Decls) (Q : Made → Type 0) (w : Within) (c : Count) (y : Count-F Count Node Seg Exp) (next : Iteration → Step) → out-Count c ≡ y
    → ((k : Iteration) → round_of k ≡ round_written c → Keeps D Noted Q (next k)) → Keeps D Noted Q (table.counted_at w y next)
counted_occurs D Q w c Count-F.Star next is h = h iteration.Star (round-Star ∙ sym (count-Star c is))
counted_occurs D Q w c Count-F.Plus next is h = h iteration.Plus (round-Plus ∙ sym (count-Plus c is))
counted_occurs D Q w c Count-F.Quest next is h = h iteration.Quest (round-Quest ∙ sym (count-Quest c is))
counted_occurs D Q w c (Count-F.Times n) next is h = λ m f. h (iteration.Times m.exp) (round-Times m.exp ∙ ap (over_list false) f ∙ sym (count-Times c n is))
counted_occurs D Q w c (Count-F.Below index n) next is h = λ m f.
    h (iteration.Below index m.exp) (round-Below index m.exp ∙ (λ i. record (over_list false (f i)) { index = index ∷ [] }) ∙ sym (count-Below c index n is))

module _ (D : Decls) (S : Scope) (e b : Exp) (c : Count) (is : written e ≡ iterated (round_written c) (written b)) where
  pub iteration_occurs : (w : Within) (x : IlExp) (t : Ty) → noted x ≡ written b → Kept D (written e) (table.iteration S w c x t)
  iteration_occurs w x t h =
      let names : List (List ℕ) = iterated_names S w c (λ name. occurs name x) in
      counted_occurs D (Notes_as (written e)) w c (out-Count c) (λ k. give (il.Iter k names x) t) refl (λ k g. noted-Iter k names x ∙ (λ i. iterated (g i) (h i)) ∙ sym is)

  pub iterated_occurs : (w : Within) (at : Span) (p : Manner) (t : Ty) (y : Ty-F Ty) → Kept D (written e) (table.iteration_row S w at p e b c t y)
  iterated_occurs w at p t (Ty-F.List x) =
      keeps_if D Noted (Notes_as (written e)) (goes_over_list (out-Count c)) _ _ (λ _. λ m h. iteration_occurs w m.exp t h) (λ _. other_occurs D e w at p t (Ty-F.List x))
  iterated_occurs w at p t (Ty-F.Opt x) =
      keeps_if D Noted (Notes_as (written e)) (goes_over_list (out-Count c)) _ _ (λ _. other_occurs D e w at p t (Ty-F.Opt x)) (λ _. λ m h. iteration_occurs w m.exp t h)
  iterated_occurs w at p t y = other_occurs D e w at p t y

-- ---- sequences

item_noted : (m : Made) → noted_item (table.item_of m) ≡ noted m.exp
item_noted m = by m.spliced
  where
    by : (b : Bool) → noted_item (if b then part.All m.exp else part.One m.exp) ≡ noted m.exp
    by true = item-All m.exp
    by false = item-One m.exp

items_occur : (w : Within) (t x : Ty) (es : List Exp) (ms : List Made) → Claims Noted (map (item w t x) es) ms → map noted_item (map table.item_of ms) ≡ map written es
items_occur w t x [] [] c = refl
items_occur w t x [] (m ∷ ms) c = absurd c
items_occur w t x (e ∷ es) [] c = absurd c
items_occur w t x (e ∷ es) (m ∷ ms) c =
    let first = item_noted m ∙ c.0 in
    let rest = items_occur w t x es ms c.1 in
    λ i. first i ∷ rest i

module _ (D : Decls) where
  pub sequence_occurs : (w : Within) (at : Span) (es : List Exp) (t x : Ty) → Kept D (all_of (map written es)) (table.sequence w at es t x)
  sequence_occurs w at es t x = λ v _. keeps_if D Noted (Notes_as (all_of (map written es))) (is_collection v) _ _ (λ _. tt)
      (λ _. keeps_asks D Noted (Notes_as (all_of (map written es))) (map (item w t x) es) (λ ms. give (il.List x (map table.item_of ms)) t)
      (λ ms c. noted-List x (map table.item_of ms) ∙ ap all_of (items_occur w t x es ms c)))

  found_item_occurs : (at : Span) (t x : Ty) (m : Made) (e : Exp) → noted m.exp ≡ written e → Kept D (written e) (table.found_item at t x m)
  found_item_occurs at t x m e h = (
    (λ _. raised_occurs D (Notes_as (written e)) m x (λ y. give y x) (λ y k. k ∙ h)),
    (λ _. ((λ _. raised_occurs D (Notes_as (written e)) m t (λ y. table.splice (made y t)) (λ y k. k ∙ h)), (λ _. tt))),
  )

  pub item_occurs : (w : Within) (t x : Ty) (e : Exp) → Kept D (written e) (table.item_row w t x e)
  item_occurs w t x e =
      keeps_if D Noted (Notes_as (written e)) (is_spliced e) _ _ (λ _. λ m h. h)
      (λ _. keeps_if D Noted (Notes_as (written e)) (is_told_by_type e) _ _ (λ _. λ m h. found_item_occurs (place e) t x m e h) (λ _. λ m h. h))

  -- ---- holes

  run_at_occurs : (w : Within) (at : Span) (es : List Exp) (t : Ty) (y : Ty-F Ty) → Kept D (all_of (map written es)) (table.run_at w at es t y)
  run_at_occurs w at es t (Ty-F.List x) = sequence_occurs w at es t x
  run_at_occurs w at es t y = tt

  pub hole_occurs : (w : Within) (at : Span) (passed : List (List ℕ)) (filling : Filling) (t : Ty) → Kept D (filling_written filling) (table.hole_row w at passed filling t)
  hole_occurs w at passed (one e) t = λ m h. h
  hole_occurs w at passed (run []) t = noted-Absent t
  hole_occurs w at passed (run (e ∷ [])) t = λ m h. h ∙ sym (single (written e))
  hole_occurs w at passed (run (e ∷ f ∷ es)) t = λ u _. run_at_occurs w at (e ∷ f ∷ es) t (out-Ty u)
  hole_occurs w at passed missing t = noted-Absent t

  -- ---- tuples and calls

  module _ (T : Notes) (es : List Exp) (is : T ≡ all_of (map written es)) where
    pub tuple_occurs : (w : Within) (ts : List Ty) (t : Ty) → length es ≡ length ts → Kept D T (asks (each_asked w es ts) (λ ms. give (il.Tuple (exps ms)) t))
    tuple_occurs w ts t same = keeps_asks D Noted (Notes_as T) (each_asked w es ts) (λ ms. give (il.Tuple (exps ms)) t) (λ ms c. noted-Tuple (exps ms) ∙ ap all_of (each_occur w es ts ms same c) ∙ sym is)

    pub inferred_tuple_occurs : (w : Within) → Kept D T (inferred_tuple w es)
    inferred_tuple_occurs w = keeps_asks D Noted (Notes_as T) (map (found w) es) (λ ms. give (il.Tuple (exps ms)) (ty.Tuple (map ty_of ms))) (λ ms c. noted-Tuple (exps ms) ∙ ap all_of (found_occur w es ms c) ∙ sym is)

    pub call_occurs : (w : Within) (at : Span) (o : Option FunDef) → Kept D T (call_row w at es o)
    call_occurs w at None = tt
    call_occurs w at (Some f) = keeps_if D Noted (Notes_as T) (nat_eq (length es) (length f.params)) _ _
        (λ same. keeps_asks D Noted (Notes_as T) (each_asked w es f.params) (λ ms. give (il.Call f.name (exps ms)) f.result)
        (λ ms c. noted-Call f.name (exps ms) ∙ ap all_of (each_occur w es f.params ms (eqb-true (length es) (length f.params) same) c) ∙ sym is))
        (λ _. tt)

  -- ---- cases

  variant_occurs : (w : Within) (at : Span) (passed : List (List ℕ)) (e : Exp) (t : Ty) (y : Ty-F Ty) → Kept D (written e) (variant_row w at passed e t y)
  variant_occurs w at passed e t (Ty-F.Name variant) = keeps_if D Noted (Notes_as (written e)) (is_among variant passed) _ _ (λ _. tt) (λ _. (
    (λ c h. keeps_asks D Noted (Notes_as (written e)) (holes_behind w at (passed_on c.whole passed variant) c.fillings c.operands) (λ ms. give (il.Case c.name c.tag (exps ms)) t) (λ ms g.
        let case : CaseDef = record { tag = c.tag; operands = c.operands } in
        noted-Case c.name c.tag (exps ms) ∙ fills_occur D w at (passed_on c.whole passed variant) e case c.fillings ms h.filled g)),
    (λ _. tt),
  ))
  variant_occurs w at passed e t y = tt

  pub notation_occurs : (w : Within) (at : Span) (p : Manner) (e : Exp) (t u : Ty) → Kept D (written e) (notation_row w at p e t u)
  notation_occurs w at p e t u = ((λ _. variant_occurs w at p.passed e t (out-Ty u)), (λ _. other_occurs D e w at p t (out-Ty u)))

-- ---- records

-- what is aligned fills as many fields, and has the notes of the fields that are written
abbrev AlignsAs : List (List ℕ) → List (List ℕ × Exp) → List Filling → Type 0
AlignsAs names given fs = (length fs ≡ length names) × (all_of (map filling_written fs) ≡ all_of (map field_written given))

left_out : (name : List ℕ) (names : List (List ℕ)) (given : List (List ℕ × Exp)) (fs gs : List Filling) → fs ≡ missing ∷ gs → AlignsAs names given gs → AlignsAs (name ∷ names) given fs
left_out name names given fs gs is h = (ap length is ∙ ap suc h.0, ap (λ z. all_of (map filling_written z)) is ∙ h.1)

given_one : (name : List ℕ) (names : List (List ℕ)) (g : List ℕ × Exp) (given : List (List ℕ × Exp)) (fs gs : List Filling) → fs ≡ one g.1 ∷ gs → AlignsAs names given gs → AlignsAs (name ∷ names) (g ∷ given) fs
given_one name names g given fs gs is h = (ap length is ∙ ap suc h.0, ap (λ z. all_of (map filling_written z)) is ∙ (λ i. beside (written g.1) (h.1 i)))

aligned_occur : (names : List (List ℕ)) (ss : List Shape) (given : List (List ℕ × Exp)) (fs : List Filling) → aligned names ss given ≡ Some fs → AlignsAs names given fs
aligned_occur [] ss [] fs h =
    let same : [] ≡ fs = cc in
    subst (AlignsAs [] []) same (refl, refl)
aligned_occur [] ss (g ∷ given) fs h = absurd (cc)
aligned_occur (name ∷ names) [] given fs h = absurd (cc)
aligned_occur (name ∷ names) (s ∷ ss) [] fs h =
    let o = omitted_some s (aligned names ss []) fs h in
    left_out name names [] fs o.0 o.2 (aligned_occur names ss [] o.0 o.1)
aligned_occur (name ∷ names) (s ∷ ss) (g ∷ given) fs h = by (same_name name g.0) h (λ gs k. aligned_occur names ss given gs k) (λ gs k. aligned_occur names ss (g ∷ given) gs k)
  where
    by : (b : Bool) → (if b then option_map (λ (xs : List Filling). one g.1 ∷ xs) (aligned names ss given) else omitted s (aligned names ss (g ∷ given))) ≡ Some fs
        → ((gs : List Filling) → aligned names ss given ≡ Some gs → AlignsAs names given gs) → ((gs : List Filling) → aligned names ss (g ∷ given) ≡ Some gs → AlignsAs names (g ∷ given) gs)
        → AlignsAs (name ∷ names) (g ∷ given) fs
    by true k given_next other_next = let o = one_some g.1 (aligned names ss given) fs k in given_one name names g given fs o.0 o.2 (given_next o.0 o.1)
    by false k given_next other_next = let o = omitted_some s (aligned names ss (g ∷ given)) fs k in left_out name names (g ∷ given) fs o.0 o.2 (other_next o.0 o.1)

module _ (D : Decls) (T : Notes) (given : List (List ℕ × Exp)) (is : T ≡ all_of (map field_written given)) where
  filled_occurs : (w : Within) (at : Span) (name : List ℕ) (t : Ty) (declared : List (List ℕ × Ty)) (o : Option (List Filling))
      → ((fs : List Filling) → o ≡ Some fs → AlignsAs (field_names declared) given fs) → Kept D T (filled_fields w at name (field_types declared) t o)
  filled_occurs w at name t declared None h = tt
  filled_occurs w at name t declared (Some fs) h =
      let as' = h fs refl in
      let counted : length fs ≡ length (field_types declared) = as'.0 ∙ length-map declared (λ (f : List ℕ × Ty). f.0) ∙ sym (length-map declared (λ (f : List ℕ × Ty). f.1)) in
      keeps_asks D Noted (Notes_as T) (holes w at fs (field_types declared)) (λ ms. give (il.Fields name (exps ms)) t)
      (λ ms c. noted-Fields name (exps ms) ∙ ap all_of (holes_occur w at [] fs (field_types declared) ms counted c) ∙ as'.1 ∙ sym is)

  pub record_occurs : (w : Within) (at : Span) (p : Manner) (e : Exp) (t u : Ty) → T ≡ written e → Kept D T (record_row D w at p e given t u)
  record_occurs w at p e t u same = by (out-Ty t) (fields_of D.types u)
    where
      other : Kept D T (table.other_row w at p e t (out-Ty u))
      other = subst (λ z. Kept D z (table.other_row w at p e t (out-Ty u))) (sym same) (other_occurs D e w at p t (out-Ty u))

      by : (y : Ty-F Ty) (o : Option (List (List ℕ × Ty))) → Kept D T (record_by w at p e given t u y o)
      by (Ty-F.Name name) (Some declared) =
          keeps_shaped D Noted (Notes_as T) (field_types declared) (λ ss. filled_fields w at name (field_types declared) t (aligned (field_names declared) ss given))
          (λ ss. filled_occurs w at name t declared (aligned (field_names declared) ss given) (λ fs h. aligned_occur (field_names declared) ss given fs h))
      by (Ty-F.Name name) None = other
      by y o = other
