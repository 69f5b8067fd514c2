-- What fills the holes of a template begins where what is in the expression does.
use Rattle.std.proofs.Common.{◌≡◌, subst, ℕ, zero, suc, List, [], ◌∷◌, ◌++◌, take, drop, length, Bool, true, false}
use Rattle.std.specs.Prelude.{Some, nat_eq, if◌then◌else◌}
use Rattle.std.specs.List.{AllByRecursion}
use Rattle.st_num.specs.declared.mark.Mark.{Mark}
use Rattle.st_num.specs.declared.span.Span.{Span}
use Rattle.st_el.specs.declared.expression.Exp.{Exp}
use Rattle.st_el.specs.declared.expression.Node.{Node}
use Rattle.st_el.specs.declared.expression.Count.{Count}
use Rattle.st_el.specs.declared.expression.Count.TheOpen.{Node-F}
use Rattle.st_el.specs.declared.expression.Seg.{Seg}
use Rattle.st_il.specs.declared.template.Template.{Template, out-Template}
use Rattle.st_il.specs.declared.template.Template.TheOpen.{Template-F}
use Rattle.st_notation.specs.declared.filled.Shape.{Shape}
use Rattle.st_notation.specs.declared.filled.Shape.TheVariants as shape
use Rattle.st_notation.specs.Elements.{opened, inner_at, parentheses, without, bare, elements_at, elements, before}
use Rattle.st_notation.specs.Fits.{Filling, one, run, missing, Take, one_element, shared_run, run_to, run_up_to, takes, Fits, hole, atom, bracket, sides, sequence, FitInOrder, end, next_atom, next_bracket, next_hole}
use Rattle.st_elab_law.proofs.ExpStands.{ExpStands, NodeStands, of_seq, of_infix, of_paren, of_bracket, ExpsStand, no_exps, exps, ExpStands-parts, ExpStands-opened}

module _ (P : Span → Type 0) where
  -- what fills a hole begins at such places
  abbrev pub FillingStands : Filling → Type 0
  FillingStands (one e) = ExpStands P e
  FillingStands (run es) = ExpsStand P es
  FillingStands missing = Unit {0}

  abbrev pub FillingsStand : List Filling → Type 0
  FillingsStand = AllByRecursion FillingStands

  fillings_append : (fs gs : List Filling) → FillingsStand fs → FillingsStand gs → FillingsStand (fs ++ gs)
  fillings_append [] gs h k = k
  fillings_append (f ∷ fs) gs h k = (h.0, fillings_append fs gs h.1 k)

  -- ---- elements

  take_stands : (k : ℕ) (es : List Exp) → ExpsStand P es → ExpsStand P (take k es)
  take_stands zero es h = no_exps
  take_stands (suc k) [] h = no_exps
  take_stands (suc k) (e ∷ es) (exps h hs) = exps h (take_stands k es hs)

  drop_stands : (k : ℕ) (es : List Exp) → ExpsStand P es → ExpsStand P (drop k es)
  drop_stands zero es h = h
  drop_stands (suc k) [] h = no_exps
  drop_stands (suc k) (e ∷ es) (exps h hs) = drop_stands k es hs

  inner_stands : (e : Exp) (y : Node-F Count Node Seg Exp) → ExpStands P e → NodeStands P y → ExpStands P (inner_at e y)
  inner_stands e (Node-F.Paren inner) h (of_paren k) = k
  inner_stands e y h k = h

  without_stands : (n : ℕ) (e : Exp) → ExpStands P e → ExpStands P (without n e)
  without_stands zero e h = h
  without_stands (suc n) e h = without_stands n (inner_at e (opened e)) (inner_stands e (opened e) h (ExpStands-parts P h))

  -- without the parentheses round the whole
  pub ExpStands-bare : (e : Exp) → ExpStands P e → ExpStands P (bare e)
  ExpStands-bare e h = without_stands (parentheses e) e h

  elements_stand : (e : Exp) (y : Node-F Count Node Seg Exp) → ExpStands P e → NodeStands P y → ExpsStand P (elements_at e y)
  elements_stand e (Node-F.Seq es) h (of_seq k) = by (nat_eq (length es) 1)
    where
      by : (b : Bool) → ExpsStand P (if b then e ∷ [] else es)
      by true = exps h no_exps
      by false = k
  elements_stand e y h k = exps h no_exps

  ExpsStand-elements : (e : Exp) → ExpStands P e → ExpsStand P (elements e)
  ExpsStand-elements e h = elements_stand e (opened e) h (ExpStands-parts P h)

  -- ---- what a hole takes

  one_stands : (es : List Exp) (taken : Take) → one_element es ≡ Some taken → ExpsStand P es → FillingStands taken.filling
  one_stands [] taken is h = absurd (cc)
  one_stands (e ∷ es) taken is (exps h hs) = let same : record { filling = one e; count = 1 } ≡ taken = cc in subst (λ (z : Take). FillingStands z.filling) same h

  run_stands : (es : List Exp) (k : ℕ) (taken : Take) → run_to es k ≡ Some taken → ExpsStand P es → FillingStands taken.filling
  run_stands es k taken is h = let same : shared_run es k ≡ taken = cc in subst (λ (z : Take). FillingStands z.filling) same (take_stands k es h)

  up_to_stands : (y : Template-F Template) (es : List Exp) (taken : Take) → run_up_to y es ≡ Some taken → ExpsStand P es → FillingStands taken.filling
  up_to_stands (Template-F.Atom name) es taken is h = run_stands es (before name es) taken is h
  up_to_stands Template-F.Hole es taken is h = one_stands es taken is h
  up_to_stands (Template-F.Seq parts) es taken is h = one_stands es taken is h
  up_to_stands (Template-F.Infix left sign right) es taken is h = one_stands es taken is h
  up_to_stands (Template-F.Bracket opening inside) es taken is h = one_stands es taken is h

  taken_stands : (s : Shape) (ts : List Template) (es : List Exp) (taken : Take) → takes s ts es ≡ Some taken → ExpsStand P es → FillingStands taken.filling
  taken_stands shape.Plain ts es taken is h = one_stands es taken is h
  taken_stands shape.List [] es taken is h = run_stands es (length es) taken is h
  taken_stands shape.List (next ∷ ts) es taken is h = up_to_stands (out-Template next) es taken is h
  taken_stands shape.Opt [] [] taken is h = let same : record { filling = missing; count = 0 } ≡ taken = cc in subst (λ (z : Take). FillingStands z.filling) same tt
  taken_stands shape.Opt [] (e ∷ es) taken is h = one_stands (e ∷ es) taken is h
  taken_stands shape.Opt (next ∷ ts) es taken is h = one_stands es taken is h

  -- ---- fitting

  sides_of : (sign : Mark) (l r : Exp) → NodeStands P (Node-F.Infix l sign r) → ExpStands P l × ExpStands P r
  sides_of sign l r (of_infix h k) = (h, k)

  inner_of : (opening : Mark) (inner : Exp) → NodeStands P (Node-F.Bracket opening inner) → ExpStands P inner
  inner_of opening inner (of_bracket h) = h

  mutual
    -- what fills the holes where an expression fits a template
    pub Fits-stands : (t : Template) (ss : List Shape) (e : Exp) (fs : List Filling) → Fits t ss e fs → ExpStands P e → FillingsStand fs
    Fits-stands t ss e fs (hole is) h = (h, tt)
    Fits-stands t ss e fs (atom name is a) h = tt
    Fits-stands t ss e fs (bracket opening inside inner is o fits) h =
        Fits-stands inside ss inner fs fits (inner_of opening inner (ExpStands-opened P (Node-F.Bracket opening inner) o (ExpStands-bare e h)))
    Fits-stands t ss e all (sides {fs = fs} {gs = gs} left sign right a b is o first second) h =
        let parts = sides_of sign a b (ExpStands-opened P (Node-F.Infix a sign b) o (ExpStands-bare e h)) in
        fillings_append fs gs (Fits-stands left ss a fs first parts.0) (Fits-stands right (drop (length fs) ss) b gs second parts.1)
    Fits-stands t ss e fs (sequence parts is order) h = FitInOrder-stands parts ss (elements (bare e)) fs order (ExpsStand-elements (bare e) (ExpStands-bare e h))

    FitInOrder-stands : (ts : List Template) (ss : List Shape) (es : List Exp) (fs : List Filling) → FitInOrder ts ss es fs → ExpsStand P es → FillingsStand fs
    FitInOrder-stands [] ss [] [] end h = tt
    FitInOrder-stands [] ss [] (f ∷ fs) order h = elim order [ ]
    FitInOrder-stands [] ss (e ∷ es) fs order h = elim order [ ]
    FitInOrder-stands (t ∷ ts) ss (e ∷ es) fs (next_atom name is a rest) (exps h hs) = FitInOrder-stands ts ss es fs rest hs
    FitInOrder-stands (t ∷ ts) ss (e ∷ es) all (next_bracket {fs = fs} {gs = gs} opening inside inner is o first rest) (exps h hs) =
        fillings_append fs gs (Fits-stands inside ss inner fs first (inner_of opening inner (ExpStands-opened P (Node-F.Bracket opening inner) o h))) (FitInOrder-stands ts (drop (length fs) ss) es gs rest hs)
    FitInOrder-stands (t ∷ ts) (s ∷ ss) es (f ∷ fs) (next_hole taken is k rest) h =
        (taken_stands s ts es taken k h, FitInOrder-stands ts ss (drop taken.count es) fs rest (drop_stands taken.count es h))
