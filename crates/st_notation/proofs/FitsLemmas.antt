-- What a fit to each form of template is made of, and that there is at most one.
use Rattle.std.proofs.Common.{◌≡◌, refl, sym, ◌∙◌, ap, subst, ℕ, List, [], ◌∷◌, ◌++◌, length, drop, map, ◌+◌, arith, length-append}
use Rattle.std.proofs.lemmas.List.Sums.{sum_by-cons}
use Rattle.std.specs.Prelude.{Some, IsTrue, sum}
use Rattle.st_num.specs.declared.mark.Mark.{Mark}
use Rattle.st_el.specs.declared.expression.Exp.{Exp}
use Rattle.st_el.specs.declared.expression.Count.TheOpen.{Node-F}
use Rattle.st_il.specs.declared.template.Template.{Template, out-Template, map-Template, fold_out-Template}
use Rattle.st_il.specs.declared.template.Template.TheOpen.{Template-F}
use Rattle.st_notation.specs.declared.filled.Shape.{Shape}
use Rattle.st_notation.specs.Elements.{opened, bare, elements, is_atom}
use Rattle.st_notation.specs.Fits.{Filling, one, Take, takes, Fits, hole, atom, bracket, sides, sequence, FitInOrder, end, next_atom, next_bracket, next_hole}
use Rattle.st_il.specs.Template.{holes, holes_at}

-- ---- the whole

pub Fits-in-Hole : (t : Template) (ss : List Shape) (e : Exp) (fs : List Filling) → out-Template t ≡ Template-F.Hole → Fits t ss e fs → fs ≡ one e ∷ []
Fits-in-Hole t ss e fs p (hole q) = refl
Fits-in-Hole t ss e fs p (atom n q a) = cc
Fits-in-Hole t ss e fs p (bracket o i x q n h) = cc
Fits-in-Hole t ss e fs p (sides l s r a b q n h k) = cc
Fits-in-Hole t ss e fs p (sequence ts q h) = cc

pub Fits-in-Atom : (t : Template) (ss : List Shape) (e : Exp) (fs : List Filling) (name : List ℕ) → out-Template t ≡ Template-F.Atom name → Fits t ss e fs
    → (fs ≡ []) × IsTrue (is_atom name (bare e))
Fits-in-Atom t ss e fs name p (hole q) = absurd (cc)
Fits-in-Atom t ss e fs name p (atom n q a) =
    let same : n ≡ name = cc in
    (refl, subst (λ z. IsTrue (is_atom z (bare e))) same a)
Fits-in-Atom t ss e fs name p (bracket o i x q n h) = absurd (cc)
Fits-in-Atom t ss e fs name p (sides l s r a b q n h k) = absurd (cc)
Fits-in-Atom t ss e fs name p (sequence ts q h) = absurd (cc)

pub Fits-in-Bracket : (t : Template) (ss : List Shape) (e : Exp) (fs : List Filling) (o : Mark) (i : Template) → out-Template t ≡ Template-F.Bracket o i → Fits t ss e fs
    → (x : Exp) × (opened (bare e) ≡ Node-F.Bracket o x) × Fits i ss x fs
Fits-in-Bracket t ss e fs o i p (hole q) = absurd (cc)
Fits-in-Bracket t ss e fs o i p (atom n q a) = absurd (cc)
Fits-in-Bracket t ss e fs o i p (bracket o' i' x q n h) =
    let same : i' ≡ i = cc in
    (x, cc, subst (λ z. Fits z ss x fs) same h)
Fits-in-Bracket t ss e fs o i p (sides l s r a b q n h k) = absurd (cc)
Fits-in-Bracket t ss e fs o i p (sequence ts q h) = absurd (cc)

-- what two sides are made of
pub record OfSides (ss : List Shape) (e : Exp) (l : Template) (s : Mark) (r : Template) (fs : List Filling) : Type 0 where
  pub left : Exp
  pub right : Exp
  pub lefts : List Filling
  pub rights : List Filling
  pub is : opened (bare e) ≡ Node-F.Infix left s right
  pub fits_left : Fits l ss left lefts
  pub fits_right : Fits r (drop (length lefts) ss) right rights
  pub all : fs ≡ lefts ++ rights

pub Fits-in-Infix : (t : Template) (ss : List Shape) (e : Exp) (fs : List Filling) (l : Template) (s : Mark) (r : Template) → out-Template t ≡ Template-F.Infix l s r → Fits t ss e fs
    → OfSides ss e l s r fs
Fits-in-Infix t ss e fs l s r p (hole q) = absurd (cc)
Fits-in-Infix t ss e fs l s r p (atom n q a) = absurd (cc)
Fits-in-Infix t ss e fs l s r p (bracket o i x q n h) = absurd (cc)
Fits-in-Infix t ss e fs l s r p (sides {fs = xs} {gs = ys} l' s' r' a b q n h k) =
    let one_side : l' ≡ l = cc in
    let other_side : r' ≡ r = cc in
    record {
      left = a;
      right = b;
      lefts = xs;
      rights = ys;
      is = cc;
      fits_left = subst (λ z. Fits z ss a xs) one_side h;
      fits_right = subst (λ z. Fits z (drop (length xs) ss) b ys) other_side k;
      all = refl;
    }
Fits-in-Infix t ss e fs l s r p (sequence ts q h) = absurd (cc)

pub Fits-in-Seq : (t : Template) (ss : List Shape) (e : Exp) (fs : List Filling) (parts : List Template) → out-Template t ≡ Template-F.Seq parts → Fits t ss e fs
    → FitInOrder parts ss (elements (bare e)) fs
Fits-in-Seq t ss e fs parts p (hole q) = absurd (cc)
Fits-in-Seq t ss e fs parts p (atom n q a) = absurd (cc)
Fits-in-Seq t ss e fs parts p (bracket o i x q n h) = absurd (cc)
Fits-in-Seq t ss e fs parts p (sides l s r a b q n h k) = absurd (cc)
Fits-in-Seq t ss e fs parts p (sequence ts q h) =
    let same : ts ≡ parts = cc in
    subst (λ z. FitInOrder z ss (elements (bare e)) fs) same h

-- ---- a sequence

pub record OfAtom (ts : List Template) (ss : List Shape) (es : List Exp) (fs : List Filling) (name : List ℕ) : Type 0 where
  pub first : Exp
  pub rest : List Exp
  pub all : es ≡ first ∷ rest
  pub is : IsTrue (is_atom name first)
  pub fit : FitInOrder ts ss rest fs

pub FitInOrder-in-Atom : (t : Template) (ts : List Template) (ss : List Shape) (es : List Exp) (fs : List Filling) (name : List ℕ)
    → out-Template t ≡ Template-F.Atom name → FitInOrder (t ∷ ts) ss es fs → OfAtom ts ss es fs name
FitInOrder-in-Atom t ts ss es fs name p (next_atom {e = e} {es = rest} n q a h) =
    let same : n ≡ name = cc in
    record { first = e; rest = rest; all = refl; is = subst (λ z. IsTrue (is_atom z e)) same a; fit = h }
FitInOrder-in-Atom t ts ss es fs name p (next_bracket o i x q n h k) = absurd (cc)
FitInOrder-in-Atom t ts ss es fs name p (next_hole taken q n h) = absurd (cc)

pub record OfBracket (ts : List Template) (ss : List Shape) (es : List Exp) (fs : List Filling) (o : Mark) (i : Template) : Type 0 where
  pub first : Exp
  pub rest : List Exp
  pub inner : Exp
  pub inners : List Filling
  pub others : List Filling
  pub all : es ≡ first ∷ rest
  pub is : opened first ≡ Node-F.Bracket o inner
  pub fits_inner : Fits i ss inner inners
  pub fit : FitInOrder ts (drop (length inners) ss) rest others
  pub both : fs ≡ inners ++ others

pub FitInOrder-in-Bracket : (t : Template) (ts : List Template) (ss : List Shape) (es : List Exp) (fs : List Filling) (o : Mark) (i : Template)
    → out-Template t ≡ Template-F.Bracket o i → FitInOrder (t ∷ ts) ss es fs → OfBracket ts ss es fs o i
FitInOrder-in-Bracket t ts ss es fs o i p (next_atom n q a h) = absurd (cc)
FitInOrder-in-Bracket t ts ss es fs o i p (next_bracket {e = e} {es = rest} {fs = xs} {gs = ys} o' i' x q n h k) =
    let same : i' ≡ i = cc in
    record { first = e; rest = rest; inner = x; inners = xs; others = ys; all = refl; is = cc; fits_inner = subst (λ z. Fits z ss x xs) same h; fit = k; both = refl }
FitInOrder-in-Bracket t ts ss es fs o i p (next_hole taken q n h) = absurd (cc)

pub record OfHole (ts : List Template) (ss : List Shape) (es : List Exp) (fs : List Filling) : Type 0 where
  pub shape : Shape
  pub shapes : List Shape
  pub taken : Take
  pub others : List Filling
  pub all : ss ≡ shape ∷ shapes
  pub is : takes shape ts es ≡ Some taken
  pub fit : FitInOrder ts shapes (drop taken.count es) others
  pub both : fs ≡ taken.filling ∷ others

pub FitInOrder-in-Hole : (t : Template) (ts : List Template) (ss : List Shape) (es : List Exp) (fs : List Filling)
    → out-Template t ≡ Template-F.Hole → FitInOrder (t ∷ ts) ss es fs → OfHole ts ss es fs
FitInOrder-in-Hole t ts ss es fs p (next_atom n q a h) = absurd (cc)
FitInOrder-in-Hole t ts ss es fs p (next_bracket o i x q n h k) = absurd (cc)
FitInOrder-in-Hole t ts ss es fs p (next_hole {s = s} {ss = others} {fs = xs} taken q n h) =
    record { shape = s; shapes = others; taken = taken; others = xs; all = refl; is = n; fit = h; both = refl }

-- ---- at most one

mutual
  -- an expression fits a template in one way at most
  pub Fits-single : (t : Template) (ss : List Shape) (e : Exp) (fs gs : List Filling) → Fits t ss e fs → Fits t ss e gs → fs ≡ gs
  Fits-single t ss e fs gs (hole p) other = sym (Fits-in-Hole t ss e gs p other)
  Fits-single t ss e fs gs (atom n p a) other = sym (Fits-in-Atom t ss e gs n p other).0
  Fits-single t ss e fs gs (bracket o i x p n h) other =
      let found = Fits-in-Bracket t ss e gs o i p other in
      let is : opened (bare e) ≡ Node-F.Bracket o found.0 = found.1 in
      let same : found.0 ≡ x = cc in
      Fits-single i ss x fs gs h (subst (λ z. Fits i ss z gs) same found.2)
  Fits-single t ss e fs gs (sides {fs = xs} {gs = ys} l s r a b p n h k) other =
      let found = Fits-in-Infix t ss e gs l s r p other in
      let is : opened (bare e) ≡ Node-F.Infix found.left s found.right = found.is in
      let same_left : found.left ≡ a = cc in
      let same_right : found.right ≡ b = cc in
      let lefts : xs ≡ found.lefts = Fits-single l ss a xs found.lefts h (subst (λ z. Fits l ss z found.lefts) same_left found.fits_left) in
      let rights : ys ≡ found.rights = Fits-single r (drop (length xs) ss) b ys found.rights k
      (subst (λ z. Fits r (drop (length z) ss) b found.rights) (sym lefts) (subst (λ z. Fits r (drop (length found.lefts) ss) z found.rights) same_right found.fits_right)) in
      ap (λ z. z ++ ys) lefts ∙ ap (λ z. found.lefts ++ z) rights ∙ sym found.all
  Fits-single t ss e fs gs (sequence ts p h) other =
      FitInOrder-single ts ss (elements (bare e)) fs gs h (Fits-in-Seq t ss e gs ts p other)

  pub FitInOrder-single : (ts : List Template) (ss : List Shape) (es : List Exp) (fs gs : List Filling) → FitInOrder ts ss es fs → FitInOrder ts ss es gs → fs ≡ gs
  FitInOrder-single ts ss es fs gs end end = refl
  FitInOrder-single (t ∷ ts) ss es fs gs (next_atom {es = rest} n p a h) other =
      let found = FitInOrder-in-Atom t ts ss es gs n p other in
      let all : es ≡ found.first ∷ found.rest = found.all in
      let same : found.rest ≡ rest = cc in
      FitInOrder-single ts ss rest fs gs h (subst (λ z. FitInOrder ts ss z gs) same found.fit)
  FitInOrder-single (t ∷ ts) ss es fs gs (next_bracket {e = e} {es = rest} {fs = xs} {gs = ys} o i x p n h k) other =
      let found = FitInOrder-in-Bracket t ts ss es gs o i p other in
      let all : es ≡ found.first ∷ found.rest = found.all in
      let is : opened found.first ≡ Node-F.Bracket o found.inner = found.is in
      let same_rest : found.rest ≡ rest = cc in
      let same_first : found.first ≡ e = cc in
      let same_inner : found.inner ≡ x = cc in
      let inners : xs ≡ found.inners = Fits-single i ss x xs found.inners h (subst (λ z. Fits i ss z found.inners) same_inner found.fits_inner) in
      let others : ys ≡ found.others = FitInOrder-single ts (drop (length xs) ss) rest ys found.others k
      (subst (λ z. FitInOrder ts (drop (length z) ss) rest found.others) (sym inners) (subst (λ z. FitInOrder ts (drop (length found.inners) ss) z found.others) same_rest found.fit)) in
      ap (λ z. z ++ ys) inners ∙ ap (λ z. found.inners ++ z) others ∙ sym found.both
  FitInOrder-single (t ∷ ts) ss es fs gs (next_hole {s = s} {ss = shapes} {fs = xs} taken p n h) other =
      let found = FitInOrder-in-Hole t ts ss es gs p other in
      let all : ss ≡ found.shape ∷ found.shapes = found.all in
      let same_shape : found.shape ≡ s = cc in
      let same_shapes : found.shapes ≡ shapes = cc in
      let is : takes s ts es ≡ Some found.taken = ap (λ z. takes z ts es) (sym same_shape) ∙ found.is in
      let same_taken : found.taken ≡ taken = cc in
      let others : xs ≡ found.others = FitInOrder-single ts shapes (drop taken.count es) xs found.others h
      (subst (λ z. FitInOrder ts shapes (drop z.count es) found.others) same_taken (subst (λ z. FitInOrder ts z (drop found.taken.count es) found.others) same_shapes found.fit)) in
      ap (λ z. taken.filling ∷ z) others ∙ ap (λ z. z.filling ∷ found.others) (sym same_taken) ∙ sym found.both

-- ---- one filling for each hole

holes-is : (t : Template) (x : Template-F Template) → out-Template t ≡ x → holes t ≡ holes_at (map-Template Template ℕ holes x)
holes-is t x p = fold_out-Template ℕ holes_at t ∙ ap (λ z. holes_at (map-Template Template ℕ holes z)) p

mutual
  pub Fits-length : (t : Template) (ss : List Shape) (e : Exp) (fs : List Filling) → Fits t ss e fs → length fs ≡ holes t
  Fits-length t ss e fs (hole p) = sym (holes-is t _ p)
  Fits-length t ss e fs (atom n p a) = sym (holes-is t _ p)
  Fits-length t ss e fs (bracket o i x p n h) = Fits-length i ss x fs h ∙ sym (holes-is t _ p)
  Fits-length t ss e fs (sides {fs = xs} {gs = ys} l s r a b p n h k) =
      length-append xs ys ∙ ap (λ z. z + length ys) (Fits-length l ss a xs h) ∙ ap (λ z. holes l + z) (Fits-length r (drop (length xs) ss) b ys k) ∙ sym (holes-is t _ p)
  Fits-length t ss e fs (sequence parts p h) = FitInOrder-length parts ss (elements (bare e)) fs h ∙ sym (holes-is t _ p)

  pub FitInOrder-length : (ts : List Template) (ss : List Shape) (es : List Exp) (fs : List Filling) → FitInOrder ts ss es fs → length fs ≡ sum (map holes ts)
  FitInOrder-length ts ss es fs end = refl
  FitInOrder-length (t ∷ ts) ss es fs (next_atom {es = others} n p a h) =
      let none : holes t ≡ 0 = holes-is t _ p in
      let rest : length fs ≡ sum (map holes ts) = FitInOrder-length ts ss others fs h in
      let all : sum (map holes (t ∷ ts)) ≡ holes t + sum (map holes ts) = sum_by-cons (λ (x : ℕ). x) (holes t) (map holes ts) in
      omega (arith, none, rest, all)
  FitInOrder-length (t ∷ ts) ss es fs (next_bracket {es = rest} {fs = xs} {gs = ys} o i x p n h k) =
      let inner : length xs ≡ holes t = Fits-length i ss x xs h ∙ sym (holes-is t _ p) in
      let others : length ys ≡ sum (map holes ts) = FitInOrder-length ts (drop (length xs) ss) rest ys k in
      let both : length fs ≡ length xs + length ys = length-append xs ys in
      let all : sum (map holes (t ∷ ts)) ≡ holes t + sum (map holes ts) = sum_by-cons (λ (x : ℕ). x) (holes t) (map holes ts) in
      omega (arith, inner, others, both, all)
  FitInOrder-length (t ∷ ts) ss es fs (next_hole {ss = others} {fs = xs} taken p n h) =
      let one_hole : holes t ≡ 1 = holes-is t _ p in
      let rest : length xs ≡ sum (map holes ts) = FitInOrder-length ts others (drop taken.count es) xs h in
      let all : sum (map holes (t ∷ ts)) ≡ holes t + sum (map holes ts) = sum_by-cons (λ (x : ℕ). x) (holes t) (map holes ts) in
      omega (arith, one_hole, rest, all)
