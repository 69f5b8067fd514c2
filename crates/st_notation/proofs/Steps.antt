-- Steps through the parts of a template, as the code takes them.
use Rattle.std.proofs.Common.{◌≡◌, refl, sym, ◌∙◌, ap, subst, ℕ, ◌+◌, ◌≤◌, List, [], ◌∷◌, ◌++◌, length, drop, append_assoc, true, false, arith, append-nil, suc, get_or, drop-cons, add-one, ◌<◌}
use Rattle.std.specs.Prelude.{Some, Result, Ok, Err, if◌then◌else◌, slice_get, ◌==◌}
use Rattle.std.proofs.lemmas.List.{map-append, length-map}
use Rattle.std.proofs.Math.Seq.{drop-length}
use Rattle.std.proofs.lemmas.Bool.Decides.{nat_tests}
use Rattle.st_num.specs.declared.mark.Mark.{Mark}
use Rattle.st_num.specs.declared.span.Span.{Span}
use Rattle.st_el.specs.declared.expression.Exp.{Exp}
use Rattle.st_el.specs.declared.expression.Count.TheOpen.{Node-F}
use Rattle.st_il.specs.declared.template.Template.{Template, out-Template}
use Rattle.st_il.specs.declared.template.Template.TheOpen.{Template-F}
use Rattle.st_notation.specs.declared.filled.Shape.{Shape}
use Rattle.st_notation.specs.declared.filled.Filled.{Filled}
use Rattle.st_notation.specs.declared.filled.FitFault.{FitFault}
use Rattle.st_notation.specs.declared.filled.FitFault.TheVariants as fault
use Rattle.st_notation.specs.Elements.{opened, bare, elements, is_atom, begins, before}
use Rattle.st_notation.specs.Fits.{Filling, one, Take, takes, Fits, hole, atom, bracket, sides, sequence, FitInOrder, end, next_atom, next_bracket, next_hole}
use Rattle.st_notation.specs.Fitted.{Refuses, Fitted, plain, fillings}
use Rattle.st_notation.specs.inner.Steps.{Reaches}
use Rattle.st_notation.proofs.FitsLemmas.{Fits-in-Atom, Fits-in-Bracket, Fits-in-Infix, Fits-in-Seq, FitInOrder-in-Atom, FitInOrder-in-Bracket, FitInOrder-in-Hole, Fits-single}

-- ---- ways through a sequence

pub Reaches-more : (ts us vs : List Template) (ss rs qs : List Shape) (es xs ys : List Exp) (fs gs : List Filling)
    → Reaches ts ss es fs us rs xs → Reaches us rs xs gs vs qs ys → Reaches ts ss es (fs ++ gs) vs qs ys
Reaches-more ts us vs ss rs qs es xs ys fs gs h k = record {
  goes = λ hs m. subst (λ z. FitInOrder ts ss es z) (sym (append_assoc fs gs hs)) (h.goes (gs ++ hs) (k.goes hs m));
  back = λ hs m. let there = h.back hs m in k.back there.0 there.1;
}

pub Reaches-at : (ts us vs : List Template) (ss rs qs : List Shape) (es xs ys : List Exp) (fs gs : List Filling) (t : Template)
    → us ≡ t ∷ vs → Reaches ts ss es fs us rs xs → Reaches (t ∷ vs) rs xs gs vs qs ys → Reaches ts ss es (fs ++ gs) vs qs ys
Reaches-at ts us vs ss rs qs es xs ys fs gs t e h k =
    Reaches-more ts (t ∷ vs) vs ss rs qs es xs ys fs gs (subst (λ z. Reaches ts ss es fs z rs xs) e h) k

-- one turn of the loop through the parts
pub turn : (ts : List Template) (i : ℕ) (t : Template) (vs : List Template) (ss rs qs : List Shape) (es xs ys : List Exp) (old taken new : List Filled) (n : ℕ)
    → i < length ts → t ≡ get_or ts i t → vs ≡ drop (i + 1) ts → qs ≡ drop (length taken) rs → ys ≡ drop n xs → new ≡ old ++ taken
    → Reaches ts ss es (fillings old) (drop i ts) rs xs → Reaches (t ∷ vs) rs xs (fillings taken) vs (drop (length taken) rs) (drop n xs)
    → Reaches ts ss es (fillings new) (drop (i + 1) ts) qs ys
turn ts i t vs ss rs qs es xs ys old taken new n lt at behind shapes left all h k =
    let front : drop i ts ≡ t ∷ vs = drop-cons ts i t lt ∙ ap (λ z. z ∷ drop (suc i) ts) (sym at) ∙ ap (λ z. t ∷ drop z ts) (sym (add-one i)) ∙ ap (λ z. t ∷ z) (sym behind) in
    let both : Reaches ts ss es (fillings old ++ fillings taken) vs (drop (length taken) rs) (drop n xs) =
    Reaches-at ts (drop i ts) vs ss rs (drop (length taken) rs) es xs (drop n xs) (fillings old) (fillings taken) t front h k in
    subst (λ z. Reaches ts ss es z (drop (i + 1) ts) qs ys) (sym (ap fillings all ∙ map-append plain old taken))
    (subst (λ z. Reaches ts ss es (fillings old ++ fillings taken) z qs ys) behind
    (subst (λ z. Reaches ts ss es (fillings old ++ fillings taken) vs z ys) (sym shapes)
    (subst (λ z. Reaches ts ss es (fillings old ++ fillings taken) vs (drop (length taken) rs) z) (sym left) both)))

pub empty-is : (xs : List Exp) → true ≡ (length xs == 0) → xs ≡ []
empty-is [] e = refl
empty-is (x ∷ xs) e = grind (arith, nat_tests, e)

pub empty-is_not : (xs : List Exp) → false ≡ (length xs == 0) → xs ≡ [] → ⊥
empty-is_not xs e k = let l : false ≡ true = e ∙ ap (λ z. length {A = Exp} z == 0) k in cc

pub loop-end : (ts : List Template) (i : ℕ) → length ts ≤ i → i ≤ length ts → drop i ts ≡ []
loop-end ts i h k = let e : i ≡ length ts = omega arith in ap (λ z. drop z ts) e ∙ drop-length ts

-- a refusal of a call is handed on
pub Fitted-err : (at : Span) (P : List Filling → Type 0) (answer : Result (List Filled) FitFault) (refused : FitFault) → answer ≡ Err refused → Refuses at P refused → Fitted at P answer
Fitted-err at P answer refused e h = subst (λ z. Fitted at P z) (sym e) h

pub Reaches-end : (ts : List Template) (ss rs : List Shape) (es xs : List Exp) (fs : List Filling) → xs ≡ [] → Reaches ts ss es fs [] rs xs → FitInOrder ts ss es fs
Reaches-end ts ss rs es xs fs e h =
    subst (λ z. FitInOrder ts ss es z) (append-nil fs) (h.goes [] (subst (λ z. FitInOrder [] rs z []) (sym e) end))

end-only : (rs : List Shape) (xs : List Exp) (gs : List Filling) → FitInOrder [] rs xs gs → xs ≡ []
end-only rs xs gs end = refl

pub Reaches-left : (ts : List Template) (ss rs : List Shape) (es xs : List Exp) (fs : List Filling) → (xs ≡ [] → ⊥) → Reaches ts ss es fs [] rs xs
    → (gs : List Filling) → FitInOrder ts ss es gs → ⊥
Reaches-left ts ss rs es xs fs some h gs k = let left = h.back gs k in some (end-only rs xs left.0 left.1)

pub first-is : {X : Type 0} (xs : List X) (x : X) → slice_get xs 0 ≡ Some x → xs ≡ x ∷ drop 1 xs
first-is [] x e = cc
first-is (y ∷ ys) x e = let same : y ≡ x = cc in ap (λ z. z ∷ ys) same

-- ---- parts of a sequence

atom-reaches : (t : Template) (ts : List Template) (ss : List Shape) (es : List Exp) (name : List ℕ) → out-Template t ≡ Template-F.Atom name → begins name es ≡ true
    → Reaches (t ∷ ts) ss es [] ts (drop 0 ss) (drop 1 es)
atom-reaches t ts ss [] name p b = absurd (cc)
atom-reaches t ts ss (e ∷ es) name p b = record {
  goes = λ gs h. next_atom name p b h;
  back = λ gs h. let found = FitInOrder-in-Atom t ts ss (e ∷ es) gs name p h in
      let all : e ∷ es ≡ found.first ∷ found.rest = found.all in
      let same : found.rest ≡ es = cc in
      (gs, subst (λ z. FitInOrder ts ss z gs) same found.fit);
}

pub atom-took : (t : Template) (ts : List Template) (ss : List Shape) (es : List Exp) (name : List ℕ) (filled : List Filled) → out-Template t ≡ Template-F.Atom name
    → begins name es ≡ true → filled ≡ [] → Reaches (t ∷ ts) ss es (fillings filled) ts (drop (length filled) ss) (drop 1 es)
atom-took t ts ss es name filled p b e = subst (λ z. Reaches (t ∷ ts) ss es (fillings z) ts (drop (length z) ss) (drop 1 es)) (sym e) (atom-reaches t ts ss es name p b)

pub atom-missed : (t : Template) (ts : List Template) (ss : List Shape) (es : List Exp) (name : List ℕ) → out-Template t ≡ Template-F.Atom name → begins name es ≡ false
    → (fs : List Filling) → FitInOrder (t ∷ ts) ss es fs → ⊥
atom-missed t ts ss es name p b fs h =
    let found = FitInOrder-in-Atom t ts ss es fs name p h in
    let is : is_atom name found.first ≡ true = found.is in
    let here : begins name es ≡ is_atom name found.first = ap (begins name) found.all in
    cc

hole-reaches : (t : Template) (ts : List Template) (s : Shape) (ss : List Shape) (es : List Exp) (taken : Take) → out-Template t ≡ Template-F.Hole → takes s ts es ≡ Some taken
    → Reaches (t ∷ ts) (s ∷ ss) es (taken.filling ∷ []) ts (drop 1 (s ∷ ss)) (drop taken.count es)
hole-reaches t ts s ss es taken p n = record {
  goes = λ gs h. next_hole taken p n h;
  back = λ gs h. let found = FitInOrder-in-Hole t ts (s ∷ ss) es gs p h in
      let all : s ∷ ss ≡ found.shape ∷ found.shapes = found.all in
      let same_shape : found.shape ≡ s = cc in
      let same_shapes : found.shapes ≡ ss = cc in
      let is : takes s ts es ≡ Some found.taken = ap (λ z. takes z ts es) (sym same_shape) ∙ found.is in
      let same_taken : found.taken ≡ taken = cc in
      (found.others, subst (λ z. FitInOrder ts ss (drop z.count es) found.others) same_taken (subst (λ z. FitInOrder ts z (drop found.taken.count es) found.others) same_shapes found.fit));
}

pub hole-took : (t : Template) (ts : List Template) (s : Shape) (ss rest : List Shape) (es : List Exp) (taken : Take) (filled : List Filled) (filling : Filled) (count : ℕ)
    → out-Template t ≡ Template-F.Hole → ss ≡ s ∷ rest → takes s ts es ≡ Some taken → taken ≡ record { filling = plain filling; count = count } → filled ≡ filling ∷ []
    → Reaches (t ∷ ts) ss es (fillings filled) ts (drop (length filled) ss) (drop count es)
hole-took t ts s ss rest es taken filled filling count p a n k e =
    subst (λ z. Reaches (t ∷ ts) ss es (fillings z) ts (drop (length z) ss) (drop count es)) (sym e)
    (subst (λ z. Reaches (t ∷ ts) z es (plain filling ∷ []) ts (drop 1 z) (drop count es)) (sym a)
    (subst (λ z. Reaches (t ∷ ts) (s ∷ rest) es (z.filling ∷ []) ts (drop 1 (s ∷ rest)) (drop z.count es)) k (hole-reaches t ts s rest es taken p n)))

bracket-reaches : (t : Template) (ts : List Template) (ss : List Shape) (e : Exp) (es : List Exp) (o : Mark) (i : Template) (x : Exp) (fs : List Filling)
    → out-Template t ≡ Template-F.Bracket o i → opened e ≡ Node-F.Bracket o x → Fits i ss x fs
    → Reaches (t ∷ ts) ss (e ∷ es) fs ts (drop (length fs) ss) (drop 1 (e ∷ es))
bracket-reaches t ts ss e es o i x fs p n f = record {
  goes = λ gs h. next_bracket o i x p n f h;
  back = λ gs h. let found = FitInOrder-in-Bracket t ts ss (e ∷ es) gs o i p h in
      let all : e ∷ es ≡ found.first ∷ found.rest = found.all in
      let is : opened found.first ≡ Node-F.Bracket o found.inner = found.is in
      let same_rest : found.rest ≡ es = cc in
      let same_first : found.first ≡ e = cc in
      let same_inner : found.inner ≡ x = cc in
      let inners : fs ≡ found.inners = Fits-single i ss x fs found.inners f (subst (λ z. Fits i ss z found.inners) same_inner found.fits_inner) in
      (found.others, subst (λ z. FitInOrder ts (drop (length z) ss) es found.others) (sym inners) (subst (λ z. FitInOrder ts (drop (length found.inners) ss) z found.others) same_rest found.fit));
}

pub bracket-took : (t : Template) (ts : List Template) (ss : List Shape) (e : Exp) (es all : List Exp) (o : Mark) (i : Template) (x : Exp) (filled : List Filled)
    → out-Template t ≡ Template-F.Bracket o i → all ≡ e ∷ es → opened e ≡ Node-F.Bracket o x → Fits i ss x (fillings filled)
    → Reaches (t ∷ ts) ss all (fillings filled) ts (drop (length filled) ss) (drop 1 all)
bracket-took t ts ss e es all o i x filled p a n f =
    subst (λ z. Reaches (t ∷ ts) ss z (fillings filled) ts (drop (length filled) ss) (drop 1 z)) (sym a)
    (subst (λ z. Reaches (t ∷ ts) ss (e ∷ es) (fillings filled) ts (drop z ss) (drop 1 (e ∷ es))) (length-map filled plain) (bracket-reaches t ts ss e es o i x (fillings filled) p n f))

-- ---- forms of a template

pub atom-fails : (t : Template) (ss : List Shape) (e : Exp) (name : List ℕ) → out-Template t ≡ Template-F.Atom name → is_atom name (bare e) ≡ false
    → (fs : List Filling) → Fits t ss e fs → ⊥
atom-fails t ss e name p none fs h = let is = (Fits-in-Atom t ss e fs name p h).1 in let it : is_atom name (bare e) ≡ true = is in cc

pub atom-fits : (t : Template) (ss : List Shape) (e : Exp) (name : List ℕ) (filled : List Filled) → out-Template t ≡ Template-F.Atom name → is_atom name (bare e) ≡ true → filled ≡ []
    → Fits t ss e (fillings filled)
atom-fits t ss e name filled p is e' = subst (λ z. Fits t ss e (fillings z)) (sym e') (atom name p is)

pub hole-fits : (t : Template) (ss : List Shape) (e : Exp) (filled : List Filled) → out-Template t ≡ Template-F.Hole → fillings filled ≡ one e ∷ [] → Fits t ss e (fillings filled)
hole-fits t ss e filled p k = subst (λ z. Fits t ss e z) (sym k) (hole p)

pub bracket-fails : (t : Template) (ss : List Shape) (e : Exp) (o : Mark) (i : Template) → out-Template t ≡ Template-F.Bracket o i → ((x : Exp) → opened (bare e) ≡ Node-F.Bracket o x → ⊥)
    → (fs : List Filling) → Fits t ss e fs → ⊥
bracket-fails t ss e o i p none fs h = let found = Fits-in-Bracket t ss e fs o i p h in none found.0 found.1

-- an answer for what is the same is an answer
pub Fitted-moved : (at : Span) (P Q : List Filling → Type 0) → ((fs : List Filling) → P fs → Q fs) → ((fs : List Filling) → Q fs → P fs)
    → (answer : Result (List Filled) FitFault) → Fitted at P answer → Fitted at Q answer
Fitted-moved at P Q there back (Ok found) h = there (fillings found) h
Fitted-moved at P Q there back (Err (fault.NoFit at')) h = (h.0, λ fs k. h.1 fs (back fs k))
Fitted-moved at P Q there back (Err fault.Memory) h = tt

pub bracket-answers : (at : Span) (t : Template) (ss : List Shape) (e : Exp) (o : Mark) (i : Template) (x : Exp) → out-Template t ≡ Template-F.Bracket o i → opened (bare e) ≡ Node-F.Bracket o x
    → (answer : Result (List Filled) FitFault) → Fitted at (Fits i ss x) answer → Fitted at (Fits t ss e) answer
bracket-answers at t ss e o i x p n = Fitted-moved at (Fits i ss x) (Fits t ss e) (λ fs h. bracket o i x p n h)
    (λ fs h. let found = Fits-in-Bracket t ss e fs o i p h in
    let is : opened (bare e) ≡ Node-F.Bracket o found.0 = found.1 in
    let same : found.0 ≡ x = cc in subst (λ z. Fits i ss z fs) same found.2)

pub sequence-answers : (at : Span) (t : Template) (ss : List Shape) (e : Exp) (parts : List Template) → out-Template t ≡ Template-F.Seq parts
    → (answer : Result (List Filled) FitFault) → Fitted at (FitInOrder parts ss (elements (bare e))) answer → Fitted at (Fits t ss e) answer
sequence-answers at t ss e parts p = Fitted-moved at (FitInOrder parts ss (elements (bare e))) (Fits t ss e) (λ fs h. sequence parts p h) (λ fs h. Fits-in-Seq t ss e fs parts p h)

pub sides-fail : (t : Template) (ss : List Shape) (e : Exp) (l : Template) (s : Mark) (r : Template) → out-Template t ≡ Template-F.Infix l s r → ((a b : Exp) → opened (bare e) ≡ Node-F.Infix a s b → ⊥)
    → (fs : List Filling) → Fits t ss e fs → ⊥
sides-fail t ss e l s r p none fs h = let found = Fits-in-Infix t ss e fs l s r p h in none found.left found.right found.is

pub sides-fit : (t : Template) (ss : List Shape) (e : Exp) (l : Template) (s : Mark) (r : Template) (a b : Exp) (xs ys filled : List Filled) → out-Template t ≡ Template-F.Infix l s r
    → opened (bare e) ≡ Node-F.Infix a s b → Fits l ss a (fillings xs) → Fits r (drop (length xs) ss) b (fillings ys) → filled ≡ xs ++ ys → Fits t ss e (fillings filled)
sides-fit t ss e l s r a b xs ys filled p n h k all =
    subst (λ z. Fits t ss e z) (sym (ap fillings all ∙ map-append plain xs ys))
    (sides l s r a b p n h (subst (λ z. Fits r (drop z ss) b (fillings ys)) (sym (length-map xs plain)) k))

pub right-refuses : (at : Span) (t : Template) (ss : List Shape) (e : Exp) (l : Template) (s : Mark) (r : Template) (a b : Exp) (xs : List Filled) (refused : FitFault) → out-Template t ≡ Template-F.Infix l s r
    → opened (bare e) ≡ Node-F.Infix a s b → Fits l ss a (fillings xs) → Refuses at (Fits r (drop (length xs) ss) b) refused → Refuses at (Fits t ss e) refused
right-refuses at t ss e l s r a b xs (fault.NoFit there) p n h none = (
  none.0,
  λ fs k.
      let found = Fits-in-Infix t ss e fs l s r p k in
      let is : opened (bare e) ≡ Node-F.Infix found.left s found.right = found.is in
      let same_left : found.left ≡ a = cc in
      let same_right : found.right ≡ b = cc in
      let lefts : fillings xs ≡ found.lefts = Fits-single l ss a (fillings xs) found.lefts h (subst (λ z. Fits l ss z found.lefts) same_left found.fits_left) in
      let count : length found.lefts ≡ length xs = ap length (sym lefts) ∙ length-map xs plain in
      none.1 found.rights (subst (λ z. Fits r (drop z ss) b found.rights) count (subst (λ z. Fits r (drop (length found.lefts) ss) z found.rights) same_right found.fits_right)),
)
right-refuses at t ss e l s r a b xs fault.Memory p n h none = tt

-- ---- runs

pub before-within : (name : List ℕ) (es : List Exp) → before name es ≤ length es
before-within name [] = omega arith
before-within name (e ∷ es) = elim (is_atom name e) as (λ b. (if b then 0 else suc (before name es)) ≤ suc (length es)) [ true ↦ omega arith | false ↦ let k = before-within name es in omega (arith, k) ]
