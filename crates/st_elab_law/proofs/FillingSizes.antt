-- What fills the holes of a notation is no larger than the expression, and smaller where no hole takes the whole.
use Rattle.std.proofs.Common.{◌≡◌, refl, sym, ◌∙◌, ap, subst, ℕ, zero, suc, ◌<◌, ◌≤◌, List, [], ◌∷◌, ◌++◌, length, take, drop, Bool, true, false, inl, inr, arith}
use Rattle.std.proofs.lemmas.List.{length-map}
use Rattle.std.specs.Prelude.{◌⊎◌, Some, if◌then◌else◌, ◌&&◌, nat_eq}
use Rattle.std.specs.List.{AllByRecursion}
use Rattle.st_num.specs.declared.mark.Mark.{Mark}
use Rattle.st_el.specs.declared.expression.Exp.{Exp, out-Exp, fold_out-Exp}
use Rattle.st_el.specs.declared.expression.Node.{Node, fold-Node, map-Node, fold_out-Node}
use Rattle.st_el.specs.declared.expression.Count.{Count, fold-Count}
use Rattle.st_el.specs.declared.expression.Count.TheOpen.{Node-F}
use Rattle.st_el.specs.declared.expression.Seg.{Seg, fold-Seg}
use Rattle.st_il.specs.declared.template.Template.{Template, out-Template}
use Rattle.st_il.specs.declared.template.Template.TheOpen.{Template-F}
use Rattle.st_notation.specs.declared.filled.Shape.{Shape}
use Rattle.st_notation.specs.declared.filled.Shape.TheVariants as shape
use Rattle.st_notation.specs.Elements.{opened, parentheses_at, parentheses, inner_at, without, bare, elements_at, elements, before}
use Rattle.st_notation.specs.Fits.{Filling, one, run, missing, Take, one_element, shared_run, run_to, run_up_to, takes, Fits, hole, atom, bracket, sides, sequence, FitInOrder, end, next_atom, next_bracket, next_hole, FitsWhole}
use Rattle.st_elab_table.specs.Forms.{single_at, form_exp_at, is_single}
use Rattle.st_elab_table.specs.Choice.{is_hole, takes_whole_at, takes_whole}
use Rattle.st_elab_law.proofs.Sizes.{size, size-level, AllBelow, elements-below}

-- ---- parentheses round the whole

without-size : (n : ℕ) (e : Exp) → size (without n e) ≤ size e
without-size zero e = omega arith
without-size (suc n) e =
    let rest : size (without n (inner_at e (opened e))) ≤ size (inner_at e (opened e)) = without-size n (inner_at e (opened e)) in
    let first : size (inner_at e (opened e)) ≤ size e = inner (opened e) refl in
    omega (arith, rest, first)
  where
    inner : (y : Node-F Count Node Seg Exp) → opened e ≡ y → size (inner_at e y) ≤ size e
    inner (Node-F.Paren b) is = let l = size-level e (Node-F.Paren b) is in omega (arith, l)
    inner y is = omega arith

bare-size : (e : Exp) → size (bare e) ≤ size e
bare-size e = without-size (parentheses e) e

abbrev no_count : Count → ℕ
no_count = fold-Count ℕ ℕ ℕ ℕ (λ count. 0) parentheses_at (λ seg. 0) (λ e. e.node)

abbrev no_node : Node → ℕ
no_node = fold-Node ℕ ℕ ℕ ℕ (λ count. 0) parentheses_at (λ seg. 0) (λ e. e.node)

abbrev no_step : Seg → ℕ
no_step = fold-Seg ℕ ℕ ℕ ℕ (λ count. 0) parentheses_at (λ seg. 0) (λ e. e.node)

parentheses-level : (e : Exp) (y : Node-F Count Node Seg Exp) → opened e ≡ y → parentheses e ≡ parentheses_at (map-Node Count Node Seg Exp ℕ ℕ ℕ ℕ no_count no_node no_step parentheses y)
parentheses-level e y is =
    fold_out-Exp ℕ ℕ ℕ ℕ (λ count. 0) parentheses_at (λ seg. 0) (λ e. e.node) e ∙ fold_out-Node ℕ ℕ ℕ ℕ (λ count. 0) parentheses_at (λ seg. 0) (λ e. e.node) (out-Exp e).node
    ∙ ap (λ z. parentheses_at (map-Node Count Node Seg Exp ℕ ℕ ℕ ℕ no_count no_node no_step parentheses z)) is

-- nothing is left of the parentheses
without-paren : (n : ℕ) (e b : Exp) → parentheses e ≡ n → opened (without n e) ≡ Node-F.Paren b → ⊥
without-paren zero e b is paren = let l : parentheses e ≡ suc (parentheses b) = parentheses-level e (Node-F.Paren b) paren in absurd (omega (arith, l, is))
without-paren (suc n) e b is paren = by (opened e) refl (λ c. without-paren n c b)
  where
    by : (y : Node-F Count Node Seg Exp) → opened e ≡ y → ((c : Exp) → parentheses c ≡ n → opened (without n c) ≡ Node-F.Paren b → ⊥) → ⊥
    by (Node-F.Paren c) o go =
        let l : parentheses e ≡ suc (parentheses c) = parentheses-level e (Node-F.Paren c) o in
        go c (omega (arith, l, is)) (subst (λ z. opened (without n (inner_at e z)) ≡ Node-F.Paren b) o paren)
    by y o go = let l : parentheses e ≡ 0 = parentheses-level e y o in absurd (omega (arith, l, is))

bare-paren : (e b : Exp) → opened (bare e) ≡ Node-F.Paren b → ⊥
bare-paren e b = without-paren (parentheses e) e b refl

-- ---- one element

abbrev single_count : Count → Bool
single_count = fold-Count Bool Bool Bool Bool (λ count. true) single_at (λ step. true) form_exp_at

abbrev single_node : Node → Bool
single_node = fold-Node Bool Bool Bool Bool (λ count. true) single_at (λ step. true) form_exp_at

abbrev single_step : Seg → Bool
single_step = fold-Seg Bool Bool Bool Bool (λ count. true) single_at (λ step. true) form_exp_at

single-level : (e : Exp) (y : Node-F Count Node Seg Exp) → opened e ≡ y → is_single e ≡ single_at (map-Node Count Node Seg Exp Bool Bool Bool Bool single_count single_node single_step is_single y)
single-level e y is =
    fold_out-Exp Bool Bool Bool Bool (λ count. true) single_at (λ step. true) form_exp_at e ∙ fold_out-Node Bool Bool Bool Bool (λ count. true) single_at (λ step. true) form_exp_at (out-Exp e).node
    ∙ ap (λ z. single_at (map-Node Count Node Seg Exp Bool Bool Bool Bool single_count single_node single_step is_single z)) is

single-without : (n : ℕ) (e : Exp) → is_single (without n e) ≡ is_single e
single-without zero e = refl
single-without (suc n) e = single-without n (inner_at e (opened e)) ∙ inner (opened e) refl
  where
    inner : (y : Node-F Count Node Seg Exp) → opened e ≡ y → is_single (inner_at e y) ≡ is_single e
    inner (Node-F.Paren b) is = sym (single-level e (Node-F.Paren b) is)
    inner y is = refl

single-bare : (e : Exp) → is_single (bare e) ≡ is_single e
single-bare e = single-without (parentheses e) e

-- ---- elements

-- the expression is its only element, or else its elements are smaller
abbrev Elements : Exp → List Exp → Type 0
Elements e es = ((es ≡ e ∷ []) × (is_single e ≡ true)) ⊎ AllBelow (size e) es

elements-of : (e : Exp) → ((b : Exp) → opened e ≡ Node-F.Paren b → ⊥) → Elements e (elements e)
elements-of e paren = by (opened e) refl
  where
    counted : (es : List Exp) (c : Bool) → opened e ≡ Node-F.Seq es → nat_eq (length es) 1 ≡ c → Elements e (if c then e ∷ [] else es)
    counted es true is n = inl (refl, single-level e (Node-F.Seq es) is ∙ ap (λ k. nat_eq k 1) (length-map es is_single) ∙ n)
    counted es false is n = inr (elements-below e es is)

    by : (y : Node-F Count Node Seg Exp) → opened e ≡ y → Elements e (elements_at e y)
    by (Node-F.Seq es) is = counted es (nat_eq (length es) 1) is refl
    by (Node-F.Paren b) is = absurd (paren b is)
    by y is = inl (refl, single-level e y is)

below-more : (n m : ℕ) (es : List Exp) → n ≤ m → AllBelow n es → AllBelow m es
below-more n m [] l h = tt
below-more n m (e ∷ es) l h = (let first : size e < n = h.0 in omega (arith, first, l), below-more n m es l h.1)

-- the elements are smaller than what is larger than the expression
elements-under : (e : Exp) (n : ℕ) → size e < n → AllBelow n (elements (bare e))
elements-under e n h = by (elements (bare e)) (elements-of (bare e) (bare-paren e))
  where
    by : (es : List Exp) → Elements (bare e) es → AllBelow n es
    by es (inl k) = let l = bare-size e in subst (AllBelow n) (sym k.0) (omega (arith, l, h), tt)
    by es (inr k) = let l = bare-size e in below-more (size (bare e)) n es (omega (arith, l, h)) k

-- ---- what a hole takes

-- each expression in it is smaller than so much
abbrev Smaller : ℕ → Filling → Type 0
Smaller n (one e) = size e < n
Smaller n (run es) = AllBelow n es
Smaller n missing = Unit {0}

all_append : (P : Filling → Type 0) (xs ys : List Filling) → AllByRecursion P xs → AllByRecursion P ys → AllByRecursion P (xs ++ ys)
all_append P [] ys h k = k
all_append P (x ∷ xs) ys h k = (h.0, all_append P xs ys h.1 k)

-- What holds of one element and of front elements holds of what a hole takes.
module _ (P : Filling → Type 0) (Q : List Exp → Type 0) (of_one : (e : Exp) (es : List Exp) → Q (e ∷ es) → P (one e)) (of_run : (k : ℕ) (es : List Exp) → Q es → P (run (take k es))) (of_none : P missing) where
  element-taken : (es : List Exp) (taken : Take) → one_element es ≡ Some taken → Q es → P taken.filling
  element-taken [] taken is h = absurd (cc)
  element-taken (e ∷ es) taken is h = let same : record { filling = one e; count = 1 } ≡ taken = cc in subst (λ (z : Take). P z.filling) same (of_one e es h)

  run-taken : (es : List Exp) (k : ℕ) (taken : Take) → run_to es k ≡ Some taken → Q es → P taken.filling
  run-taken es k taken is h = let same : shared_run es k ≡ taken = cc in subst (λ (z : Take). P z.filling) same (of_run k es h)

  up_to-taken : (y : Template-F Template) (es : List Exp) (taken : Take) → run_up_to y es ≡ Some taken → Q es → P taken.filling
  up_to-taken (Template-F.Atom name) es taken is h = run-taken es (before name es) taken is h
  up_to-taken Template-F.Hole es taken is h = element-taken es taken is h
  up_to-taken (Template-F.Seq parts) es taken is h = element-taken es taken is h
  up_to-taken (Template-F.Infix left sign right) es taken is h = element-taken es taken is h
  up_to-taken (Template-F.Bracket opening inside) es taken is h = element-taken es taken is h

  hole-taken : (s : Shape) (ts : List Template) (es : List Exp) (taken : Take) → takes s ts es ≡ Some taken → Q es → P taken.filling
  hole-taken shape.Plain ts es taken is h = element-taken es taken is h
  hole-taken shape.List [] es taken is h = run-taken es (length es) taken is h
  hole-taken shape.List (next ∷ ts) es taken is h = up_to-taken (out-Template next) es taken is h
  hole-taken shape.Opt [] [] taken is h = let same : record { filling = missing; count = 0 } ≡ taken = cc in subst (λ (z : Take). P z.filling) same of_none
  hole-taken shape.Opt [] (e ∷ es) taken is h = element-taken (e ∷ es) taken is h
  hole-taken shape.Opt (next ∷ ts) es taken is h = element-taken es taken is h

  -- what holds of the elements holds of what fills the holes of a sequence
  module _ (of_rest : (k : ℕ) (es : List Exp) → Q es → Q (drop k es)) (of_tail : (e : Exp) (es : List Exp) → Q (e ∷ es) → Q es)
      (of_inner : (opening : Mark) (inside : Template) (ss : List Shape) (e inner : Exp) (es : List Exp) (fs : List Filling) → Q (e ∷ es) → opened e ≡ Node-F.Bracket opening inner → Fits inside ss inner fs → AllByRecursion P fs) where
    in_order : (ts : List Template) (ss : List Shape) (es : List Exp) (fs : List Filling) → FitInOrder ts ss es fs → Q es → AllByRecursion P fs
    in_order [] ss [] [] end h = tt
    in_order [] ss [] (f ∷ fs) order h = elim order [ ]
    in_order [] ss (e ∷ es) fs order h = elim order [ ]
    in_order (t ∷ ts) ss (e ∷ es) fs (next_atom name is a rest) h = in_order ts ss es fs rest (of_tail e es h)
    in_order (t ∷ ts) ss (e ∷ es) all (next_bracket {fs = fs} {gs = gs} opening inside inner is o first rest) h =
        all_append P fs gs (of_inner opening inside ss e inner es fs h o first) (in_order ts (drop (length fs) ss) es gs rest (of_tail e es h))
    in_order (t ∷ ts) (s ∷ ss) es (f ∷ fs) (next_hole taken is k rest) h = (hole-taken s ts es taken k h, in_order ts ss (drop taken.count es) fs rest (of_rest taken.count es h))

take-below : (n k : ℕ) (es : List Exp) → AllBelow n es → AllBelow n (take k es)
take-below n zero es h = tt
take-below n (suc k) [] h = tt
take-below n (suc k) (e ∷ es) h = (h.0, take-below n k es h.1)

drop-below : (n k : ℕ) (es : List Exp) → AllBelow n es → AllBelow n (drop k es)
drop-below n zero es h = h
drop-below n (suc k) [] h = tt
drop-below n (suc k) (e ∷ es) h = drop-below n k es h.1

abbrev taken-below : (n : ℕ) (s : Shape) (ts : List Template) (es : List Exp) (taken : Take) → takes s ts es ≡ Some taken → AllBelow n es → Smaller n taken.filling
taken-below n = hole-taken (Smaller n) (AllBelow n) (λ e es h. h.0) (λ k es h. take-below n k es h) tt

mutual
  -- what fills the holes is smaller than what is larger than the expression
  Fits-smaller : (n : ℕ) (t : Template) (ss : List Shape) (e : Exp) (fs : List Filling) → Fits t ss e fs → size e < n → AllByRecursion (Smaller n) fs
  Fits-smaller n t ss e fs (hole is) h = (h, tt)
  Fits-smaller n t ss e fs (atom name is a) h = tt
  Fits-smaller n t ss e fs (bracket opening inside inner is o fits) h =
      let l = bare-size e in let k : size (bare e) ≡ suc (size inner) = size-level (bare e) (Node-F.Bracket opening inner) o in
      Fits-smaller n inside ss inner fs fits (omega (arith, l, k, h))
  Fits-smaller n t ss e all (sides {fs = fs} {gs = gs} left sign right a b is o first second) h =
      let l = bare-size e in let k = size-level (bare e) (Node-F.Infix a sign b) o in
      all_append (Smaller n) fs gs (Fits-smaller n left ss a fs first (omega (arith, l, k, h))) (Fits-smaller n right (drop (length fs) ss) b gs second (omega (arith, l, k, h)))
  Fits-smaller n t ss e fs (sequence parts is order) h = FitInOrder-smaller n parts ss (elements (bare e)) fs order (elements-under e n h)

  FitInOrder-smaller : (n : ℕ) (ts : List Template) (ss : List Shape) (es : List Exp) (fs : List Filling) → FitInOrder ts ss es fs → AllBelow n es → AllByRecursion (Smaller n) fs
  FitInOrder-smaller n [] ss [] [] end h = tt
  FitInOrder-smaller n [] ss [] (f ∷ fs) order h = elim order [ ]
  FitInOrder-smaller n [] ss (e ∷ es) fs order h = elim order [ ]
  FitInOrder-smaller n (t ∷ ts) ss (e ∷ es) fs (next_atom name is a rest) h = FitInOrder-smaller n ts ss es fs rest h.1
  FitInOrder-smaller n (t ∷ ts) ss (e ∷ es) all (next_bracket {fs = fs} {gs = gs} opening inside inner is o first rest) h =
      let k : size e ≡ suc (size inner) = size-level e (Node-F.Bracket opening inner) o in let l : size e < n = h.0 in
      all_append (Smaller n) fs gs (Fits-smaller n inside ss inner fs first (omega (arith, k, l))) (FitInOrder-smaller n ts (drop (length fs) ss) es gs rest h.1)
  FitInOrder-smaller n (t ∷ ts) (s ∷ ss) es (f ∷ fs) (next_hole taken is k rest) h =
      (taken-below n s ts es taken k h, FitInOrder-smaller n ts ss (drop taken.count es) fs rest (drop-below n taken.count es h))

-- ---- the whole

-- an expression that fills a hole is no larger than so much, and smaller where none takes the whole
abbrev pub Fitting : Bool → ℕ → Exp → Type 0
Fitting true n e = size e ≤ n
Fitting false n e = size e < n

-- So is what fills a hole; two elements and more are smaller.
abbrev pub FillsBelow : Bool → ℕ → Filling → Type 0
FillsBelow whole n (one e) = Fitting whole n e
FillsBelow whole n (run []) = Unit {0}
FillsBelow whole n (run (e ∷ [])) = Fitting whole n e
FillsBelow whole n (run (e ∷ f ∷ es)) = AllBelow n (e ∷ f ∷ es)
FillsBelow whole n missing = Unit {0}

fitting-smaller : (whole : Bool) (n : ℕ) (e : Exp) → size e < n → Fitting whole n e
fitting-smaller true n e h = omega (arith, h)
fitting-smaller false n e h = h

fills-smaller : (whole : Bool) (n : ℕ) (f : Filling) → Smaller n f → FillsBelow whole n f
fills-smaller whole n (one e) h = fitting-smaller whole n e h
fills-smaller whole n (run []) h = tt
fills-smaller whole n (run (e ∷ [])) h = fitting-smaller whole n e h.0
fills-smaller whole n (run (e ∷ f ∷ es)) h = h
fills-smaller whole n missing h = tt

all-smaller : (whole : Bool) (n : ℕ) (fs : List Filling) → AllByRecursion (Smaller n) fs → AllByRecursion (FillsBelow whole n) fs
all-smaller whole n [] h = tt
all-smaller whole n (f ∷ fs) h = (fills-smaller whole n f h.0, all-smaller whole n fs h.1)

take-nil : (k : ℕ) → take {A = Exp} k [] ≡ []
take-nil zero = refl
take-nil (suc k) = refl

drop-nil : (k : ℕ) → drop {A = Exp} k [] ≡ []
drop-nil zero = refl
drop-nil (suc k) = refl

-- where no element is left, nothing is taken
none-left : (whole : Bool) (n : ℕ) (ts : List Template) (ss : List Shape) (fs : List Filling) → FitInOrder ts ss [] fs → AllByRecursion (FillsBelow whole n) fs
none-left whole n ts ss fs h =
    in_order (FillsBelow whole n) (λ es. es ≡ []) (λ e es is. absurd (cc)) (λ k es is. subst (λ z. FillsBelow whole n (run (take k z))) (sym is) (subst (λ z. FillsBelow whole n (run z)) (sym (take-nil k)) tt)) tt
    (λ k es is. ap (drop k) is ∙ drop-nil k) (λ e es is. absurd (cc)) (λ opening inside ss e inner es fs is o fits. absurd (cc)) ts ss [] fs h refl

module _ (n : ℕ) (c : Exp) (low : size c ≤ n) where
  -- no element is left, or this one
  abbrev Left : List Exp → Type 0
  Left es = (es ≡ []) ⊎ (es ≡ c ∷ [])

  left-one : (e : Exp) (es : List Exp) → Left (e ∷ es) → e ≡ c
  left-one e es (inl is) = cc
  left-one e es (inr is) = cc

  left-tail : (e : Exp) (es : List Exp) → Left (e ∷ es) → Left es
  left-tail e es (inl is) = absurd (cc)
  left-tail e es (inr is) = inl (cc)

  left-drop : (k : ℕ) (es : List Exp) → Left es → Left (drop k es)
  left-drop k es (inl is) = inl (ap (drop k) is ∙ drop-nil k)
  left-drop zero es (inr is) = inr is
  left-drop (suc k) es (inr is) = inl (ap (drop (suc k)) is ∙ drop-nil k)

  left-run : (k : ℕ) (es : List Exp) → Left es → FillsBelow true n (run (take k es))
  left-run k es (inl is) = subst (λ z. FillsBelow true n (run (take k z))) (sym is) (subst (λ z. FillsBelow true n (run z)) (sym (take-nil k)) tt)
  left-run zero es (inr is) = tt
  left-run (suc k) es (inr is) = subst (λ z. FillsBelow true n (run (take (suc k) z))) (sym is) (subst (λ z. FillsBelow true n (run (c ∷ z))) (sym (take-nil k)) low)

  inner-left : (whole : Bool) (opening : Mark) (inside : Template) (ss : List Shape) (e inner : Exp) (fs : List Filling) → e ≡ c → opened e ≡ Node-F.Bracket opening inner → Fits inside ss inner fs
      → AllByRecursion (FillsBelow whole n) fs
  inner-left whole opening inside ss e inner fs same o fits =
      let k : size e ≡ suc (size inner) = size-level e (Node-F.Bracket opening inner) o in
      let l : size e ≡ size c = ap size same in
      all-smaller whole n fs (Fits-smaller n inside ss inner fs fits (omega (arith, k, l, low)))

  one-left : (ts : List Template) (ss : List Shape) (es : List Exp) (fs : List Filling) → FitInOrder ts ss es fs → Left es → AllByRecursion (FillsBelow true n) fs
  one-left =
      in_order (FillsBelow true n) Left (λ e es h. let l : size e ≡ size c = ap size (left-one e es h) in omega (arith, l, low)) left-run tt left-drop left-tail
      (λ opening inside ss e inner es fs h o fits. inner-left true opening inside ss e inner fs (left-one e es h) o fits)

  -- the parts of a sequence that is fitted by this element alone
  alone-fits : (single : Bool) (ts : List Template) (ss : List Shape) (es : List Exp) (fs : List Filling) → single ≡ true → es ≡ c ∷ [] → FitInOrder ts ss es fs
      → AllByRecursion (FillsBelow (takes_whole_at (Template-F.Seq ts) single) n) fs
  alone-fits single [] ss [] fs is only order = absurd (cc)
  alone-fits single [] ss (e ∷ es) fs is only order = elim order [ ]
  alone-fits single (t ∷ ts) ss (e ∷ es) fs is only (next_atom name out a rest) =
      none-left (is_hole (out-Template t) && single) n ts ss fs (subst (λ z. FitInOrder ts ss z fs) (cc) rest)
  alone-fits single (t ∷ ts) ss (e ∷ es) all is only (next_bracket {fs = fs} {gs = gs} opening inside inner out o first rest) =
      all_append (FillsBelow (is_hole (out-Template t) && single) n) fs gs (inner-left (is_hole (out-Template t) && single) opening inside ss e inner fs (cc) o first)
      (none-left (is_hole (out-Template t) && single) n ts (drop (length fs) ss) gs (subst (λ z. FitInOrder ts (drop (length fs) ss) z gs) (cc) rest))
  alone-fits single (t ∷ ts) (s ∷ ss) es (f ∷ fs) is only (next_hole taken out k rest) =
      subst (λ b. AllByRecursion (FillsBelow b n) (f ∷ fs)) (sym (ap (λ y. is_hole y && single) out ∙ is)) (one-left (t ∷ ts) (s ∷ ss) es (f ∷ fs) (next_hole taken out k rest) (inr only))

-- what fills the holes where an expression fits a template as a whole
pub FitsWhole-below : (t : Template) (ss : List Shape) (e : Exp) (fs : List Filling) → FitsWhole t ss e fs → AllByRecursion (FillsBelow (takes_whole t e) (size e)) fs
FitsWhole-below t ss e fs (hole is) = (subst (λ y. FillsBelow (takes_whole_at y (is_single e)) (size e) (one (bare e))) (sym is) (bare-size e), tt)
FitsWhole-below t ss e fs (atom name is a) = tt
FitsWhole-below t ss e fs (bracket opening inside inner is o fits) =
    let l = bare-size e in let m = bare-size (bare e) in let k : size (bare (bare e)) ≡ suc (size inner) = size-level (bare (bare e)) (Node-F.Bracket opening inner) o in
    all-smaller (takes_whole t e) (size e) fs (Fits-smaller (size e) inside ss inner fs fits (omega (arith, l, m, k)))
FitsWhole-below t ss e all (sides {fs = fs} {gs = gs} left sign right a b is o first second) =
    let l = bare-size e in let m = bare-size (bare e) in let k = size-level (bare (bare e)) (Node-F.Infix a sign b) o in
    all-smaller (takes_whole t e) (size e) (fs ++ gs)
    (all_append (Smaller (size e)) fs gs (Fits-smaller (size e) left ss a fs first (omega (arith, l, m, k))) (Fits-smaller (size e) right (drop (length fs) ss) b gs second (omega (arith, l, m, k))))
FitsWhole-below t ss e fs (sequence parts is order) =
    subst (λ y. AllByRecursion (FillsBelow (takes_whole_at y (is_single e)) (size e)) fs) (sym is) (by (elements inside) (elements-of inside (bare-paren (bare e))) order)
  where
    inside : Exp
    inside = bare (bare e)

    low : size (bare (bare e)) ≤ size e
    low = let l = bare-size e in let m = bare-size (bare e) in omega (arith, l, m)

    by : (es : List Exp) → Elements (bare (bare e)) es → FitInOrder parts ss es fs → AllByRecursion (FillsBelow (takes_whole_at (Template-F.Seq parts) (is_single e)) (size e)) fs
    by es (inl k) order =
        alone-fits (size e) (bare (bare e)) low (is_single e) parts ss es fs (sym (single-bare (bare e) ∙ single-bare e) ∙ k.1) k.0 order
    by es (inr k) order =
        all-smaller (takes_whole_at (Template-F.Seq parts) (is_single e)) (size e) fs
        (FitInOrder-smaller (size e) parts ss es fs order (below-more (size (bare (bare e))) (size e) es low k))
