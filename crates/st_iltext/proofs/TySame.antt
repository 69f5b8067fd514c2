-- Types are equal where their trees are.
use Rattle.std.proofs.Common.{◌≡◌, ℕ, List, [], ◌∷◌, map, refl, sym, ap, ap₂, subst, ◌∙◌, arith}
use Rattle.st_il.specs.declared.ty.Ty.{Ty, roll-Ty, out-Ty, map-Ty, roll-out-Ty, fold-roll-Ty}
use Rattle.st_il.specs.declared.ty.Ty.TheOpen.{Ty-F}
use Rattle.st_text.specs.Text.{TextTree, TextTrees, word, quote, list, none, more}
use Rattle.st_text.specs.Trees.{row_of}
use Rattle.st_iltext.specs.Expressions.{ty_at, ty_tree}
use Rattle.st_iltext.proofs.Rows.{first_of, rest_of, parts_of, quote_of}

pub ty-tree : (l : Ty-F Ty) → ty_tree (roll-Ty l) ≡ ty_at (map-Ty Ty TextTree ty_tree l)
ty-tree l = fold-roll-Ty TextTree ty_at l

-- the first byte of a word
abbrev first : TextTree → ℕ
first (word []) = 0
first (word (b ∷ w)) = b
first (quote s) = 0
first (list ts) = 0

-- the first byte of the word that begins a list
abbrev head : TextTree → ℕ
head (word w) = 0
head (quote s) = 0
head (list none) = 0
head (list (more t ts)) = first t

-- levels whose trees are the same have parts of the same trees
abbrev SameParts : Ty-F Ty → Ty-F Ty → Type 0
SameParts Ty-F.Bool Ty-F.Bool = Unit {0}
SameParts Ty-F.Nat Ty-F.Nat = Unit {0}
SameParts Ty-F.Int Ty-F.Int = Unit {0}
SameParts Ty-F.Text Ty-F.Text = Unit {0}
SameParts (Ty-F.Name x) (Ty-F.Name y) = x ≡ y
SameParts (Ty-F.List t) (Ty-F.List u) = ty_tree t ≡ ty_tree u
SameParts (Ty-F.Opt t) (Ty-F.Opt u) = ty_tree t ≡ ty_tree u
SameParts (Ty-F.Tuple ts) (Ty-F.Tuple us) = row_of (map ty_tree ts) ≡ row_of (map ty_tree us)
SameParts l m = ⊥

same_at : (l m : Ty-F Ty) → ty_at (map-Ty Ty TextTree ty_tree l) ≡ ty_at (map-Ty Ty TextTree ty_tree m) → SameParts l m
same_at Ty-F.Bool Ty-F.Bool e = tt
same_at Ty-F.Bool Ty-F.Nat e = absurd (omega (arith, ap first e))
same_at Ty-F.Bool Ty-F.Int e = absurd (omega (arith, ap first e))
same_at Ty-F.Bool Ty-F.Text e = absurd (omega (arith, ap first e))
same_at Ty-F.Bool (Ty-F.Name x2) e = absurd (cc e)
same_at Ty-F.Bool (Ty-F.List t2) e = absurd (cc e)
same_at Ty-F.Bool (Ty-F.Opt t2) e = absurd (cc e)
same_at Ty-F.Bool (Ty-F.Tuple ts2) e = absurd (cc e)
same_at Ty-F.Nat Ty-F.Bool e = absurd (omega (arith, ap first e))
same_at Ty-F.Nat Ty-F.Nat e = tt
same_at Ty-F.Nat Ty-F.Int e = absurd (omega (arith, ap first e))
same_at Ty-F.Nat Ty-F.Text e = absurd (omega (arith, ap first e))
same_at Ty-F.Nat (Ty-F.Name x2) e = absurd (cc e)
same_at Ty-F.Nat (Ty-F.List t2) e = absurd (cc e)
same_at Ty-F.Nat (Ty-F.Opt t2) e = absurd (cc e)
same_at Ty-F.Nat (Ty-F.Tuple ts2) e = absurd (cc e)
same_at Ty-F.Int Ty-F.Bool e = absurd (omega (arith, ap first e))
same_at Ty-F.Int Ty-F.Nat e = absurd (omega (arith, ap first e))
same_at Ty-F.Int Ty-F.Int e = tt
same_at Ty-F.Int Ty-F.Text e = absurd (omega (arith, ap first e))
same_at Ty-F.Int (Ty-F.Name x2) e = absurd (cc e)
same_at Ty-F.Int (Ty-F.List t2) e = absurd (cc e)
same_at Ty-F.Int (Ty-F.Opt t2) e = absurd (cc e)
same_at Ty-F.Int (Ty-F.Tuple ts2) e = absurd (cc e)
same_at Ty-F.Text Ty-F.Bool e = absurd (omega (arith, ap first e))
same_at Ty-F.Text Ty-F.Nat e = absurd (omega (arith, ap first e))
same_at Ty-F.Text Ty-F.Int e = absurd (omega (arith, ap first e))
same_at Ty-F.Text Ty-F.Text e = tt
same_at Ty-F.Text (Ty-F.Name x2) e = absurd (cc e)
same_at Ty-F.Text (Ty-F.List t2) e = absurd (cc e)
same_at Ty-F.Text (Ty-F.Opt t2) e = absurd (cc e)
same_at Ty-F.Text (Ty-F.Tuple ts2) e = absurd (cc e)
same_at (Ty-F.Name x) Ty-F.Bool e = absurd (cc e)
same_at (Ty-F.Name x) Ty-F.Nat e = absurd (cc e)
same_at (Ty-F.Name x) Ty-F.Int e = absurd (cc e)
same_at (Ty-F.Name x) Ty-F.Text e = absurd (cc e)
same_at (Ty-F.Name x) (Ty-F.Name x2) e = quote_of (first_of (rest_of (parts_of e)))
same_at (Ty-F.Name x) (Ty-F.List t2) e = absurd (omega (arith, ap head e))
same_at (Ty-F.Name x) (Ty-F.Opt t2) e = absurd (omega (arith, ap head e))
same_at (Ty-F.Name x) (Ty-F.Tuple ts2) e = absurd (omega (arith, ap head e))
same_at (Ty-F.List t) Ty-F.Bool e = absurd (cc e)
same_at (Ty-F.List t) Ty-F.Nat e = absurd (cc e)
same_at (Ty-F.List t) Ty-F.Int e = absurd (cc e)
same_at (Ty-F.List t) Ty-F.Text e = absurd (cc e)
same_at (Ty-F.List t) (Ty-F.Name x2) e = absurd (omega (arith, ap head e))
same_at (Ty-F.List t) (Ty-F.List t2) e = first_of (rest_of (parts_of e))
same_at (Ty-F.List t) (Ty-F.Opt t2) e = absurd (omega (arith, ap head e))
same_at (Ty-F.List t) (Ty-F.Tuple ts2) e = absurd (omega (arith, ap head e))
same_at (Ty-F.Opt t) Ty-F.Bool e = absurd (cc e)
same_at (Ty-F.Opt t) Ty-F.Nat e = absurd (cc e)
same_at (Ty-F.Opt t) Ty-F.Int e = absurd (cc e)
same_at (Ty-F.Opt t) Ty-F.Text e = absurd (cc e)
same_at (Ty-F.Opt t) (Ty-F.Name x2) e = absurd (omega (arith, ap head e))
same_at (Ty-F.Opt t) (Ty-F.List t2) e = absurd (omega (arith, ap head e))
same_at (Ty-F.Opt t) (Ty-F.Opt t2) e = first_of (rest_of (parts_of e))
same_at (Ty-F.Opt t) (Ty-F.Tuple ts2) e = absurd (omega (arith, ap head e))
same_at (Ty-F.Tuple ts) Ty-F.Bool e = absurd (cc e)
same_at (Ty-F.Tuple ts) Ty-F.Nat e = absurd (cc e)
same_at (Ty-F.Tuple ts) Ty-F.Int e = absurd (cc e)
same_at (Ty-F.Tuple ts) Ty-F.Text e = absurd (cc e)
same_at (Ty-F.Tuple ts) (Ty-F.Name x2) e = absurd (omega (arith, ap head e))
same_at (Ty-F.Tuple ts) (Ty-F.List t2) e = absurd (omega (arith, ap head e))
same_at (Ty-F.Tuple ts) (Ty-F.Opt t2) e = absurd (omega (arith, ap head e))
same_at (Ty-F.Tuple ts) (Ty-F.Tuple ts2) e = rest_of (parts_of e)

-- a type is equal to each whose tree is this
abbrev IsOne : TextTree → Type 0
IsOne t = (a b : Ty) → t ≡ ty_tree a → t ≡ ty_tree b → a ≡ b

-- each tree of a row is that of one type
AreOne : TextTrees → Type 0
AreOne none = Unit {0}
AreOne (more t ts) = IsOne t × AreOne ts

tys_one : (ts : TextTrees) → AreOne ts → (xs ys : List Ty) → ts ≡ row_of (map ty_tree xs) → ts ≡ row_of (map ty_tree ys) → xs ≡ ys
unfolding AreOne
tys_one none h [] [] e f = refl
tys_one none h (x ∷ xs) ys e f = cc e
tys_one none h [] (y ∷ ys) e f = cc f
tys_one (more t ts) h [] ys e f = cc e
tys_one (more t ts) h (x ∷ xs) [] e f = cc f
tys_one (more t ts) h (x ∷ xs) (y ∷ ys) e f = ap₂ ◌∷◌ (h.0 x y (first_of e) (first_of f)) (tys_one ts h.1 xs ys (rest_of e) (rest_of f))

-- each tree behind the first
behind_one : (ts us : TextTrees) (t : TextTree) → AreOne ts → ts ≡ more t us → AreOne us
unfolding AreOne
behind_one none us t h e = cc e
behind_one (more x ts) us t h e = subst AreOne (rest_of e) h.1

one_of : (a b : Ty) → AreOne (more (ty_tree a) none) → ty_tree a ≡ ty_tree b → a ≡ b
unfolding AreOne
one_of a b h e = h.0 a b refl e

-- whose trees are these parts, a level whose parts are each of one type is one
levels_one : (l m : Ty-F Ty) (t : TextTree) → ((us : TextTrees) (u : TextTree) → t ≡ list (more u us) → AreOne us) → t ≡ ty_at (map-Ty Ty TextTree ty_tree l) → t ≡ ty_at (map-Ty Ty TextTree ty_tree m) → l ≡ m
levels_one l m t h e f = go l m (same_at l m (sym e ∙ f)) e
  where
    go : (l m : Ty-F Ty) → SameParts l m → t ≡ ty_at (map-Ty Ty TextTree ty_tree l) → l ≡ m
    go Ty-F.Bool Ty-F.Bool p e = refl
    go Ty-F.Bool Ty-F.Nat p e = absurd p
    go Ty-F.Bool Ty-F.Int p e = absurd p
    go Ty-F.Bool Ty-F.Text p e = absurd p
    go Ty-F.Bool (Ty-F.Name x2) p e = absurd p
    go Ty-F.Bool (Ty-F.List t2) p e = absurd p
    go Ty-F.Bool (Ty-F.Opt t2) p e = absurd p
    go Ty-F.Bool (Ty-F.Tuple ts2) p e = absurd p
    go Ty-F.Nat Ty-F.Bool p e = absurd p
    go Ty-F.Nat Ty-F.Nat p e = refl
    go Ty-F.Nat Ty-F.Int p e = absurd p
    go Ty-F.Nat Ty-F.Text p e = absurd p
    go Ty-F.Nat (Ty-F.Name x2) p e = absurd p
    go Ty-F.Nat (Ty-F.List t2) p e = absurd p
    go Ty-F.Nat (Ty-F.Opt t2) p e = absurd p
    go Ty-F.Nat (Ty-F.Tuple ts2) p e = absurd p
    go Ty-F.Int Ty-F.Bool p e = absurd p
    go Ty-F.Int Ty-F.Nat p e = absurd p
    go Ty-F.Int Ty-F.Int p e = refl
    go Ty-F.Int Ty-F.Text p e = absurd p
    go Ty-F.Int (Ty-F.Name x2) p e = absurd p
    go Ty-F.Int (Ty-F.List t2) p e = absurd p
    go Ty-F.Int (Ty-F.Opt t2) p e = absurd p
    go Ty-F.Int (Ty-F.Tuple ts2) p e = absurd p
    go Ty-F.Text Ty-F.Bool p e = absurd p
    go Ty-F.Text Ty-F.Nat p e = absurd p
    go Ty-F.Text Ty-F.Int p e = absurd p
    go Ty-F.Text Ty-F.Text p e = refl
    go Ty-F.Text (Ty-F.Name x2) p e = absurd p
    go Ty-F.Text (Ty-F.List t2) p e = absurd p
    go Ty-F.Text (Ty-F.Opt t2) p e = absurd p
    go Ty-F.Text (Ty-F.Tuple ts2) p e = absurd p
    go (Ty-F.Name x) Ty-F.Bool p e = absurd p
    go (Ty-F.Name x) Ty-F.Nat p e = absurd p
    go (Ty-F.Name x) Ty-F.Int p e = absurd p
    go (Ty-F.Name x) Ty-F.Text p e = absurd p
    go (Ty-F.Name x) (Ty-F.Name x2) p e = ap Ty-F.Name p
    go (Ty-F.Name x) (Ty-F.List t2) p e = absurd p
    go (Ty-F.Name x) (Ty-F.Opt t2) p e = absurd p
    go (Ty-F.Name x) (Ty-F.Tuple ts2) p e = absurd p
    go (Ty-F.List t) Ty-F.Bool p e = absurd p
    go (Ty-F.List t) Ty-F.Nat p e = absurd p
    go (Ty-F.List t) Ty-F.Int p e = absurd p
    go (Ty-F.List t) Ty-F.Text p e = absurd p
    go (Ty-F.List t) (Ty-F.Name x2) p e = absurd p
    go (Ty-F.List x) (Ty-F.List y) p e = ap Ty-F.List (one_of x y (h _ _ e) p)
    go (Ty-F.List t) (Ty-F.Opt t2) p e = absurd p
    go (Ty-F.List t) (Ty-F.Tuple ts2) p e = absurd p
    go (Ty-F.Opt t) Ty-F.Bool p e = absurd p
    go (Ty-F.Opt t) Ty-F.Nat p e = absurd p
    go (Ty-F.Opt t) Ty-F.Int p e = absurd p
    go (Ty-F.Opt t) Ty-F.Text p e = absurd p
    go (Ty-F.Opt t) (Ty-F.Name x2) p e = absurd p
    go (Ty-F.Opt t) (Ty-F.List t2) p e = absurd p
    go (Ty-F.Opt x) (Ty-F.Opt y) p e = ap Ty-F.Opt (one_of x y (h _ _ e) p)
    go (Ty-F.Opt t) (Ty-F.Tuple ts2) p e = absurd p
    go (Ty-F.Tuple ts) Ty-F.Bool p e = absurd p
    go (Ty-F.Tuple ts) Ty-F.Nat p e = absurd p
    go (Ty-F.Tuple ts) Ty-F.Int p e = absurd p
    go (Ty-F.Tuple ts) Ty-F.Text p e = absurd p
    go (Ty-F.Tuple ts) (Ty-F.Name x2) p e = absurd p
    go (Ty-F.Tuple ts) (Ty-F.List t2) p e = absurd p
    go (Ty-F.Tuple ts) (Ty-F.Opt t2) p e = absurd p
    go (Ty-F.Tuple xs) (Ty-F.Tuple ys) p e = ap Ty-F.Tuple (tys_one _ (h _ _ e) xs ys refl p)

-- the same of types, by their levels
both_levels : (t : TextTree) → ((us : TextTrees) (u : TextTree) → t ≡ list (more u us) → AreOne us) → IsOne t
both_levels t h a b e f =
    let same = levels_one (out-Ty a) (out-Ty b) t h (e ∙ ap ty_tree (sym (roll-out-Ty a)) ∙ ty-tree (out-Ty a)) (f ∙ ap ty_tree (sym (roll-out-Ty b)) ∙ ty-tree (out-Ty b)) in
    sym (roll-out-Ty a) ∙ ap roll-Ty same ∙ roll-out-Ty b

mutual
  unfolding AreOne

  ty_one : (t : TextTree) → IsOne t
  ty_one (word w) a b e f = both_levels (word w) (λ us u g. absurd (cc g)) a b e f
  ty_one (quote s) a b e f = both_levels (quote s) (λ us u g. absurd (cc g)) a b e f
  ty_one (list ts) a b e f = both_levels (list ts) (λ us u g. behind_one ts us u (tys_all ts) (parts_of g)) a b e f

  tys_all : (ts : TextTrees) → AreOne ts
  tys_all none = tt
  tys_all (more t ts) = (ty_one t, tys_all ts)

-- types whose trees are the same are so
pub ty_same : (a b : Ty) → ty_tree a ≡ ty_tree b → a ≡ b
ty_same a b e = ty_one (ty_tree a) a b refl e

pub tys_same : (xs ys : List Ty) → row_of (map ty_tree xs) ≡ row_of (map ty_tree ys) → xs ≡ ys
tys_same xs ys e = tys_one _ (tys_all _) xs ys refl e
