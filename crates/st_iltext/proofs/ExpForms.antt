-- What an expression is whose tree is known.
use Rattle.std.proofs.Common.{◌≡◌, ℕ, List, [], ◌∷◌, map, codes, true, false, Option, Some, None, refl, sym, ap, subst, ◌∙◌, if◌then◌else◌, ◌⊎◌, inl, inr}
use Rattle.std.specs.Fmt.{decimal}
use Rattle.st_num.specs.Names.{same_name}
use Rattle.st_il.specs.declared.ty.Ty.{Ty}
use Rattle.st_il.specs.declared.ty.NumTy.{NumTy}
use Rattle.st_il.specs.declared.expression.IlExp.{IlExp, roll-IlExp, out-IlExp, roll-out-IlExp}
use Rattle.st_il.specs.declared.expression.IlExp.TheOpen.{IlExp-F}
use Rattle.st_il.specs.declared.expression.IlExp.TheVariants as exp
use Rattle.st_il.specs.declared.expression.Iteration.{Iteration}
use Rattle.st_il.specs.declared.expression.ListItem.{ListItem}
use Rattle.st_il.specs.declared.expression.PathSeg.{PathSeg}
use Rattle.st_text.specs.Text.{TextTrees, word, quote, list, none, more}
use Rattle.st_text.specs.Trees.{row_of}
use Rattle.st_iltext.specs.declared.kind.Unary.TheVariants as unary
use Rattle.st_iltext.specs.declared.kind.Binary.TheVariants as binary
use Rattle.st_iltext.specs.declared.kind.Arithmetic.TheVariants as arithmetic
use Rattle.st_iltext.specs.declared.kind.Kind.{Kind}
use Rattle.st_iltext.specs.declared.kind.Kind.TheVariants as kind
use Rattle.st_iltext.specs.Expressions.{group, names, number_type, ty_tree, exp_tree, item_tree, iteration_tree, segment_tree}
use Rattle.st_iltext.specs.inner.KindWords.{kind_word, unary_exp, binary_exp, arithmetic_exp}
use Rattle.st_iltext.proofs.Rows.{first_of, rest_of, parts_of, word_of, quote_of}
use Rattle.st_iltext.proofs.ExpLevels.{exp-tree}

-- the expression is of this kind, and its parts have these trees behind the word of the kind
abbrev pub ExpParts : Kind → TextTrees → IlExp → Type 0
ExpParts (kind.Unary op) ts e = (x : IlExp) × (e ≡ unary_exp op x) × (ts ≡ more (exp_tree x) none)
ExpParts (kind.Binary op) ts e = (x : IlExp) × (y : IlExp) × (e ≡ binary_exp op x y) × (ts ≡ more (exp_tree x) (more (exp_tree y) none))
ExpParts (kind.Arithmetic op) ts e =
    (n : NumTy) × (x : IlExp) × (y : IlExp) × (e ≡ arithmetic_exp op n x y) × (ts ≡ more (number_type n) (more (exp_tree x) (more (exp_tree y) none)))
ExpParts kind.Var ts e = (x : List ℕ) × (e ≡ exp.Var x) × (ts ≡ more (quote x) none)
ExpParts kind.Case ts e = (t : List ℕ) × (tag : List ℕ) × (es : List IlExp) × (e ≡ exp.Case t tag es) × (ts ≡ more (quote t) (more (quote tag) (row_of (map exp_tree es))))
ExpParts kind.Fields ts e = (t : List ℕ) × (es : List IlExp) × (e ≡ exp.Fields t es) × (ts ≡ more (quote t) (row_of (map exp_tree es)))
ExpParts kind.Call ts e = (f : List ℕ) × (es : List IlExp) × (e ≡ exp.Call f es) × (ts ≡ more (quote f) (row_of (map exp_tree es)))
ExpParts kind.Dot ts e = (x : IlExp) × (f : List ℕ) × (e ≡ exp.Dot x f) × (ts ≡ more (exp_tree x) (more (quote f) none))
ExpParts kind.Set ts e = (x : IlExp) × (path : List PathSeg) × (y : IlExp) × (e ≡ exp.Set x path y) × (ts ≡ more (exp_tree x) (more (group (map segment_tree path)) (more (exp_tree y) none)))
ExpParts kind.Extend ts e = (x : IlExp) × (path : List PathSeg) × (y : IlExp) × (e ≡ exp.Extend x path y) × (ts ≡ more (exp_tree x) (more (group (map segment_tree path)) (more (exp_tree y) none)))
ExpParts kind.Tuple ts e = (es : List IlExp) × (e ≡ exp.Tuple es) × (ts ≡ row_of (map exp_tree es))
ExpParts kind.List ts e = (t : Ty) × (items : List ListItem) × (e ≡ exp.List t items) × (ts ≡ more (ty_tree t) (row_of (map item_tree items)))
ExpParts kind.Empty ts e = (t : Ty) × (e ≡ exp.Empty t) × (ts ≡ more (ty_tree t) none)
ExpParts kind.Absent ts e = (t : Ty) × (e ≡ exp.Absent t) × (ts ≡ more (ty_tree t) none)
ExpParts kind.Slice ts e = (x : IlExp) × (y : IlExp) × (z : IlExp) × (e ≡ exp.Slice x y z) × (ts ≡ more (exp_tree x) (more (exp_tree y) (more (exp_tree z) none)))
ExpParts kind.Up ts e = (t : Ty) × (x : IlExp) × (e ≡ exp.Up t x) × (ts ≡ more (ty_tree t) (more (exp_tree x) none))
ExpParts kind.Iter ts e = (k : Iteration) × (xs : List (List ℕ)) × (x : IlExp) × (e ≡ exp.Iter k xs x) × (ts ≡ more (iteration_tree k) (more (names xs) (more (exp_tree x) none)))

-- an expression whose tree is a list
pub record Formed (e : IlExp) (ts : TextTrees) : Type 0 where
  pub kind : Kind
  pub parts : TextTrees
  pub begins : ts ≡ more (word (kind_word kind)) parts
  pub made : ExpParts kind parts e

formed_at : (l : IlExp-F IlExp Iteration ListItem PathSeg) (ts : TextTrees) → exp_tree (roll-IlExp l) ≡ list ts → Formed (roll-IlExp l) ts
formed_at (IlExp-F.Bool true) ts e = absurd (cc (exp-tree (IlExp-F.Bool true)))
formed_at (IlExp-F.Bool false) ts e = absurd (cc (exp-tree (IlExp-F.Bool false)))
formed_at (IlExp-F.Number n) ts e = absurd (cc (exp-tree (IlExp-F.Number n)))
formed_at (IlExp-F.Text s) ts e = absurd (cc (exp-tree (IlExp-F.Text s)))
formed_at (IlExp-F.Var x) ts e = record {
  kind = kind.Var;
  parts = more (quote x) none;
  begins = sym (parts_of (sym (exp-tree (IlExp-F.Var x)) ∙ e));
  made = (x, exp.rolls-Var x, refl);
}
formed_at (IlExp-F.Not x) ts e = record {
  kind = kind.Unary unary.Not;
  parts = more (exp_tree x) none;
  begins = sym (parts_of (sym (exp-tree (IlExp-F.Not x)) ∙ e));
  made = (x, exp.rolls-Not x, refl);
}
formed_at (IlExp-F.And x y) ts e = record {
  kind = kind.Binary binary.And;
  parts = more (exp_tree x) (more (exp_tree y) none);
  begins = sym (parts_of (sym (exp-tree (IlExp-F.And x y)) ∙ e));
  made = (x, y, exp.rolls-And x y, refl);
}
formed_at (IlExp-F.Or x y) ts e = record {
  kind = kind.Binary binary.Or;
  parts = more (exp_tree x) (more (exp_tree y) none);
  begins = sym (parts_of (sym (exp-tree (IlExp-F.Or x y)) ∙ e));
  made = (x, y, exp.rolls-Or x y, refl);
}
formed_at (IlExp-F.Imp x y) ts e = record {
  kind = kind.Binary binary.Imp;
  parts = more (exp_tree x) (more (exp_tree y) none);
  begins = sym (parts_of (sym (exp-tree (IlExp-F.Imp x y)) ∙ e));
  made = (x, y, exp.rolls-Imp x y, refl);
}
formed_at (IlExp-F.Iff x y) ts e = record {
  kind = kind.Binary binary.Iff;
  parts = more (exp_tree x) (more (exp_tree y) none);
  begins = sym (parts_of (sym (exp-tree (IlExp-F.Iff x y)) ∙ e));
  made = (x, y, exp.rolls-Iff x y, refl);
}
formed_at (IlExp-F.Neg x) ts e = record {
  kind = kind.Unary unary.Neg;
  parts = more (exp_tree x) none;
  begins = sym (parts_of (sym (exp-tree (IlExp-F.Neg x)) ∙ e));
  made = (x, exp.rolls-Neg x, refl);
}
formed_at (IlExp-F.Add n x y) ts e = record {
  kind = kind.Arithmetic arithmetic.Add;
  parts = more (number_type n) (more (exp_tree x) (more (exp_tree y) none));
  begins = sym (parts_of (sym (exp-tree (IlExp-F.Add n x y)) ∙ e));
  made = (n, x, y, exp.rolls-Add n x y, refl);
}
formed_at (IlExp-F.Sub n x y) ts e = record {
  kind = kind.Arithmetic arithmetic.Sub;
  parts = more (number_type n) (more (exp_tree x) (more (exp_tree y) none));
  begins = sym (parts_of (sym (exp-tree (IlExp-F.Sub n x y)) ∙ e));
  made = (n, x, y, exp.rolls-Sub n x y, refl);
}
formed_at (IlExp-F.Mul n x y) ts e = record {
  kind = kind.Arithmetic arithmetic.Mul;
  parts = more (number_type n) (more (exp_tree x) (more (exp_tree y) none));
  begins = sym (parts_of (sym (exp-tree (IlExp-F.Mul n x y)) ∙ e));
  made = (n, x, y, exp.rolls-Mul n x y, refl);
}
formed_at (IlExp-F.Div n x y) ts e = record {
  kind = kind.Arithmetic arithmetic.Div;
  parts = more (number_type n) (more (exp_tree x) (more (exp_tree y) none));
  begins = sym (parts_of (sym (exp-tree (IlExp-F.Div n x y)) ∙ e));
  made = (n, x, y, exp.rolls-Div n x y, refl);
}
formed_at (IlExp-F.Rem n x y) ts e = record {
  kind = kind.Arithmetic arithmetic.Rem;
  parts = more (number_type n) (more (exp_tree x) (more (exp_tree y) none));
  begins = sym (parts_of (sym (exp-tree (IlExp-F.Rem n x y)) ∙ e));
  made = (n, x, y, exp.rolls-Rem n x y, refl);
}
formed_at (IlExp-F.Pow n x y) ts e = record {
  kind = kind.Arithmetic arithmetic.Pow;
  parts = more (number_type n) (more (exp_tree x) (more (exp_tree y) none));
  begins = sym (parts_of (sym (exp-tree (IlExp-F.Pow n x y)) ∙ e));
  made = (n, x, y, exp.rolls-Pow n x y, refl);
}
formed_at (IlExp-F.Eq x y) ts e = record {
  kind = kind.Binary binary.Eq;
  parts = more (exp_tree x) (more (exp_tree y) none);
  begins = sym (parts_of (sym (exp-tree (IlExp-F.Eq x y)) ∙ e));
  made = (x, y, exp.rolls-Eq x y, refl);
}
formed_at (IlExp-F.Ne x y) ts e = record {
  kind = kind.Binary binary.Ne;
  parts = more (exp_tree x) (more (exp_tree y) none);
  begins = sym (parts_of (sym (exp-tree (IlExp-F.Ne x y)) ∙ e));
  made = (x, y, exp.rolls-Ne x y, refl);
}
formed_at (IlExp-F.Lt x y) ts e = record {
  kind = kind.Binary binary.Lt;
  parts = more (exp_tree x) (more (exp_tree y) none);
  begins = sym (parts_of (sym (exp-tree (IlExp-F.Lt x y)) ∙ e));
  made = (x, y, exp.rolls-Lt x y, refl);
}
formed_at (IlExp-F.Gt x y) ts e = record {
  kind = kind.Binary binary.Gt;
  parts = more (exp_tree x) (more (exp_tree y) none);
  begins = sym (parts_of (sym (exp-tree (IlExp-F.Gt x y)) ∙ e));
  made = (x, y, exp.rolls-Gt x y, refl);
}
formed_at (IlExp-F.Le x y) ts e = record {
  kind = kind.Binary binary.Le;
  parts = more (exp_tree x) (more (exp_tree y) none);
  begins = sym (parts_of (sym (exp-tree (IlExp-F.Le x y)) ∙ e));
  made = (x, y, exp.rolls-Le x y, refl);
}
formed_at (IlExp-F.Ge x y) ts e = record {
  kind = kind.Binary binary.Ge;
  parts = more (exp_tree x) (more (exp_tree y) none);
  begins = sym (parts_of (sym (exp-tree (IlExp-F.Ge x y)) ∙ e));
  made = (x, y, exp.rolls-Ge x y, refl);
}
formed_at (IlExp-F.Member x y) ts e = record {
  kind = kind.Binary binary.Member;
  parts = more (exp_tree x) (more (exp_tree y) none);
  begins = sym (parts_of (sym (exp-tree (IlExp-F.Member x y)) ∙ e));
  made = (x, y, exp.rolls-Member x y, refl);
}
formed_at (IlExp-F.Case t tag es) ts e = record {
  kind = kind.Case;
  parts = more (quote t) (more (quote tag) (row_of (map exp_tree es)));
  begins = sym (parts_of (sym (exp-tree (IlExp-F.Case t tag es)) ∙ e));
  made = (t, tag, es, exp.rolls-Case t tag es, refl);
}
formed_at (IlExp-F.Fields t es) ts e = record {
  kind = kind.Fields;
  parts = more (quote t) (row_of (map exp_tree es));
  begins = sym (parts_of (sym (exp-tree (IlExp-F.Fields t es)) ∙ e));
  made = (t, es, exp.rolls-Fields t es, refl);
}
formed_at (IlExp-F.Dot x f) ts e = record {
  kind = kind.Dot;
  parts = more (exp_tree x) (more (quote f) none);
  begins = sym (parts_of (sym (exp-tree (IlExp-F.Dot x f)) ∙ e));
  made = (x, f, exp.rolls-Dot x f, refl);
}
formed_at (IlExp-F.Set x path y) ts e = record {
  kind = kind.Set;
  parts = more (exp_tree x) (more (group (map segment_tree path)) (more (exp_tree y) none));
  begins = sym (parts_of (sym (exp-tree (IlExp-F.Set x path y)) ∙ e));
  made = (x, path, y, exp.rolls-Set x path y, refl);
}
formed_at (IlExp-F.Extend x path y) ts e = record {
  kind = kind.Extend;
  parts = more (exp_tree x) (more (group (map segment_tree path)) (more (exp_tree y) none));
  begins = sym (parts_of (sym (exp-tree (IlExp-F.Extend x path y)) ∙ e));
  made = (x, path, y, exp.rolls-Extend x path y, refl);
}
formed_at (IlExp-F.Tuple es) ts e = record {
  kind = kind.Tuple;
  parts = row_of (map exp_tree es);
  begins = sym (parts_of (sym (exp-tree (IlExp-F.Tuple es)) ∙ e));
  made = (es, exp.rolls-Tuple es, refl);
}
formed_at (IlExp-F.List t items) ts e = record {
  kind = kind.List;
  parts = more (ty_tree t) (row_of (map item_tree items));
  begins = sym (parts_of (sym (exp-tree (IlExp-F.List t items)) ∙ e));
  made = (t, items, exp.rolls-List t items, refl);
}
formed_at (IlExp-F.Cat x y) ts e = record {
  kind = kind.Binary binary.Cat;
  parts = more (exp_tree x) (more (exp_tree y) none);
  begins = sym (parts_of (sym (exp-tree (IlExp-F.Cat x y)) ∙ e));
  made = (x, y, exp.rolls-Cat x y, refl);
}
formed_at (IlExp-F.Join x y) ts e = record {
  kind = kind.Binary binary.Join;
  parts = more (exp_tree x) (more (exp_tree y) none);
  begins = sym (parts_of (sym (exp-tree (IlExp-F.Join x y)) ∙ e));
  made = (x, y, exp.rolls-Join x y, refl);
}
formed_at (IlExp-F.Empty t) ts e = record {
  kind = kind.Empty;
  parts = more (ty_tree t) none;
  begins = sym (parts_of (sym (exp-tree (IlExp-F.Empty t)) ∙ e));
  made = (t, exp.rolls-Empty t, refl);
}
formed_at (IlExp-F.Present x) ts e = record {
  kind = kind.Unary unary.Present;
  parts = more (exp_tree x) none;
  begins = sym (parts_of (sym (exp-tree (IlExp-F.Present x)) ∙ e));
  made = (x, exp.rolls-Present x, refl);
}
formed_at (IlExp-F.Absent t) ts e = record {
  kind = kind.Absent;
  parts = more (ty_tree t) none;
  begins = sym (parts_of (sym (exp-tree (IlExp-F.Absent t)) ∙ e));
  made = (t, exp.rolls-Absent t, refl);
}
formed_at (IlExp-F.Len x) ts e = record {
  kind = kind.Unary unary.Len;
  parts = more (exp_tree x) none;
  begins = sym (parts_of (sym (exp-tree (IlExp-F.Len x)) ∙ e));
  made = (x, exp.rolls-Len x, refl);
}
formed_at (IlExp-F.IlExp::At x y) ts e = record {
  kind = kind.Binary binary.At;
  parts = more (exp_tree x) (more (exp_tree y) none);
  begins = sym (parts_of (sym (exp-tree (IlExp-F.IlExp::At x y)) ∙ e));
  made = (x, y, exp.rolls-At x y, refl);
}
formed_at (IlExp-F.IlExp::Slice x y z) ts e = record {
  kind = kind.Slice;
  parts = more (exp_tree x) (more (exp_tree y) (more (exp_tree z) none));
  begins = sym (parts_of (sym (exp-tree (IlExp-F.IlExp::Slice x y z)) ∙ e));
  made = (x, y, z, exp.rolls-Slice x y z, refl);
}
formed_at (IlExp-F.Call f es) ts e = record {
  kind = kind.Call;
  parts = more (quote f) (row_of (map exp_tree es));
  begins = sym (parts_of (sym (exp-tree (IlExp-F.Call f es)) ∙ e));
  made = (f, es, exp.rolls-Call f es, refl);
}
formed_at (IlExp-F.Up t x) ts e = record {
  kind = kind.Up;
  parts = more (ty_tree t) (more (exp_tree x) none);
  begins = sym (parts_of (sym (exp-tree (IlExp-F.Up t x)) ∙ e));
  made = (t, x, exp.rolls-Up t x, refl);
}
formed_at (IlExp-F.Iter k xs x) ts e = record {
  kind = kind.Iter;
  parts = more (iteration_tree k) (more (names xs) (more (exp_tree x) none));
  begins = sym (parts_of (sym (exp-tree (IlExp-F.Iter k xs x)) ∙ e));
  made = (k, xs, x, exp.rolls-Iter k xs x, refl);
}

pub formed : (e : IlExp) (ts : TextTrees) → exp_tree e ≡ list ts → Formed e ts
formed e ts = subst (λ (x : IlExp). exp_tree x ≡ list ts → Formed x ts) (roll-out-IlExp e) (formed_at (out-IlExp e) ts)

-- ---- kinds have words of their own

-- all kinds
abbrev pub kinds : List Kind
kinds =
    kind.Unary unary.Not
    ∷ kind.Unary unary.Neg
    ∷ kind.Unary unary.Present
    ∷ kind.Unary unary.Len
    ∷ kind.Binary binary.And
    ∷ kind.Binary binary.Or
    ∷ kind.Binary binary.Imp
    ∷ kind.Binary binary.Iff
    ∷ kind.Binary binary.Eq
    ∷ kind.Binary binary.Ne
    ∷ kind.Binary binary.Lt
    ∷ kind.Binary binary.Gt
    ∷ kind.Binary binary.Le
    ∷ kind.Binary binary.Ge
    ∷ kind.Binary binary.Member
    ∷ kind.Binary binary.Cat
    ∷ kind.Binary binary.Join
    ∷ kind.Binary binary.At
    ∷ kind.Arithmetic arithmetic.Add
    ∷ kind.Arithmetic arithmetic.Sub
    ∷ kind.Arithmetic arithmetic.Mul
    ∷ kind.Arithmetic arithmetic.Div
    ∷ kind.Arithmetic arithmetic.Rem
    ∷ kind.Arithmetic arithmetic.Pow
    ∷ kind.Var
    ∷ kind.Case
    ∷ kind.Fields
    ∷ kind.Call
    ∷ kind.Dot
    ∷ kind.Set
    ∷ kind.Extend
    ∷ kind.Tuple
    ∷ kind.List
    ∷ kind.Empty
    ∷ kind.Absent
    ∷ kind.Slice
    ∷ kind.Up
    ∷ kind.Iter ∷ []

-- the first kind of these that has the word
abbrev pub kind_in : List Kind → List ℕ → Option Kind
kind_in [] w = None
kind_in (k ∷ ks) w = if same_name w (kind_word k) then Some k else kind_in ks w

-- the kind that has the word
abbrev kind_of_word : List ℕ → Option Kind
kind_of_word = kind_in kinds

kind_back : (k : Kind) → kind_of_word (kind_word k) ≡ Some k
kind_back (kind.Unary unary.Not) = refl
kind_back (kind.Unary unary.Neg) = refl
kind_back (kind.Unary unary.Present) = refl
kind_back (kind.Unary unary.Len) = refl
kind_back (kind.Binary binary.And) = refl
kind_back (kind.Binary binary.Or) = refl
kind_back (kind.Binary binary.Imp) = refl
kind_back (kind.Binary binary.Iff) = refl
kind_back (kind.Binary binary.Eq) = refl
kind_back (kind.Binary binary.Ne) = refl
kind_back (kind.Binary binary.Lt) = refl
kind_back (kind.Binary binary.Gt) = refl
kind_back (kind.Binary binary.Le) = refl
kind_back (kind.Binary binary.Ge) = refl
kind_back (kind.Binary binary.Member) = refl
kind_back (kind.Binary binary.Cat) = refl
kind_back (kind.Binary binary.Join) = refl
kind_back (kind.Binary binary.At) = refl
kind_back (kind.Arithmetic arithmetic.Add) = refl
kind_back (kind.Arithmetic arithmetic.Sub) = refl
kind_back (kind.Arithmetic arithmetic.Mul) = refl
kind_back (kind.Arithmetic arithmetic.Div) = refl
kind_back (kind.Arithmetic arithmetic.Rem) = refl
kind_back (kind.Arithmetic arithmetic.Pow) = refl
kind_back kind.Var = refl
kind_back kind.Case = refl
kind_back kind.Fields = refl
kind_back kind.Call = refl
kind_back kind.Dot = refl
kind_back kind.Set = refl
kind_back kind.Extend = refl
kind_back kind.Tuple = refl
kind_back kind.List = refl
kind_back kind.Empty = refl
kind_back kind.Absent = refl
kind_back kind.Slice = refl
kind_back kind.Up = refl
kind_back kind.Iter = refl

pub kind_same : (j k : Kind) → kind_word j ≡ kind_word k → j ≡ k
kind_same j k e = some (sym (kind_back j) ∙ ap kind_of_word e ∙ kind_back k)
  where
    some : {a b : Kind} → Some a ≡ Some b → a ≡ b
    some f = cc

-- an expression whose tree begins with the word of a kind is of that kind
pub inverted : (k : Kind) (ts : TextTrees) (e : IlExp) → list (more (word (kind_word k)) ts) ≡ exp_tree e → ExpParts k ts e
inverted k ts e h =
    let d = formed e (more (word (kind_word k)) ts) (sym h) in
    let same : k ≡ d.kind = kind_same k d.kind (word_of (first_of d.begins)) in
    subst (λ (j : Kind). ExpParts j ts e) (sym same) (subst (λ us. ExpParts d.kind us e) (sym (rest_of d.begins)) d.made)

-- ---- words

-- an expression whose tree is a word
abbrev pub Worded : IlExp → List ℕ → Type 0
Worded e w = ((e ≡ exp.Bool true) × (w ≡ codes "true")) ⊎ ((e ≡ exp.Bool false) × (w ≡ codes "false")) ⊎ ((n : ℕ) × (e ≡ exp.Number n) × (w ≡ decimal n))

worded_at : (l : IlExp-F IlExp Iteration ListItem PathSeg) (w : List ℕ) → exp_tree (roll-IlExp l) ≡ word w → Worded (roll-IlExp l) w
worded_at (IlExp-F.Bool true) w e = inl (exp.rolls-Bool true, word_of (sym e ∙ exp-tree (IlExp-F.Bool true)))
worded_at (IlExp-F.Bool false) w e = inr (inl (exp.rolls-Bool false, word_of (sym e ∙ exp-tree (IlExp-F.Bool false))))
worded_at (IlExp-F.Number n) w e = inr (inr (n, exp.rolls-Number n, word_of (sym e ∙ exp-tree (IlExp-F.Number n))))
worded_at (IlExp-F.Text s) w e = absurd (cc (exp-tree (IlExp-F.Text s)))
worded_at (IlExp-F.Var x) w e = absurd (cc (exp-tree (IlExp-F.Var x)))
worded_at (IlExp-F.Not x) w e = absurd (cc (exp-tree (IlExp-F.Not x)))
worded_at (IlExp-F.And x y) w e = absurd (cc (exp-tree (IlExp-F.And x y)))
worded_at (IlExp-F.Or x y) w e = absurd (cc (exp-tree (IlExp-F.Or x y)))
worded_at (IlExp-F.Imp x y) w e = absurd (cc (exp-tree (IlExp-F.Imp x y)))
worded_at (IlExp-F.Iff x y) w e = absurd (cc (exp-tree (IlExp-F.Iff x y)))
worded_at (IlExp-F.Neg x) w e = absurd (cc (exp-tree (IlExp-F.Neg x)))
worded_at (IlExp-F.Add n x y) w e = absurd (cc (exp-tree (IlExp-F.Add n x y)))
worded_at (IlExp-F.Sub n x y) w e = absurd (cc (exp-tree (IlExp-F.Sub n x y)))
worded_at (IlExp-F.Mul n x y) w e = absurd (cc (exp-tree (IlExp-F.Mul n x y)))
worded_at (IlExp-F.Div n x y) w e = absurd (cc (exp-tree (IlExp-F.Div n x y)))
worded_at (IlExp-F.Rem n x y) w e = absurd (cc (exp-tree (IlExp-F.Rem n x y)))
worded_at (IlExp-F.Pow n x y) w e = absurd (cc (exp-tree (IlExp-F.Pow n x y)))
worded_at (IlExp-F.Eq x y) w e = absurd (cc (exp-tree (IlExp-F.Eq x y)))
worded_at (IlExp-F.Ne x y) w e = absurd (cc (exp-tree (IlExp-F.Ne x y)))
worded_at (IlExp-F.Lt x y) w e = absurd (cc (exp-tree (IlExp-F.Lt x y)))
worded_at (IlExp-F.Gt x y) w e = absurd (cc (exp-tree (IlExp-F.Gt x y)))
worded_at (IlExp-F.Le x y) w e = absurd (cc (exp-tree (IlExp-F.Le x y)))
worded_at (IlExp-F.Ge x y) w e = absurd (cc (exp-tree (IlExp-F.Ge x y)))
worded_at (IlExp-F.Member x y) w e = absurd (cc (exp-tree (IlExp-F.Member x y)))
worded_at (IlExp-F.Case t tag es) w e = absurd (cc (exp-tree (IlExp-F.Case t tag es)))
worded_at (IlExp-F.Fields t es) w e = absurd (cc (exp-tree (IlExp-F.Fields t es)))
worded_at (IlExp-F.Dot x f) w e = absurd (cc (exp-tree (IlExp-F.Dot x f)))
worded_at (IlExp-F.Set x path y) w e = absurd (cc (exp-tree (IlExp-F.Set x path y)))
worded_at (IlExp-F.Extend x path y) w e = absurd (cc (exp-tree (IlExp-F.Extend x path y)))
worded_at (IlExp-F.Tuple es) w e = absurd (cc (exp-tree (IlExp-F.Tuple es)))
worded_at (IlExp-F.List t items) w e = absurd (cc (exp-tree (IlExp-F.List t items)))
worded_at (IlExp-F.Cat x y) w e = absurd (cc (exp-tree (IlExp-F.Cat x y)))
worded_at (IlExp-F.Join x y) w e = absurd (cc (exp-tree (IlExp-F.Join x y)))
worded_at (IlExp-F.Empty t) w e = absurd (cc (exp-tree (IlExp-F.Empty t)))
worded_at (IlExp-F.Present x) w e = absurd (cc (exp-tree (IlExp-F.Present x)))
worded_at (IlExp-F.Absent t) w e = absurd (cc (exp-tree (IlExp-F.Absent t)))
worded_at (IlExp-F.Len x) w e = absurd (cc (exp-tree (IlExp-F.Len x)))
worded_at (IlExp-F.IlExp::At x y) w e = absurd (cc (exp-tree (IlExp-F.IlExp::At x y)))
worded_at (IlExp-F.IlExp::Slice x y z) w e = absurd (cc (exp-tree (IlExp-F.IlExp::Slice x y z)))
worded_at (IlExp-F.Call f es) w e = absurd (cc (exp-tree (IlExp-F.Call f es)))
worded_at (IlExp-F.Up t x) w e = absurd (cc (exp-tree (IlExp-F.Up t x)))
worded_at (IlExp-F.Iter k xs x) w e = absurd (cc (exp-tree (IlExp-F.Iter k xs x)))

pub worded : (e : IlExp) (w : List ℕ) → word w ≡ exp_tree e → Worded e w
worded e w h = subst (λ (x : IlExp). exp_tree x ≡ word w → Worded x w) (roll-out-IlExp e) (worded_at (out-IlExp e) w) (sym h)

quoted_at : (l : IlExp-F IlExp Iteration ListItem PathSeg) (s : List ℕ) → exp_tree (roll-IlExp l) ≡ quote s → roll-IlExp l ≡ exp.Text s
quoted_at (IlExp-F.Bool true) s e = absurd (cc (exp-tree (IlExp-F.Bool true)))
quoted_at (IlExp-F.Bool false) s e = absurd (cc (exp-tree (IlExp-F.Bool false)))
quoted_at (IlExp-F.Number n) s e = absurd (cc (exp-tree (IlExp-F.Number n)))
quoted_at (IlExp-F.Text r) s e = exp.rolls-Text r ∙ ap exp.Text (quote_of (sym (exp-tree (IlExp-F.Text r)) ∙ e))
quoted_at (IlExp-F.Var x) s e = absurd (cc (exp-tree (IlExp-F.Var x)))
quoted_at (IlExp-F.Not x) s e = absurd (cc (exp-tree (IlExp-F.Not x)))
quoted_at (IlExp-F.And x y) s e = absurd (cc (exp-tree (IlExp-F.And x y)))
quoted_at (IlExp-F.Or x y) s e = absurd (cc (exp-tree (IlExp-F.Or x y)))
quoted_at (IlExp-F.Imp x y) s e = absurd (cc (exp-tree (IlExp-F.Imp x y)))
quoted_at (IlExp-F.Iff x y) s e = absurd (cc (exp-tree (IlExp-F.Iff x y)))
quoted_at (IlExp-F.Neg x) s e = absurd (cc (exp-tree (IlExp-F.Neg x)))
quoted_at (IlExp-F.Add n x y) s e = absurd (cc (exp-tree (IlExp-F.Add n x y)))
quoted_at (IlExp-F.Sub n x y) s e = absurd (cc (exp-tree (IlExp-F.Sub n x y)))
quoted_at (IlExp-F.Mul n x y) s e = absurd (cc (exp-tree (IlExp-F.Mul n x y)))
quoted_at (IlExp-F.Div n x y) s e = absurd (cc (exp-tree (IlExp-F.Div n x y)))
quoted_at (IlExp-F.Rem n x y) s e = absurd (cc (exp-tree (IlExp-F.Rem n x y)))
quoted_at (IlExp-F.Pow n x y) s e = absurd (cc (exp-tree (IlExp-F.Pow n x y)))
quoted_at (IlExp-F.Eq x y) s e = absurd (cc (exp-tree (IlExp-F.Eq x y)))
quoted_at (IlExp-F.Ne x y) s e = absurd (cc (exp-tree (IlExp-F.Ne x y)))
quoted_at (IlExp-F.Lt x y) s e = absurd (cc (exp-tree (IlExp-F.Lt x y)))
quoted_at (IlExp-F.Gt x y) s e = absurd (cc (exp-tree (IlExp-F.Gt x y)))
quoted_at (IlExp-F.Le x y) s e = absurd (cc (exp-tree (IlExp-F.Le x y)))
quoted_at (IlExp-F.Ge x y) s e = absurd (cc (exp-tree (IlExp-F.Ge x y)))
quoted_at (IlExp-F.Member x y) s e = absurd (cc (exp-tree (IlExp-F.Member x y)))
quoted_at (IlExp-F.Case t tag es) s e = absurd (cc (exp-tree (IlExp-F.Case t tag es)))
quoted_at (IlExp-F.Fields t es) s e = absurd (cc (exp-tree (IlExp-F.Fields t es)))
quoted_at (IlExp-F.Dot x f) s e = absurd (cc (exp-tree (IlExp-F.Dot x f)))
quoted_at (IlExp-F.Set x path y) s e = absurd (cc (exp-tree (IlExp-F.Set x path y)))
quoted_at (IlExp-F.Extend x path y) s e = absurd (cc (exp-tree (IlExp-F.Extend x path y)))
quoted_at (IlExp-F.Tuple es) s e = absurd (cc (exp-tree (IlExp-F.Tuple es)))
quoted_at (IlExp-F.List t items) s e = absurd (cc (exp-tree (IlExp-F.List t items)))
quoted_at (IlExp-F.Cat x y) s e = absurd (cc (exp-tree (IlExp-F.Cat x y)))
quoted_at (IlExp-F.Join x y) s e = absurd (cc (exp-tree (IlExp-F.Join x y)))
quoted_at (IlExp-F.Empty t) s e = absurd (cc (exp-tree (IlExp-F.Empty t)))
quoted_at (IlExp-F.Present x) s e = absurd (cc (exp-tree (IlExp-F.Present x)))
quoted_at (IlExp-F.Absent t) s e = absurd (cc (exp-tree (IlExp-F.Absent t)))
quoted_at (IlExp-F.Len x) s e = absurd (cc (exp-tree (IlExp-F.Len x)))
quoted_at (IlExp-F.IlExp::At x y) s e = absurd (cc (exp-tree (IlExp-F.IlExp::At x y)))
quoted_at (IlExp-F.IlExp::Slice x y z) s e = absurd (cc (exp-tree (IlExp-F.IlExp::Slice x y z)))
quoted_at (IlExp-F.Call f es) s e = absurd (cc (exp-tree (IlExp-F.Call f es)))
quoted_at (IlExp-F.Up t x) s e = absurd (cc (exp-tree (IlExp-F.Up t x)))
quoted_at (IlExp-F.Iter k xs x) s e = absurd (cc (exp-tree (IlExp-F.Iter k xs x)))

pub quoted : (e : IlExp) (s : List ℕ) → quote s ≡ exp_tree e → e ≡ exp.Text s
quoted e s h = subst (λ (x : IlExp). exp_tree x ≡ quote s → x ≡ exp.Text s) (roll-out-IlExp e) (quoted_at (out-IlExp e) s) (sym h)
