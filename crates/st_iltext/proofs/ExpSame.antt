-- Expressions are equal where their trees are.
use Rattle.std.proofs.Common.{◌≡◌, ℕ, ◌^◌, ◌<◌, List, [], ◌∷◌, map, codes, Bool, true, ◌&&◌, nat_lt, refl, sym, ap, ap₂, subst, ◌∙◌, inl, inr, arith}
use Rattle.std.specs.Fmt.{decimal}
use Rattle.std.specs.List.{list_all}
use Rattle.std.specs.Str.Parse.{IsNumeral}
use Rattle.std.proofs.lemmas.Fmt.{decimal_is_IsNumeral_wide}
use Rattle.st_il.specs.declared.ty.NumTy.{NumTy}
use Rattle.st_il.specs.declared.ty.NumTy.TheVariants.{Nat, Int}
use Rattle.st_il.specs.declared.expression.IlExp.{IlExp}
use Rattle.st_il.specs.declared.expression.IlExp.TheOpen.{Iteration-F, ListItem-F, PathSeg-F, Below as BelowCount}
use Rattle.st_il.specs.declared.expression.IlExp.TheVariants as exp
use Rattle.st_il.specs.declared.expression.Iteration.{Iteration, roll-Iteration, out-Iteration, roll-out-Iteration}
use Rattle.st_il.specs.declared.expression.ListItem.{ListItem, roll-ListItem, out-ListItem, roll-out-ListItem}
use Rattle.st_il.specs.declared.expression.PathSeg.{PathSeg, roll-PathSeg, out-PathSeg, roll-out-PathSeg}
use Rattle.st_text.specs.Text.{TextTree, TextTrees, word, quote, list, none, more}
use Rattle.st_text.specs.Trees.{row_of}
use Rattle.st_text.proofs.Bytes.{heads}
use Rattle.st_text.proofs.NumberWords.{decimal-unique}
use Rattle.st_iltext.specs.declared.kind.Kind.{Kind}
use Rattle.st_iltext.specs.declared.kind.Kind.TheVariants as kind
use Rattle.st_iltext.specs.Expressions.{group, number_type, exp_tree, item_tree, iteration_tree, segment_tree}
use Rattle.st_iltext.specs.Written.{exp_written, iteration_written, item_written, segment_written}
use Rattle.st_iltext.specs.inner.KindWords.{unary_exp, binary_exp, arithmetic_exp}
use Rattle.st_iltext.proofs.Rows.{first_of, rest_of, parts_of, word_of, quote_of, both}
use Rattle.st_iltext.proofs.TySame.{ty_same}
use Rattle.st_iltext.proofs.ExpLevels.{unary-written, binary-written, arithmetic-written, written-Number, written-Case, written-Fields, written-Call, written-Dot, written-Set, written-Extend, written-Tuple, written-List, written-Slice, written-Up, written-Iter, iteration-tree, iteration-written, item-tree, item-written, segment-tree, segment-written}
use Rattle.st_iltext.proofs.ExpForms.{ExpParts, formed, kind_same, worded, quoted}

-- ---- words

small : (n : ℕ) → nat_lt n (2 ^ 128) ≡ true → n < 2 ^ 128
small n e = grind arith

numeral_first : (n b : ℕ) (w : List ℕ) → n < 2 ^ 128 → decimal n ≡ b ∷ w → IsNumeral 10 (b ∷ w)
numeral_first n b w low e = subst (IsNumeral 10) e (decimal_is_IsNumeral_wide n (omega arith)).0

no_true : (n : ℕ) → n < 2 ^ 128 → decimal n ≡ codes "true" → ⊥
no_true n low e = let numeral = numeral_first n 116 (codes "rue") low e in omega (arith, numeral.1.0)

no_false : (n : ℕ) → n < 2 ^ 128 → decimal n ≡ codes "false" → ⊥
no_false n low e = let numeral = numeral_first n 102 (codes "alse") low e in omega (arith, numeral.1.0)

true_other : codes "true" ≡ codes "false" → ⊥
true_other e = omega (arith, heads e)

pub names_same : (xs ys : List (List ℕ)) → row_of (map quote xs) ≡ row_of (map quote ys) → xs ≡ ys
names_same [] [] e = refl
names_same [] (y ∷ ys) e = cc e
names_same (x ∷ xs) [] e = cc e
names_same (x ∷ xs) (y ∷ ys) e = ap₂ ◌∷◌ (quote_of (first_of e)) (names_same xs ys (rest_of e))

number_type_same : (n m : NumTy) → number_type n ≡ number_type m → n ≡ m
number_type_same Nat Nat e = refl
number_type_same Nat Int e = absurd (omega (arith, heads (word_of e)))
number_type_same Int Nat e = absurd (omega (arith, heads (word_of e)))
number_type_same Int Int e = refl

-- ---- what is the same for a tree

-- what is written and has this tree is one expression, item, step, count and path
record One (t : TextTree) : Type 0 where
  exp : (a b : IlExp) → exp_written a ≡ true → exp_written b ≡ true → t ≡ exp_tree a → t ≡ exp_tree b → a ≡ b
  item : (a b : ListItem) → item_written a ≡ true → item_written b ≡ true → t ≡ item_tree a → t ≡ item_tree b → a ≡ b
  step : (a b : PathSeg) → segment_written a ≡ true → segment_written b ≡ true → t ≡ segment_tree a → t ≡ segment_tree b → a ≡ b
  count : (a b : Iteration) → iteration_written a ≡ true → iteration_written b ≡ true → t ≡ iteration_tree a → t ≡ iteration_tree b → a ≡ b
  path : (a b : List PathSeg) → list_all segment_written a ≡ true → list_all segment_written b ≡ true → t ≡ group (map segment_tree a) → t ≡ group (map segment_tree b) → a ≡ b

-- the same of each tree of a row
Each : TextTrees → Type 0
Each none = Unit {0}
Each (more t ts) = One t × Each ts

each_first : (ts us : TextTrees) (t : TextTree) → Each ts → ts ≡ more t us → One t
unfolding Each
each_first none us t h e = cc e
each_first (more x ts) us t h e = subst One (first_of e) h.0

each_rest : (ts us : TextTrees) (t : TextTree) → Each ts → ts ≡ more t us → Each us
unfolding Each
each_rest none us t h e = cc e
each_rest (more x ts) us t h e = subst Each (rest_of e) h.1

exps_one : (ts : TextTrees) → Each ts → (xs ys : List IlExp) → list_all exp_written xs ≡ true → list_all exp_written ys ≡ true → ts ≡ row_of (map exp_tree xs) → ts ≡ row_of (map exp_tree ys) → xs ≡ ys
exps_one ts h [] [] p q e f = refl
exps_one ts h [] (y ∷ ys) p q e f = absurd (cc (e, f))
exps_one ts h (x ∷ xs) [] p q e f = absurd (cc (e, f))
exps_one ts h (x ∷ xs) (y ∷ ys) p q e f =
    ap₂ ◌∷◌ ((each_first ts _ _ h e).exp x y (both _ _ p).0 (both _ _ q).0 refl (first_of (sym e ∙ f)))
    (exps_one (row_of (map exp_tree xs)) (each_rest ts _ _ h e) xs ys (both _ _ p).1 (both _ _ q).1 refl (rest_of (sym e ∙ f)))

items_one : (ts : TextTrees) → Each ts → (xs ys : List ListItem) → list_all item_written xs ≡ true → list_all item_written ys ≡ true → ts ≡ row_of (map item_tree xs) → ts ≡ row_of (map item_tree ys) → xs ≡ ys
items_one ts h [] [] p q e f = refl
items_one ts h [] (y ∷ ys) p q e f = absurd (cc (e, f))
items_one ts h (x ∷ xs) [] p q e f = absurd (cc (e, f))
items_one ts h (x ∷ xs) (y ∷ ys) p q e f =
    ap₂ ◌∷◌ ((each_first ts _ _ h e).item x y (both _ _ p).0 (both _ _ q).0 refl (first_of (sym e ∙ f)))
    (items_one (row_of (map item_tree xs)) (each_rest ts _ _ h e) xs ys (both _ _ p).1 (both _ _ q).1 refl (rest_of (sym e ∙ f)))

steps_one : (ts : TextTrees) → Each ts → (xs ys : List PathSeg) → list_all segment_written xs ≡ true → list_all segment_written ys ≡ true → ts ≡ row_of (map segment_tree xs) → ts ≡ row_of (map segment_tree ys) → xs ≡ ys
steps_one ts h [] [] p q e f = refl
steps_one ts h [] (y ∷ ys) p q e f = absurd (cc (e, f))
steps_one ts h (x ∷ xs) [] p q e f = absurd (cc (e, f))
steps_one ts h (x ∷ xs) (y ∷ ys) p q e f =
    ap₂ ◌∷◌ ((each_first ts _ _ h e).step x y (both _ _ p).0 (both _ _ q).0 refl (first_of (sym e ∙ f)))
    (steps_one (row_of (map segment_tree xs)) (each_rest ts _ _ h e) xs ys (both _ _ p).1 (both _ _ q).1 refl (rest_of (sym e ∙ f)))

-- ---- expressions, kind by kind

set_parts : (a b c d : Bool) → (a && b && c && d) ≡ true → (a ≡ true) × (c ≡ true) × (d ≡ true)
set_parts a b c d e = let f = both _ _ e in let g = both _ _ f.0 in let i = both _ _ g.0 in (i.0, g.1, f.1)

slice_parts : (a b c : Bool) → (a && b && c) ≡ true → (a ≡ true) × (b ≡ true) × (c ≡ true)
slice_parts a b c e = let f = both _ _ e in let g = both _ _ f.0 in (g.0, g.1, f.1)

-- two expressions of a kind that have the same trees behind its word are the same
same_parts : (k : Kind) (ts : TextTrees) → Each ts → (a b : IlExp) → exp_written a ≡ true → exp_written b ≡ true → ExpParts k ts a → ExpParts k ts b → a ≡ b
same_parts kind.Var ts h a b p q d g = d.1 ∙ ap exp.Var (quote_of (first_of (sym d.2 ∙ g.2))) ∙ sym g.1
same_parts (kind.Unary op) ts h a b p q d g =
    let x = (each_first ts _ _ h d.2).exp d.0 g.0 (sym (unary-written op d.0) ∙ ap exp_written (sym d.1) ∙ p) (sym (unary-written op g.0) ∙ ap exp_written (sym g.1) ∙ q) refl (first_of (sym d.2 ∙ g.2)) in
    d.1 ∙ ap (unary_exp op) x ∙ sym g.1
same_parts (kind.Binary op) ts h a b p q d g =
    let u = both _ _ (sym (binary-written op d.0 d.1) ∙ ap exp_written (sym d.2) ∙ p) in
    let v = both _ _ (sym (binary-written op g.0 g.1) ∙ ap exp_written (sym g.2) ∙ q) in
    let e = sym d.3 ∙ g.3 in
    let x = (each_first ts _ _ h d.3).exp d.0 g.0 u.0 v.0 refl (first_of e) in
    let y = (each_first _ _ _ (each_rest ts _ _ h d.3) refl).exp d.1 g.1 u.1 v.1 refl (first_of (rest_of e)) in
    d.2 ∙ ap₂ (binary_exp op) x y ∙ sym g.2
same_parts (kind.Arithmetic op) ts h a b p q d g =
    let u = both _ _ (sym (arithmetic-written op d.0 d.1 d.2) ∙ ap exp_written (sym d.3) ∙ p) in
    let v = both _ _ (sym (arithmetic-written op g.0 g.1 g.2) ∙ ap exp_written (sym g.3) ∙ q) in
    let e = sym d.4 ∙ g.4 in
    let r = each_rest ts _ _ h d.4 in
    let n = number_type_same d.0 g.0 (first_of e) in
    let x = (each_first _ _ _ r refl).exp d.1 g.1 u.0 v.0 refl (first_of (rest_of e)) in
    let y = (each_first _ _ _ (each_rest _ _ _ r refl) refl).exp d.2 g.2 u.1 v.1 refl (first_of (rest_of (rest_of e))) in
    d.3 ∙ ap (λ m. arithmetic_exp op m d.1 d.2) n ∙ ap₂ (arithmetic_exp op g.0) x y ∙ sym g.3
same_parts kind.Case ts h a b p q d g =
    let e = sym d.4 ∙ g.4 in
    let es = exps_one _ (each_rest _ _ _ (each_rest ts _ _ h d.4) refl) d.2 g.2 (sym (written-Case d.0 d.1 d.2) ∙ ap exp_written (sym d.3) ∙ p) (sym (written-Case g.0 g.1 g.2) ∙ ap exp_written (sym g.3) ∙ q) refl (rest_of (rest_of e)) in
    d.3 ∙ ap (λ x. exp.Case x d.1 d.2) (quote_of (first_of e)) ∙ ap₂ (exp.Case g.0) (quote_of (first_of (rest_of e))) es ∙ sym g.3
same_parts kind.Fields ts h a b p q d g =
    let e = sym d.3 ∙ g.3 in
    let es = exps_one _ (each_rest ts _ _ h d.3) d.1 g.1 (sym (written-Fields d.0 d.1) ∙ ap exp_written (sym d.2) ∙ p) (sym (written-Fields g.0 g.1) ∙ ap exp_written (sym g.2) ∙ q) refl (rest_of e) in
    d.2 ∙ ap₂ exp.Fields (quote_of (first_of e)) es ∙ sym g.2
same_parts kind.Call ts h a b p q d g =
    let e = sym d.3 ∙ g.3 in
    let es = exps_one _ (each_rest ts _ _ h d.3) d.1 g.1 (sym (written-Call d.0 d.1) ∙ ap exp_written (sym d.2) ∙ p) (sym (written-Call g.0 g.1) ∙ ap exp_written (sym g.2) ∙ q) refl (rest_of e) in
    d.2 ∙ ap₂ exp.Call (quote_of (first_of e)) es ∙ sym g.2
same_parts kind.Dot ts h a b p q d g =
    let e = sym d.3 ∙ g.3 in
    let x = (each_first ts _ _ h d.3).exp d.0 g.0 (sym (written-Dot d.0 d.1) ∙ ap exp_written (sym d.2) ∙ p) (sym (written-Dot g.0 g.1) ∙ ap exp_written (sym g.2) ∙ q) refl (first_of e) in
    d.2 ∙ ap₂ exp.Dot x (quote_of (first_of (rest_of e))) ∙ sym g.2
same_parts kind.Set ts h a b p q d g =
    let u = set_parts _ _ _ _ (sym (written-Set d.0 d.1 d.2) ∙ ap exp_written (sym d.3) ∙ p) in
    let v = set_parts _ _ _ _ (sym (written-Set g.0 g.1 g.2) ∙ ap exp_written (sym g.3) ∙ q) in
    let e = sym d.4 ∙ g.4 in
    let r = each_rest ts _ _ h d.4 in
    let x = (each_first ts _ _ h d.4).exp d.0 g.0 u.0 v.0 refl (first_of e) in
    let way = (each_first _ _ _ r refl).path d.1 g.1 u.1 v.1 refl (first_of (rest_of e)) in
    let y = (each_first _ _ _ (each_rest _ _ _ r refl) refl).exp d.2 g.2 u.2 v.2 refl (first_of (rest_of (rest_of e))) in
    d.3 ∙ ap (λ z. exp.Set z d.1 d.2) x ∙ ap₂ (exp.Set g.0) way y ∙ sym g.3
same_parts kind.Extend ts h a b p q d g =
    let u = set_parts _ _ _ _ (sym (written-Extend d.0 d.1 d.2) ∙ ap exp_written (sym d.3) ∙ p) in
    let v = set_parts _ _ _ _ (sym (written-Extend g.0 g.1 g.2) ∙ ap exp_written (sym g.3) ∙ q) in
    let e = sym d.4 ∙ g.4 in
    let r = each_rest ts _ _ h d.4 in
    let x = (each_first ts _ _ h d.4).exp d.0 g.0 u.0 v.0 refl (first_of e) in
    let way = (each_first _ _ _ r refl).path d.1 g.1 u.1 v.1 refl (first_of (rest_of e)) in
    let y = (each_first _ _ _ (each_rest _ _ _ r refl) refl).exp d.2 g.2 u.2 v.2 refl (first_of (rest_of (rest_of e))) in
    d.3 ∙ ap (λ z. exp.Extend z d.1 d.2) x ∙ ap₂ (exp.Extend g.0) way y ∙ sym g.3
same_parts kind.Tuple ts h a b p q d g =
    let es = exps_one ts h d.0 g.0 (both _ _ (sym (written-Tuple d.0) ∙ ap exp_written (sym d.1) ∙ p)).1 (both _ _ (sym (written-Tuple g.0) ∙ ap exp_written (sym g.1) ∙ q)).1 d.2 g.2 in
    d.1 ∙ ap exp.Tuple es ∙ sym g.1
same_parts kind.List ts h a b p q d g =
    let e = sym d.3 ∙ g.3 in
    let is = items_one _ (each_rest ts _ _ h d.3) d.1 g.1 (both _ _ (sym (written-List d.0 d.1) ∙ ap exp_written (sym d.2) ∙ p)).1 (both _ _ (sym (written-List g.0 g.1) ∙ ap exp_written (sym g.2) ∙ q)).1 refl (rest_of e) in
    d.2 ∙ ap₂ exp.List (ty_same d.0 g.0 (first_of e)) is ∙ sym g.2
same_parts kind.Empty ts h a b p q d g = d.1 ∙ ap exp.Empty (ty_same d.0 g.0 (first_of (sym d.2 ∙ g.2))) ∙ sym g.1
same_parts kind.Absent ts h a b p q d g = d.1 ∙ ap exp.Absent (ty_same d.0 g.0 (first_of (sym d.2 ∙ g.2))) ∙ sym g.1
same_parts kind.Slice ts h a b p q d g =
    let u = slice_parts _ _ _ (sym (written-Slice d.0 d.1 d.2) ∙ ap exp_written (sym d.3) ∙ p) in
    let v = slice_parts _ _ _ (sym (written-Slice g.0 g.1 g.2) ∙ ap exp_written (sym g.3) ∙ q) in
    let e = sym d.4 ∙ g.4 in
    let r = each_rest ts _ _ h d.4 in
    let x = (each_first ts _ _ h d.4).exp d.0 g.0 u.0 v.0 refl (first_of e) in
    let y = (each_first _ _ _ r refl).exp d.1 g.1 u.1 v.1 refl (first_of (rest_of e)) in
    let z = (each_first _ _ _ (each_rest _ _ _ r refl) refl).exp d.2 g.2 u.2 v.2 refl (first_of (rest_of (rest_of e))) in
    d.3 ∙ ap (λ w. exp.Slice w d.1 d.2) x ∙ ap₂ (exp.Slice g.0) y z ∙ sym g.3
same_parts kind.Up ts h a b p q d g =
    let u = both _ _ (sym (written-Up d.0 d.1) ∙ ap exp_written (sym d.2) ∙ p) in
    let v = both _ _ (sym (written-Up g.0 g.1) ∙ ap exp_written (sym g.2) ∙ q) in
    let e = sym d.3 ∙ g.3 in
    let x = (each_first _ _ _ (each_rest ts _ _ h d.3) refl).exp d.1 g.1 u.1 v.1 refl (first_of (rest_of e)) in
    d.2 ∙ ap₂ exp.Up (ty_same d.0 g.0 (first_of e)) x ∙ sym g.2
same_parts kind.Iter ts h a b p q d g =
    let u = slice_parts _ _ _ (sym (written-Iter d.0 d.1 d.2) ∙ ap exp_written (sym d.3) ∙ p) in
    let v = slice_parts _ _ _ (sym (written-Iter g.0 g.1 g.2) ∙ ap exp_written (sym g.3) ∙ q) in
    let e = sym d.4 ∙ g.4 in
    let r = each_rest ts _ _ h d.4 in
    let k = (each_first ts _ _ h d.4).count d.0 g.0 u.0 v.0 refl (first_of e) in
    let xs = names_same d.1 g.1 (parts_of (first_of (rest_of e))) in
    let x = (each_first _ _ _ (each_rest _ _ _ r refl) refl).exp d.2 g.2 u.2 v.2 refl (first_of (rest_of (rest_of e))) in
    d.3 ∙ ap (λ z. exp.Iter z d.1 d.2) k ∙ ap₂ (exp.Iter g.0) xs x ∙ sym g.3

exp_list : (ts : TextTrees) → Each ts → (a b : IlExp) → exp_written a ≡ true → exp_written b ≡ true → list ts ≡ exp_tree a → list ts ≡ exp_tree b → a ≡ b
exp_list ts h a b p q e f =
    let d = formed a ts (sym e) in
    let g = formed b ts (sym f) in
    let begins = sym d.begins ∙ g.begins in
    let same : d.kind ≡ g.kind = kind_same d.kind g.kind (word_of (first_of begins)) in
    same_parts g.kind g.parts (each_rest ts _ _ h g.begins) a b p q
    (subst (λ k. ExpParts k g.parts a) same (subst (λ us. ExpParts d.kind us a) (rest_of begins) d.made)) g.made

exp_word : (w : List ℕ) (a b : IlExp) → exp_written a ≡ true → exp_written b ≡ true → word w ≡ exp_tree a → word w ≡ exp_tree b → a ≡ b
exp_word w a b p q e f = elim (worded a w e) [
  | inl d ↦ elim (worded b w f) [
    | inl g ↦ d.0 ∙ sym g.0
    | inr (inl g) ↦ absurd (true_other (sym d.1 ∙ g.1))
    | inr (inr g) ↦ absurd (no_true g.0 (number b g.0 q g.1) (sym g.2 ∙ d.1))
  ]
  | inr (inl d) ↦ elim (worded b w f) [
    | inl g ↦ absurd (true_other (sym g.1 ∙ d.1))
    | inr (inl g) ↦ d.0 ∙ sym g.0
    | inr (inr g) ↦ absurd (no_false g.0 (number b g.0 q g.1) (sym g.2 ∙ d.1))
  ]
  | inr (inr d) ↦ elim (worded b w f) [
    | inl g ↦ absurd (no_true d.0 (number a d.0 p d.1) (sym d.2 ∙ g.1))
    | inr (inl g) ↦ absurd (no_false d.0 (number a d.0 p d.1) (sym d.2 ∙ g.1))
    | inr (inr g) ↦ d.1 ∙ ap exp.Number (decimal-unique d.0 g.0 (number a d.0 p d.1) (number b g.0 q g.1) (sym d.2 ∙ g.2)) ∙ sym g.1
  ]
]
  where
    number : (x : IlExp) (n : ℕ) → exp_written x ≡ true → x ≡ exp.Number n → n < 2 ^ 128
    number x n r is = small n (sym (written-Number n) ∙ ap exp_written (sym is) ∙ r)

-- ---- items, steps and counts

-- the first byte of a word
abbrev first : TextTree → ℕ
first (word []) = 0
first (word (b ∷ w)) = b
first (quote s) = 0
first (list ts) = 0

-- the first byte of the word that begins a list
abbrev head : TextTree → ℕ
head (word w) = 0
head (quote s) = 0
head (list none) = 0
head (list (more t ts)) = first t

behind_head : (ts us : TextTrees) (t : TextTree) → Each ts → list ts ≡ list (more t us) → Each us
behind_head ts us t h e = each_rest ts us t h (parts_of e)

items_at : (t : TextTree) → ((us : TextTrees) (u : TextTree) → t ≡ list (more u us) → Each us) → (l m : ListItem-F IlExp Iteration ListItem PathSeg)
    → item_written (roll-ListItem l) ≡ true → item_written (roll-ListItem m) ≡ true → t ≡ item_tree (roll-ListItem l) → t ≡ item_tree (roll-ListItem m) → l ≡ m
items_at t h (ListItem-F.One x) (ListItem-F.One y) p q e f =
    let i = e ∙ item-tree (ListItem-F.One x) in
    ap ListItem-F.One ((each_first _ _ _ (h _ _ i) refl).exp x y (sym (item-written (ListItem-F.One x)) ∙ p) (sym (item-written (ListItem-F.One y)) ∙ q) refl (first_of (rest_of (parts_of (sym i ∙ f ∙ item-tree (ListItem-F.One y))))))
items_at t h (ListItem-F.One x) (ListItem-F.All y) p q e f = absurd (omega (arith, ap head (sym (e ∙ item-tree (ListItem-F.One x)) ∙ f ∙ item-tree (ListItem-F.All y))))
items_at t h (ListItem-F.All x) (ListItem-F.One y) p q e f = absurd (omega (arith, ap head (sym (e ∙ item-tree (ListItem-F.All x)) ∙ f ∙ item-tree (ListItem-F.One y))))
items_at t h (ListItem-F.All x) (ListItem-F.All y) p q e f =
    let i = e ∙ item-tree (ListItem-F.All x) in
    ap ListItem-F.All ((each_first _ _ _ (h _ _ i) refl).exp x y (sym (item-written (ListItem-F.All x)) ∙ p) (sym (item-written (ListItem-F.All y)) ∙ q) refl (first_of (rest_of (parts_of (sym i ∙ f ∙ item-tree (ListItem-F.All y))))))

item_one : (t : TextTree) → ((us : TextTrees) (u : TextTree) → t ≡ list (more u us) → Each us) → (a b : ListItem) → item_written a ≡ true → item_written b ≡ true → t ≡ item_tree a → t ≡ item_tree b → a ≡ b
item_one t h a b p q e f =
    let same = items_at t h (out-ListItem a) (out-ListItem b) (ap item_written (roll-out-ListItem a) ∙ p) (ap item_written (roll-out-ListItem b) ∙ q) (e ∙ ap item_tree (sym (roll-out-ListItem a))) (f ∙ ap item_tree (sym (roll-out-ListItem b))) in
    sym (roll-out-ListItem a) ∙ ap roll-ListItem same ∙ roll-out-ListItem b

steps_at : (t : TextTree) → ((us : TextTrees) (u : TextTree) → t ≡ list (more u us) → Each us) → (l m : PathSeg-F IlExp Iteration ListItem PathSeg)
    → segment_written (roll-PathSeg l) ≡ true → segment_written (roll-PathSeg m) ≡ true → t ≡ segment_tree (roll-PathSeg l) → t ≡ segment_tree (roll-PathSeg m) → l ≡ m
steps_at t h (PathSeg-F.Field x) (PathSeg-F.Field y) p q e f = ap PathSeg-F.Field (quote_of (first_of (rest_of (parts_of (sym (e ∙ segment-tree (PathSeg-F.Field x)) ∙ f ∙ segment-tree (PathSeg-F.Field y))))))
steps_at t h (PathSeg-F.PathSeg::At x) (PathSeg-F.PathSeg::At y) p q e f =
    let i = e ∙ segment-tree (PathSeg-F.PathSeg::At x) in
    ap PathSeg-F.PathSeg::At ((each_first _ _ _ (h _ _ i) refl).exp x y (sym (segment-written (PathSeg-F.PathSeg::At x)) ∙ p) (sym (segment-written (PathSeg-F.PathSeg::At y)) ∙ q) refl (first_of (rest_of (parts_of (sym i ∙ f ∙ segment-tree (PathSeg-F.PathSeg::At y))))))
steps_at t h (PathSeg-F.PathSeg::Slice x y) (PathSeg-F.PathSeg::Slice v w) p q e f =
    let i = e ∙ segment-tree (PathSeg-F.PathSeg::Slice x y) in
    let j = rest_of (parts_of (sym i ∙ f ∙ segment-tree (PathSeg-F.PathSeg::Slice v w))) in
    let r = both _ _ (sym (segment-written (PathSeg-F.PathSeg::Slice x y)) ∙ p) in
    let s = both _ _ (sym (segment-written (PathSeg-F.PathSeg::Slice v w)) ∙ q) in
    ap₂ PathSeg-F.PathSeg::Slice ((each_first _ _ _ (h _ _ i) refl).exp x v r.0 s.0 refl (first_of j)) ((each_first _ _ _ (each_rest _ _ _ (h _ _ i) refl) refl).exp y w r.1 s.1 refl (first_of (rest_of j)))
steps_at t h (PathSeg-F.Field x) (PathSeg-F.PathSeg::At v) p q e f = absurd (omega (arith, ap head (sym (e ∙ segment-tree (PathSeg-F.Field x)) ∙ f ∙ segment-tree (PathSeg-F.PathSeg::At v))))
steps_at t h (PathSeg-F.Field x) (PathSeg-F.PathSeg::Slice v w) p q e f = absurd (omega (arith, ap head (sym (e ∙ segment-tree (PathSeg-F.Field x)) ∙ f ∙ segment-tree (PathSeg-F.PathSeg::Slice v w))))
steps_at t h (PathSeg-F.PathSeg::At x) (PathSeg-F.Field v) p q e f = absurd (omega (arith, ap head (sym (e ∙ segment-tree (PathSeg-F.PathSeg::At x)) ∙ f ∙ segment-tree (PathSeg-F.Field v))))
steps_at t h (PathSeg-F.PathSeg::At x) (PathSeg-F.PathSeg::Slice v w) p q e f = absurd (omega (arith, ap head (sym (e ∙ segment-tree (PathSeg-F.PathSeg::At x)) ∙ f ∙ segment-tree (PathSeg-F.PathSeg::Slice v w))))
steps_at t h (PathSeg-F.PathSeg::Slice x y) (PathSeg-F.Field v) p q e f = absurd (omega (arith, ap head (sym (e ∙ segment-tree (PathSeg-F.PathSeg::Slice x y)) ∙ f ∙ segment-tree (PathSeg-F.Field v))))
steps_at t h (PathSeg-F.PathSeg::Slice x y) (PathSeg-F.PathSeg::At v) p q e f = absurd (omega (arith, ap head (sym (e ∙ segment-tree (PathSeg-F.PathSeg::Slice x y)) ∙ f ∙ segment-tree (PathSeg-F.PathSeg::At v))))

step_one : (t : TextTree) → ((us : TextTrees) (u : TextTree) → t ≡ list (more u us) → Each us) → (a b : PathSeg) → segment_written a ≡ true → segment_written b ≡ true → t ≡ segment_tree a → t ≡ segment_tree b → a ≡ b
step_one t h a b p q e f =
    let same = steps_at t h (out-PathSeg a) (out-PathSeg b) (ap segment_written (roll-out-PathSeg a) ∙ p) (ap segment_written (roll-out-PathSeg b) ∙ q) (e ∙ ap segment_tree (sym (roll-out-PathSeg a))) (f ∙ ap segment_tree (sym (roll-out-PathSeg b))) in
    sym (roll-out-PathSeg a) ∙ ap roll-PathSeg same ∙ roll-out-PathSeg b

counts_at : (t : TextTree) → ((us : TextTrees) (u : TextTree) → t ≡ list (more u us) → Each us) → (l m : Iteration-F IlExp Iteration ListItem PathSeg)
    → iteration_written (roll-Iteration l) ≡ true → iteration_written (roll-Iteration m) ≡ true → t ≡ iteration_tree (roll-Iteration l) → t ≡ iteration_tree (roll-Iteration m) → l ≡ m
counts_at t h Iteration-F.Star Iteration-F.Star p q e f = refl
counts_at t h Iteration-F.Plus Iteration-F.Plus p q e f = refl
counts_at t h Iteration-F.Quest Iteration-F.Quest p q e f = refl
counts_at t h (Iteration-F.Times x) (Iteration-F.Times y) p q e f =
    let i = e ∙ iteration-tree (Iteration-F.Times x) in
    ap Iteration-F.Times ((each_first _ _ _ (h _ _ i) refl).exp x y (sym (iteration-written (Iteration-F.Times x)) ∙ p) (sym (iteration-written (Iteration-F.Times y)) ∙ q) refl (first_of (rest_of (parts_of (sym i ∙ f ∙ iteration-tree (Iteration-F.Times y))))))
counts_at t h (BelowCount n x) (BelowCount m y) p q e f =
    let i = e ∙ iteration-tree (BelowCount n x) in
    let j = rest_of (parts_of (sym i ∙ f ∙ iteration-tree (BelowCount m y))) in
    ap₂ BelowCount (quote_of (first_of j)) ((each_first _ _ _ (each_rest _ _ _ (h _ _ i) refl) refl).exp x y (sym (iteration-written (BelowCount n x)) ∙ p) (sym (iteration-written (BelowCount m y)) ∙ q) refl (first_of (rest_of j)))
counts_at t h Iteration-F.Star Iteration-F.Plus p q e f = absurd (omega (arith, ap first (sym (e ∙ iteration-tree Iteration-F.Star) ∙ f ∙ iteration-tree Iteration-F.Plus)))
counts_at t h Iteration-F.Star Iteration-F.Quest p q e f = absurd (omega (arith, ap first (sym (e ∙ iteration-tree Iteration-F.Star) ∙ f ∙ iteration-tree Iteration-F.Quest)))
counts_at t h Iteration-F.Star (Iteration-F.Times y) p q e f = absurd (cc (sym (e ∙ iteration-tree Iteration-F.Star) ∙ f ∙ iteration-tree (Iteration-F.Times y)))
counts_at t h Iteration-F.Star (BelowCount m y) p q e f = absurd (cc (sym (e ∙ iteration-tree Iteration-F.Star) ∙ f ∙ iteration-tree (BelowCount m y)))
counts_at t h Iteration-F.Plus Iteration-F.Star p q e f = absurd (omega (arith, ap first (sym (e ∙ iteration-tree Iteration-F.Plus) ∙ f ∙ iteration-tree Iteration-F.Star)))
counts_at t h Iteration-F.Plus Iteration-F.Quest p q e f = absurd (omega (arith, ap first (sym (e ∙ iteration-tree Iteration-F.Plus) ∙ f ∙ iteration-tree Iteration-F.Quest)))
counts_at t h Iteration-F.Plus (Iteration-F.Times y) p q e f = absurd (cc (sym (e ∙ iteration-tree Iteration-F.Plus) ∙ f ∙ iteration-tree (Iteration-F.Times y)))
counts_at t h Iteration-F.Plus (BelowCount m y) p q e f = absurd (cc (sym (e ∙ iteration-tree Iteration-F.Plus) ∙ f ∙ iteration-tree (BelowCount m y)))
counts_at t h Iteration-F.Quest Iteration-F.Star p q e f = absurd (omega (arith, ap first (sym (e ∙ iteration-tree Iteration-F.Quest) ∙ f ∙ iteration-tree Iteration-F.Star)))
counts_at t h Iteration-F.Quest Iteration-F.Plus p q e f = absurd (omega (arith, ap first (sym (e ∙ iteration-tree Iteration-F.Quest) ∙ f ∙ iteration-tree Iteration-F.Plus)))
counts_at t h Iteration-F.Quest (Iteration-F.Times y) p q e f = absurd (cc (sym (e ∙ iteration-tree Iteration-F.Quest) ∙ f ∙ iteration-tree (Iteration-F.Times y)))
counts_at t h Iteration-F.Quest (BelowCount m y) p q e f = absurd (cc (sym (e ∙ iteration-tree Iteration-F.Quest) ∙ f ∙ iteration-tree (BelowCount m y)))
counts_at t h (Iteration-F.Times x) Iteration-F.Star p q e f = absurd (cc (sym (e ∙ iteration-tree (Iteration-F.Times x)) ∙ f ∙ iteration-tree Iteration-F.Star))
counts_at t h (Iteration-F.Times x) Iteration-F.Plus p q e f = absurd (cc (sym (e ∙ iteration-tree (Iteration-F.Times x)) ∙ f ∙ iteration-tree Iteration-F.Plus))
counts_at t h (Iteration-F.Times x) Iteration-F.Quest p q e f = absurd (cc (sym (e ∙ iteration-tree (Iteration-F.Times x)) ∙ f ∙ iteration-tree Iteration-F.Quest))
counts_at t h (Iteration-F.Times x) (BelowCount m y) p q e f = absurd (cc (rest_of (rest_of (parts_of (sym (e ∙ iteration-tree (Iteration-F.Times x)) ∙ f ∙ iteration-tree (BelowCount m y))))))
counts_at t h (BelowCount n x) Iteration-F.Star p q e f = absurd (cc (sym (e ∙ iteration-tree (BelowCount n x)) ∙ f ∙ iteration-tree Iteration-F.Star))
counts_at t h (BelowCount n x) Iteration-F.Plus p q e f = absurd (cc (sym (e ∙ iteration-tree (BelowCount n x)) ∙ f ∙ iteration-tree Iteration-F.Plus))
counts_at t h (BelowCount n x) Iteration-F.Quest p q e f = absurd (cc (sym (e ∙ iteration-tree (BelowCount n x)) ∙ f ∙ iteration-tree Iteration-F.Quest))
counts_at t h (BelowCount n x) (Iteration-F.Times y) p q e f = absurd (cc (rest_of (rest_of (parts_of (sym (e ∙ iteration-tree (BelowCount n x)) ∙ f ∙ iteration-tree (Iteration-F.Times y))))))

count_one : (t : TextTree) → ((us : TextTrees) (u : TextTree) → t ≡ list (more u us) → Each us) → (a b : Iteration) → iteration_written a ≡ true → iteration_written b ≡ true → t ≡ iteration_tree a → t ≡ iteration_tree b → a ≡ b
count_one t h a b p q e f =
    let same = counts_at t h (out-Iteration a) (out-Iteration b) (ap iteration_written (roll-out-Iteration a) ∙ p) (ap iteration_written (roll-out-Iteration b) ∙ q) (e ∙ ap iteration_tree (sym (roll-out-Iteration a))) (f ∙ ap iteration_tree (sym (roll-out-Iteration b))) in
    sym (roll-out-Iteration a) ∙ ap roll-Iteration same ∙ roll-out-Iteration b

-- ---- the induction over trees

no_parts : (t : TextTree) → ((ts : TextTrees) → t ≡ list ts → ⊥) → (us : TextTrees) (u : TextTree) → t ≡ list (more u us) → Each us
no_parts t n us u e = absurd (n _ e)

mutual
  unfolding Each

  one : (t : TextTree) → One t
  one (word w) = record {
    exp = exp_word w;
    item = item_one (word w) (no_parts (word w) (λ ts e. cc e));
    step = step_one (word w) (no_parts (word w) (λ ts e. cc e));
    count = count_one (word w) (no_parts (word w) (λ ts e. cc e));
    path = λ a b p q e f. absurd (cc e);
  }
  one (quote s) = record {
    exp = λ a b p q e f. quoted a s e ∙ sym (quoted b s f);
    item = item_one (quote s) (no_parts (quote s) (λ ts e. cc e));
    step = step_one (quote s) (no_parts (quote s) (λ ts e. cc e));
    count = count_one (quote s) (no_parts (quote s) (λ ts e. cc e));
    path = λ a b p q e f. absurd (cc e);
  }
  one (list ts) = record {
    exp = exp_list ts (each ts);
    item = item_one (list ts) (λ us u e. behind_head ts us u (each ts) e);
    step = step_one (list ts) (λ us u e. behind_head ts us u (each ts) e);
    count = count_one (list ts) (λ us u e. behind_head ts us u (each ts) e);
    path = λ a b p q e f. steps_one ts (each ts) a b p q (parts_of e) (parts_of f);
  }

  each : (ts : TextTrees) → Each ts
  each none = tt
  each (more t ts) = (one t, each ts)

-- expressions whose trees are the same are so
pub exp_same : (a b : IlExp) → exp_written a ≡ true → exp_written b ≡ true → exp_tree a ≡ exp_tree b → a ≡ b
exp_same a b p q e = (one (exp_tree a)).exp a b p q refl e

pub exps_same : (xs ys : List IlExp) → list_all exp_written xs ≡ true → list_all exp_written ys ≡ true → row_of (map exp_tree xs) ≡ row_of (map exp_tree ys) → xs ≡ ys
exps_same xs ys p q e = exps_one _ (each _) xs ys p q refl e

pub count_same : (a b : Iteration) → iteration_written a ≡ true → iteration_written b ≡ true → iteration_tree a ≡ iteration_tree b → a ≡ b
count_same a b p q e = (one (iteration_tree a)).count a b p q refl e
