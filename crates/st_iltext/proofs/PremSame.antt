-- Premises are equal where their trees are.
use Rattle.std.proofs.Common.{◌≡◌, ℕ, ◌+◌, ◌*◌, List, [], ◌∷◌, map, Bool, true, ◌&&◌, refl, sym, ap, ap₂, subst, ◌∙◌, arith}
use Rattle.std.specs.List.{list_all}
use Rattle.st_il.specs.declared.expression.IlPrem.{IlPrem, roll-IlPrem, out-IlPrem, map-IlPrem, roll-out-IlPrem, fold-roll-IlPrem}
use Rattle.st_il.specs.declared.expression.IlPrem.TheOpen.{IlPrem-F}
use Rattle.st_text.specs.Text.{TextTree, TextTrees, word, quote, list, none, more}
use Rattle.st_text.specs.Trees.{row_of}
use Rattle.st_iltext.specs.Expressions.{prem_at, prem_tree}
use Rattle.st_iltext.specs.Written.{prem_written_at, prem_written}
use Rattle.st_iltext.proofs.Rows.{first_of, rest_of, parts_of, quote_of, both}
use Rattle.st_iltext.proofs.ExpSame.{names_same, exp_same, exps_same, count_same}

pub prem-tree : (l : IlPrem-F IlPrem) → prem_tree (roll-IlPrem l) ≡ prem_at (map-IlPrem IlPrem TextTree prem_tree l)
prem-tree l = fold-roll-IlPrem TextTree prem_at l

pub prem-written : (l : IlPrem-F IlPrem) → prem_written (roll-IlPrem l) ≡ prem_written_at (map-IlPrem IlPrem Bool prem_written l)
prem-written l = fold-roll-IlPrem Bool prem_written_at l

-- what tells two words apart by their first two bytes
abbrev pub code : List ℕ → ℕ
code (a ∷ b ∷ w) = a + 256 * b
code w = 0

abbrev word_code : TextTree → ℕ
word_code (word w) = code w
word_code t = 0

-- the same of the word that begins a list
abbrev pub head : TextTree → ℕ
head (list (more t ts)) = word_code t
head t = 0

abbrev IsOne : TextTree → Type 0
IsOne t = (a b : IlPrem) → prem_written a ≡ true → prem_written b ≡ true → t ≡ prem_tree a → t ≡ prem_tree b → a ≡ b

Each : TextTrees → Type 0
Each none = Unit {0}
Each (more t ts) = IsOne t × Each ts

each_first : (ts us : TextTrees) (t : TextTree) → Each ts → ts ≡ more t us → IsOne t
unfolding Each
each_first none us t h e = cc e
each_first (more x ts) us t h e = subst IsOne (first_of e) h.0

each_rest : (ts us : TextTrees) (t : TextTree) → Each ts → ts ≡ more t us → Each us
unfolding Each
each_rest none us t h e = cc e
each_rest (more x ts) us t h e = subst Each (rest_of e) h.1

-- of three tests the first two
three : (a b c : Bool) → (a && b && c) ≡ true → (a ≡ true) × (c ≡ true)
three a b c e = let f = both _ _ e in let g = both _ _ f.0 in (g.0, f.1)

prems_at : (t : TextTree) → ((us : TextTrees) (u : TextTree) → t ≡ list (more u us) → Each us) → (l m : IlPrem-F IlPrem)
    → prem_written (roll-IlPrem l) ≡ true → prem_written (roll-IlPrem m) ≡ true → t ≡ prem_tree (roll-IlPrem l) → t ≡ prem_tree (roll-IlPrem m) → l ≡ m
prems_at t h (IlPrem-F.If x) (IlPrem-F.If y) p q e f =
    ap IlPrem-F.If (exp_same x y (sym (prem-written (IlPrem-F.If x)) ∙ p) (sym (prem-written (IlPrem-F.If y)) ∙ q) (first_of (rest_of (parts_of (sym (e ∙ prem-tree (IlPrem-F.If x)) ∙ f ∙ prem-tree (IlPrem-F.If y))))))
prems_at t h (IlPrem-F.Goal r xs) (IlPrem-F.Goal s ys) p q e f =
    let j = rest_of (parts_of (sym (e ∙ prem-tree (IlPrem-F.Goal r xs)) ∙ f ∙ prem-tree (IlPrem-F.Goal s ys))) in
    ap₂ IlPrem-F.Goal (quote_of (first_of j)) (exps_same xs ys (sym (prem-written (IlPrem-F.Goal r xs)) ∙ p) (sym (prem-written (IlPrem-F.Goal s ys)) ∙ q) (rest_of j))
prems_at t h IlPrem-F.Otherwise IlPrem-F.Otherwise p q e f = refl
prems_at t h (IlPrem-F.Each k xs x) (IlPrem-F.Each n ys y) p q e f =
    let i = e ∙ prem-tree (IlPrem-F.Each k xs x) in
    let j = rest_of (parts_of (sym i ∙ f ∙ prem-tree (IlPrem-F.Each n ys y))) in
    let u = three _ _ _ (sym (prem-written (IlPrem-F.Each k xs x)) ∙ p) in
    let v = three _ _ _ (sym (prem-written (IlPrem-F.Each n ys y)) ∙ q) in
    let r = each_rest _ _ _ (each_rest _ _ _ (h _ _ i) refl) refl in
    let same = each_first _ _ _ r refl x y u.1 v.1 refl (first_of (rest_of (rest_of j))) in
    ap (λ z. IlPrem-F.Each z xs x) (count_same k n u.0 v.0 (first_of j)) ∙ ap₂ (IlPrem-F.Each n) (names_same xs ys (parts_of (first_of (rest_of j)))) same
prems_at t h (IlPrem-F.If x) (IlPrem-F.Goal s ys) p q e f = absurd (omega (arith, ap head (sym (e ∙ prem-tree (IlPrem-F.If x)) ∙ f ∙ prem-tree (IlPrem-F.Goal s ys))))
prems_at t h (IlPrem-F.If x) IlPrem-F.Otherwise p q e f = absurd (omega (arith, ap head (sym (e ∙ prem-tree (IlPrem-F.If x)) ∙ f ∙ prem-tree IlPrem-F.Otherwise)))
prems_at t h (IlPrem-F.If x) (IlPrem-F.Each n ys y) p q e f = absurd (omega (arith, ap head (sym (e ∙ prem-tree (IlPrem-F.If x)) ∙ f ∙ prem-tree (IlPrem-F.Each n ys y))))
prems_at t h (IlPrem-F.Goal r xs) (IlPrem-F.If y) p q e f = absurd (omega (arith, ap head (sym (e ∙ prem-tree (IlPrem-F.Goal r xs)) ∙ f ∙ prem-tree (IlPrem-F.If y))))
prems_at t h (IlPrem-F.Goal r xs) IlPrem-F.Otherwise p q e f = absurd (omega (arith, ap head (sym (e ∙ prem-tree (IlPrem-F.Goal r xs)) ∙ f ∙ prem-tree IlPrem-F.Otherwise)))
prems_at t h (IlPrem-F.Goal r xs) (IlPrem-F.Each n ys y) p q e f = absurd (omega (arith, ap head (sym (e ∙ prem-tree (IlPrem-F.Goal r xs)) ∙ f ∙ prem-tree (IlPrem-F.Each n ys y))))
prems_at t h IlPrem-F.Otherwise (IlPrem-F.If y) p q e f = absurd (omega (arith, ap head (sym (e ∙ prem-tree IlPrem-F.Otherwise) ∙ f ∙ prem-tree (IlPrem-F.If y))))
prems_at t h IlPrem-F.Otherwise (IlPrem-F.Goal s ys) p q e f = absurd (omega (arith, ap head (sym (e ∙ prem-tree IlPrem-F.Otherwise) ∙ f ∙ prem-tree (IlPrem-F.Goal s ys))))
prems_at t h IlPrem-F.Otherwise (IlPrem-F.Each n ys y) p q e f = absurd (omega (arith, ap head (sym (e ∙ prem-tree IlPrem-F.Otherwise) ∙ f ∙ prem-tree (IlPrem-F.Each n ys y))))
prems_at t h (IlPrem-F.Each k xs x) (IlPrem-F.If y) p q e f = absurd (omega (arith, ap head (sym (e ∙ prem-tree (IlPrem-F.Each k xs x)) ∙ f ∙ prem-tree (IlPrem-F.If y))))
prems_at t h (IlPrem-F.Each k xs x) (IlPrem-F.Goal s ys) p q e f = absurd (omega (arith, ap head (sym (e ∙ prem-tree (IlPrem-F.Each k xs x)) ∙ f ∙ prem-tree (IlPrem-F.Goal s ys))))
prems_at t h (IlPrem-F.Each k xs x) IlPrem-F.Otherwise p q e f = absurd (omega (arith, ap head (sym (e ∙ prem-tree (IlPrem-F.Each k xs x)) ∙ f ∙ prem-tree IlPrem-F.Otherwise)))

prem_one : (t : TextTree) → ((us : TextTrees) (u : TextTree) → t ≡ list (more u us) → Each us) → IsOne t
prem_one t h a b p q e f =
    let same = prems_at t h (out-IlPrem a) (out-IlPrem b) (ap prem_written (roll-out-IlPrem a) ∙ p) (ap prem_written (roll-out-IlPrem b) ∙ q) (e ∙ ap prem_tree (sym (roll-out-IlPrem a))) (f ∙ ap prem_tree (sym (roll-out-IlPrem b))) in
    sym (roll-out-IlPrem a) ∙ ap roll-IlPrem same ∙ roll-out-IlPrem b

mutual
  unfolding Each

  one : (t : TextTree) → IsOne t
  one (word w) a b p q e f = prem_one (word w) (λ us u g. absurd (cc g)) a b p q e f
  one (quote s) a b p q e f = prem_one (quote s) (λ us u g. absurd (cc g)) a b p q e f
  one (list ts) a b p q e f = prem_one (list ts) (λ us u g. each_rest ts us u (each ts) (parts_of g)) a b p q e f

  each : (ts : TextTrees) → Each ts
  each none = tt
  each (more t ts) = (one t, each ts)

-- premises whose trees are the same are so
pub prems_same : (xs ys : List IlPrem) → list_all prem_written xs ≡ true → list_all prem_written ys ≡ true → row_of (map prem_tree xs) ≡ row_of (map prem_tree ys) → xs ≡ ys
prems_same [] [] p q e = refl
prems_same [] (y ∷ ys) p q e = cc e
prems_same (x ∷ xs) [] p q e = cc e
prems_same (x ∷ xs) (y ∷ ys) p q e =
    ap₂ ◌∷◌ (one (prem_tree x) x y (both _ _ p).0 (both _ _ q).0 refl (first_of e)) (prems_same xs ys (both _ _ p).1 (both _ _ q).1 (rest_of e))
