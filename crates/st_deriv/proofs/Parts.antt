-- What single trees and short rows of them are.
use Rattle.std.proofs.Common.{◌≡◌, ℕ, ◌+◌, List, [], ◌∷◌, length, get_or, Bool, refl, sym, ap, ◌∙◌, arith, rules}
use Rattle.std.specs.Prelude.{◌↔◌, IsTrue}
use Rattle.st_text.specs.Text.{TextTree, TextTrees, word, quote, list, none, more}
use Rattle.st_text.specs.Trees.{tree_of, trees_of}
use Rattle.st_text.specs.declared.tree.TextTree as program
use Rattle.st_text.specs.declared.tree.TextTree.{List as ListTree, the_lemmas}
use Rattle.st_deriv.specs.inner.Reading.{IsNoCase}

-- ---- lists of a known length

pub five_is : {X : Type 0} (xs : List X) (a b c d e : X) → length xs ≡ 5 → a ≡ get_or xs 0 a → b ≡ get_or xs 1 b → c ≡ get_or xs 2 c
    → d ≡ get_or xs 3 d → e ≡ get_or xs 4 e → xs ≡ a ∷ b ∷ c ∷ d ∷ e ∷ []
five_is [] a b c d e five ea eb ec ed ee = absurd (omega arith)
five_is (p ∷ []) a b c d e five ea eb ec ed ee = absurd (omega arith)
five_is (p ∷ q ∷ []) a b c d e five ea eb ec ed ee = absurd (omega arith)
five_is (p ∷ q ∷ r ∷ []) a b c d e five ea eb ec ed ee = absurd (omega arith)
five_is (p ∷ q ∷ r ∷ s ∷ []) a b c d e five ea eb ec ed ee = absurd (omega arith)
five_is (p ∷ q ∷ r ∷ s ∷ t ∷ []) a b c d e five ea eb ec ed ee = cc
five_is (p ∷ q ∷ r ∷ s ∷ t ∷ u ∷ xs) a b c d e five ea eb ec ed ee = absurd (omega arith)

-- ---- parts of equal trees

pub words : {v w : List ℕ} → word v ≡ word w → v ≡ w
words e = cc

pub quotes : {s r : List ℕ} → quote s ≡ quote r → s ≡ r
quotes e = cc

pub lists : {ts us : TextTrees} → list ts ≡ list us → ts ≡ us
lists e = cc

pub firsts : {t u : TextTree} {ts us : TextTrees} → more t ts ≡ more u us → t ≡ u
firsts e = cc

pub rests : {t u : TextTree} {ts us : TextTrees} → more t ts ≡ more u us → ts ≡ us
rests e = cc

-- the first byte of the word that a row begins with
pub first_byte : {a b : ℕ} {v w : List ℕ} {ts us : TextTrees} → more (word (a ∷ v)) ts ≡ more (word (b ∷ w)) us → a ≡ b
first_byte e = cc

-- how many trees stand in a row
abbrev pub count : TextTrees → ℕ
count none = 0
count (more t ts) = count ts + 1

pub trees_count : (trees : List program.TextTree) → count (trees_of trees) ≡ length trees
trees_count [] = refl
trees_count (t ∷ trees) = omega (arith, trees_count trees)

-- ---- what one tree is

pub tree_of-List : (trees : List program.TextTree) → tree_of (ListTree trees) ≡ list (trees_of trees)
tree_of-List trees = search (rules, the_lemmas)

empty : (trees : List program.TextTree) → trees_of trees ≡ none → trees ≡ []
empty [] e = refl
empty (t ∷ trees) e = absurd (cc)

pub empty_list : (t : program.TextTree) (trees : List program.TextTree) (b : Bool) → t ≡ ListTree trees → (IsTrue b ↔ (trees ≡ [])) → IsTrue b ↔ (tree_of t ≡ list none)
empty_list t trees b e i =
    let same : tree_of t ≡ list (trees_of trees) = ap tree_of e ∙ tree_of-List trees in
    (λ y. same ∙ ap (λ us. list (trees_of us)) (i.0 y), λ f. i.1 (empty trees (lists (sym same ∙ f))))

pub case_length : (t : TextTree) (trees : List program.TextTree) → t ≡ list (trees_of trees) → (length trees ≡ 2 → ⊥) → IsNoCase t
case_length t trees e n = record { never = λ tag f. n (sym (trees_count trees) ∙ ap count (lists (sym e ∙ f))) }
