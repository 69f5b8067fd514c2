-- What the readers of trees answer: what a tree is the tree of, or that it is none.
use Rattle.std.specs.Prelude.{◌≡◌, List, map, Bool, true, Result}
use Rattle.std.specs.List.{list_all}
use Rattle.st_text.specs.declared.fault.TextFault.{TextFault}
use Rattle.st_text.specs.Text.{TextTree, TextTrees}
use Rattle.st_text.specs.Trees.{row_of}
use Rattle.st_text.specs.Reading.{Answers}

-- the tree is that of this, which is written in the one spelling
pub record IsOf {X : Type 0} (tree : X → TextTree) (written : X → Bool)
    (t : TextTree) (x : X) : Type 0 where
  pub fits : written x ≡ true
  pub is : t ≡ tree x

-- the tree is that of none
pub record IsOfNone {X : Type 0} (tree : X → TextTree) (written : X → Bool)
    (t : TextTree) : Type 0 where
  pub never : (x : X) → written x ≡ true → t ≡ tree x → ⊥

-- what is read of a tree is so, and it is malformed only where it is of none
abbrev pub Reads : {X : Type 0} → (X → TextTree) → (X → Bool) → TextTree
    → Result X TextFault → Type 0
Reads tree written t result = Answers result (IsOf tree written t) (IsOfNone tree written t)

-- the trees are those of these, each written in the one spelling
pub record AreOf {X : Type 0} (tree : X → TextTree) (written : X → Bool)
    (ts : TextTrees) (xs : List X) : Type 0 where
  pub fit : list_all written xs ≡ true
  pub are : ts ≡ row_of (map tree xs)

-- the trees are those of none
pub record AreOfNone {X : Type 0} (tree : X → TextTree) (written : X → Bool)
    (ts : TextTrees) : Type 0 where
  pub never : (xs : List X) → list_all written xs ≡ true → ts ≡ row_of (map tree xs) → ⊥

-- what is read of trees is so, and they are malformed only where they are of none
abbrev pub ReadsAll : {X : Type 0} → (X → TextTree) → (X → Bool) → TextTrees
    → Result (List X) TextFault → Type 0
ReadsAll tree written ts result =
    Answers result (AreOf tree written ts) (AreOfNone tree written ts)
