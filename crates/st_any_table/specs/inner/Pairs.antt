-- Pairs of types, and what is asked of each: whether the types are equal, or the first is below the
-- second. What is asked of one pair is so exactly where it is so of certain others.
use Rattle.std.specs.Prelude.{◌≡◌, ◌⊎◌, ℕ, List, [], ◌∷◌, ◌++◌, length, slice_get, Option, Some, None}
use Rattle.st_il.specs.declared.ty.Ty.{Ty}
use Rattle.st_il.specs.declared.ty.Ty.TheOpen.{Ty-F}
use Rattle.st_il.specs.declared.ty.Ty.TheVariants as ty
use Rattle.st_il.specs.declared.definition.SyntaxDef.{SyntaxDef}
use Rattle.st_type_table.specs.Meaning.{Means}
use Rattle.st_type_table.specs.Same.{Same, SameAll}
use Rattle.st_type_table.specs.Sub.{Sub, StandsIn, IsContained}
use Rattle.st_type_table.specs.declared.entry.CaseDef.{CaseDef}
use Rattle.st_type_table.specs.inner.Graph.{Graph}
use Rattle.st_any_table.specs.inner.Flats.{IsCase}

-- pairs of types
abbrev pub Pairs : Type 0
Pairs = List (Ty × Ty)

-- pairs were put behind those before
abbrev pub Grows : Pairs → Pairs → Type 0
Grows before after = (more : Pairs) × (after ≡ before ++ more)

-- these are the numbers of the pairs of these types, one by one
pub data AreNumbered (pairs : Pairs) : List ℕ → List Ty → List Ty → Type 0 where
  none : AreNumbered pairs [] [] []
  more : {k : ℕ} {ks : List ℕ} {x y : Ty} {xs ys : List Ty} → slice_get pairs k ≡ Some (x, y)
      → AreNumbered pairs ks xs ys → AreNumbered pairs (k ∷ ks) (x ∷ xs) (y ∷ ys)

-- no meaning is one of both types
abbrev pub AreApart : List SyntaxDef → Ty → Ty → Type 0
AreApart defs a b = (t : Ty) → Means defs a t → Means defs b t → ⊥

-- What a pair waits for before its types are equal: for nothing, for the pairs of their parts, or
-- in vain.
pub data EqualWaits (defs : List SyntaxDef) (pairs : Pairs) (a b : Ty) : Option (List ℕ) → Type 0 where
  equal : {node : Option (List ℕ)} (t : Ty) → Means defs a t → Means defs b t → node ≡ Some []
      → EqualWaits defs pairs a b node
  list : {node : Option (List ℕ)} (k : ℕ) (x y : Ty) → Means defs a (ty.List x)
      → Means defs b (ty.List y) → AreApart defs a b → slice_get pairs k ≡ Some (x, y)
      → node ≡ Some (k ∷ []) → EqualWaits defs pairs a b node
  option : {node : Option (List ℕ)} (k : ℕ) (x y : Ty) → Means defs a (ty.Opt x)
      → Means defs b (ty.Opt y) → AreApart defs a b → slice_get pairs k ≡ Some (x, y)
      → node ≡ Some (k ∷ []) → EqualWaits defs pairs a b node
  tuple : {node : Option (List ℕ)} (ks : List ℕ) (xs ys : List Ty) → Means defs a (ty.Tuple xs)
      → Means defs b (ty.Tuple ys) → AreApart defs a b → AreNumbered pairs ks xs ys
      → node ≡ Some ks → EqualWaits defs pairs a b node
  never : {node : Option (List ℕ)} → (Same defs a b → ⊥) → node ≡ None
      → EqualWaits defs pairs a b node

-- What a pair waits for before the first type is below the second.
pub data BelowWaits (defs : List SyntaxDef) (pairs : Pairs) (a b : Ty) : Option (List ℕ) → Type 0 where
  holds : {node : Option (List ℕ)} → Sub defs a b → node ≡ Some [] → BelowWaits defs pairs a b node
  list : {node : Option (List ℕ)} (k : ℕ) (x y : Ty) → Means defs a (ty.List x)
      → Means defs b (ty.List y) → (Same defs a b → ⊥) → slice_get pairs k ≡ Some (x, y)
      → node ≡ Some (k ∷ []) → BelowWaits defs pairs a b node
  option : {node : Option (List ℕ)} (k : ℕ) (x y : Ty) → Means defs a (ty.Opt x)
      → Means defs b (ty.Opt y) → (Same defs a b → ⊥) → slice_get pairs k ≡ Some (x, y)
      → node ≡ Some (k ∷ []) → BelowWaits defs pairs a b node
  never : {node : Option (List ℕ)} → (Sub defs a b → ⊥) → node ≡ None
      → BelowWaits defs pairs a b node

-- Of each pair that has a node, the node says what it waits for. The first pair is the one that is
-- asked.
pub record IsExplored (W : Pairs → Ty → Ty → Option (List ℕ) → Type 0) (a b : Ty) (pairs : Pairs)
    (graph : Graph) : Type 0 where
  pub first : slice_get pairs 0 ≡ Some (a, b)
  pub waits : (k : ℕ) (p : Ty × Ty) (node : Option (List ℕ)) → slice_get pairs k ≡ Some p
      → slice_get graph k ≡ Some node → W pairs p.0 p.1 node

-- ---- by levels, as the code compares them

-- the parts of the two meanings are equal, one by one
abbrev pub PartsSame : List SyntaxDef → Ty-F Ty → Ty-F Ty → Type 0
PartsSame defs (Ty-F.List x) (Ty-F.List y) = Same defs x y
PartsSame defs (Ty-F.Opt x) (Ty-F.Opt y) = Same defs x y
PartsSame defs (Ty-F.Tuple xs) (Ty-F.Tuple ys) = SameAll defs xs ys
PartsSame defs _ _ = ⊥

-- the node is the number of this pair
abbrev pub IsOneNode : Pairs → Ty → Ty → Option (List ℕ) → Type 0
IsOneNode pairs x y node = (k : ℕ) × ((slice_get pairs k ≡ Some (x, y)) × (node ≡ Some (k ∷ [])))

-- what tuples of these parts wait for before they are equal
abbrev pub TupleWaits : Pairs → List Ty → List Ty → Option (List ℕ) → Type 0
TupleWaits pairs xs ys node = ((ks : List ℕ) × (AreNumbered pairs ks xs ys × (node ≡ Some ks)))
    ⊎ ((length xs ≡ length ys → ⊥) × (node ≡ None))

-- what two meanings that are not one wait for before they are equal
abbrev pub PartsWait : Pairs → Ty-F Ty → Ty-F Ty → Option (List ℕ) → Type 0
PartsWait pairs (Ty-F.List x) (Ty-F.List y) node = IsOneNode pairs x y node
PartsWait pairs (Ty-F.Opt x) (Ty-F.Opt y) node = IsOneNode pairs x y node
PartsWait pairs (Ty-F.Tuple xs) (Ty-F.Tuple ys) node = TupleWaits pairs xs ys node
PartsWait pairs _ _ node = node ≡ None

-- what two meanings wait for before the first is below the second by its elements
abbrev pub ElementsWait : Pairs → Ty-F Ty → Ty-F Ty → Option (List ℕ) → Type 0
ElementsWait pairs (Ty-F.List x) (Ty-F.List y) node = IsOneNode pairs x y node
ElementsWait pairs (Ty-F.Opt x) (Ty-F.Opt y) node = IsOneNode pairs x y node
ElementsWait pairs _ _ node = node ≡ None

-- the first type is below the second, and not by elements
abbrev pub BelowHere : List SyntaxDef → Ty → Ty → Type 0
BelowHere defs a b =
    Same defs a b ⊎ ((Means defs a ty.Nat × Means defs b ty.Int) ⊎ IsContained defs a b)

-- the first is the natural numbers and the second the integers
abbrev pub AreNumbers : {X : Type 0} → Ty-F X → Ty-F X → Type 0
AreNumbers Ty-F.Nat Ty-F.Int = Unit {0}
AreNumbers _ _ = ⊥

-- each of these cases stands among the others
abbrev pub EachStandsIn : List SyntaxDef → List CaseDef → List CaseDef → Type 0
EachStandsIn defs cs others = (c : CaseDef) → IsCase cs c → StandsIn defs c others
