-- Lists of environments that cover all that give a pattern a value.
use Rattle.std.specs.Prelude.{◌≡◌, ◌≤◌, ◌⊎◌, ℕ, Bool, true, false, ◌||◌, List, [], ◌∷◌, map, length, Some}
use Rattle.std.specs.List.{list_all}
use Rattle.st_il.specs.declared.definition.SyntaxDef.{SyntaxDef}
use Rattle.st_il.specs.declared.expression.IlExp.{IlExp}
use Rattle.st_il.specs.declared.expression.IlExp.TheVariants as exp
use Rattle.st_il.specs.declared.expression.Iteration.{Iteration}
use Rattle.st_il.specs.declared.expression.ListItem.{ListItem}
use Rattle.st_il.specs.declared.value.Env.{Env}
use Rattle.st_il.specs.declared.value.Value.{Value}
use Rattle.st_il.specs.Names.{Name, flattened, has_name}
use Rattle.st_semantics.specs.Environments.{value_in}
use Rattle.st_semantics.specs.Operands.{item_exp}
use Rattle.st_semantics.specs.Iterations.{count_of, index_of}
use Rattle.st_semantics.specs.Patterns.{is_pattern, binds}
use Rattle.st_match.specs.inner.Fitting.{Fits, FitAll, FitItems, FitSplit, FitCut, FitCount, HasValue, IsElementCount}

-- ---- sets of names

-- a set of names
abbrev pub Names : Type 0
Names = Name → Bool

-- the names of either set
abbrev pub joined : Names → Names → Names
joined a b x = a x || b x

-- the names that a pattern binds
abbrev pub bound : IlExp → Names
bound p = has_name (binds p)

-- the names that several patterns bind
abbrev pub all_bound : List IlExp → Names
all_bound ps = has_name (flattened (map binds ps))

-- ---- what covers

-- the environment without variables
abbrev pub blank : Env
blank = record { entries = [] }

-- a variable has a value
abbrev pub IsKnown : Env → Name → Type 0
IsKnown e x = (v : Value) × (value_in e x ≡ Some v)

-- an environment gives no other values than another one, and gives values to at least these names
pub record Stands (s : Env) (names : Names) (e : Env) : Type 0 where
  pub below : (x : Name) (v : Value) → value_in e x ≡ Some v → value_in s x ≡ Some v
  pub has : (x : Name) → names x ≡ true → IsKnown e x

-- a fact holds of one of these
abbrev pub OneOf : {A : Type 0} → (A → Type 0) → List A → Type 0
OneOf P [] = ⊥
OneOf P (a ∷ more) = P a ⊎ OneOf P more

-- Wherever F holds of an environment that extends one of the first, it extends one of the second,
-- which has the new names too.
pub record Covers (F : Env → Type 0) (new : Names) (before after : List Env) : Type 0 where
  pub covers : (s : Env) (names : Names) → F s → OneOf (Stands s names) before
      → OneOf (Stands s (joined names new)) after

-- ---- candidates, whichever the syntaxes

-- the second cover all that extend the first and give the pattern this value
pub record AreCandidates (p : IlExp) (v : Value) (before after : List Env) : Type 0 where
  pub cover : (defs : List SyntaxDef) → is_pattern p ≡ true
      → Covers (Fits defs p v) (bound p) before after

-- they cover all that give the patterns these values
pub record AreCandidatesOfAll (ps : List IlExp) (vs : List Value) (before after : List Env)
    : Type 0 where
  pub cover : (defs : List SyntaxDef) → list_all is_pattern ps ≡ true
      → Covers (FitAll defs ps vs) (all_bound ps) before after

-- they cover all under which the parts make these elements
pub record AreCandidatesOfItems (items : List ListItem) (vs : List Value) (before after : List Env)
    : Type 0 where
  pub cover : (defs : List SyntaxDef) → list_all is_pattern (map item_exp items) ≡ true
      → Covers (FitItems defs items vs) (all_bound (map item_exp items)) before after

-- they cover all that split the elements at n
pub record AreCandidatesOfSplit (p : IlExp) (items : List ListItem) (vs : List Value) (n : ℕ)
    (before after : List Env) : Type 0 where
  pub cover : (defs : List SyntaxDef)
      → list_all is_pattern (p ∷ map item_exp items) ≡ true
      → Covers (FitSplit defs p items vs n) (all_bound (p ∷ map item_exp items)) before after

-- they cover all that cut the elements at n
pub record AreCandidatesOfCut (p q : IlExp) (vs : List Value) (n : ℕ) (before after : List Env)
    : Type 0 where
  pub cover : (defs : List SyntaxDef) → is_pattern p ≡ true → is_pattern q ≡ true
      → Covers (FitCut defs p q vs n) (joined (bound p) (bound q)) before after

-- they cover all under which the count is n
pub record AreCandidatesOfCount (how : Iteration) (n : ℕ) (before after : List Env)
    : Type 0 where
  pub cover : (defs : List SyntaxDef) → list_all is_pattern (count_of how) ≡ true
      → Covers (FitCount defs how n) (all_bound (count_of how)) before after

-- they are candidates of an iteration, where its count is met already
pub record AreCandidatesOfElements (how : Iteration) (xs : List Name) (body : IlExp) (v : Value)
    (before after : List Env) : Type 0 where
  pub are : (es : List Env) (n : ℕ) → IsElementCount v n → AreCandidatesOfCount how n es before
      → AreCandidates (exp.Iter how xs body) v es after

-- a pattern has no other value than this variable
pub record IsVariable (p : IlExp) (x : Name) : Type 0 where
  pub value : (defs : List SyntaxDef) (s : Env) (v : Value) → Fits defs p v s → HasValue x v s

-- an iteration goes over this variable alone, and its body is the variable by itself
pub record IsColumn (how : Iteration) (xs : List Name) (body : IlExp) (x : Name) : Type 0 where
  pub names : xs ≡ x ∷ []
  pub variable : IsVariable body x
  pub apart : has_name (index_of how) x ≡ false

-- they are candidates of each of these patterns, which differ in a type alone
pub record AreCandidatesOfEach {T : Type 0} (patterns : T → IlExp) (v : Value)
    (before after : List Env) : Type 0 where
  pub are : (type : T) → AreCandidates (patterns type) v before after

-- they cover all that cut the elements anywhere
pub record AreCandidatesOfCuts (p q : IlExp) (vs : List Value) (before after : List Env)
    : Type 0 where
  pub are : (n : ℕ) → n ≤ length vs → AreCandidatesOfCut p q vs n before after

-- a fact of the two sides, where the pattern is `++` of them
abbrev pub IfCat : IlExp → (IlExp → IlExp → Type 0) → Type 0
IfCat p P = (left right : IlExp) → p ≡ exp.Cat left right → P left right
