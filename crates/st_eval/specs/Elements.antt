-- How an iterated premise is tried: its count, its elements one after another, and the lists or
-- options of what they bind.
use Rattle.std.specs.Prelude.{◌≡◌, ℕ, pos, true, false, List, [], ◌∷◌, ◌++◌, length, Some}
use Rattle.st_il.specs.declared.definition.Il.{Il}
use Rattle.st_il.specs.declared.definition.Listed.{Listed}
use Rattle.st_il.specs.declared.expression.IlExp.{IlExp, out-IlExp}
use Rattle.st_il.specs.declared.expression.IlExp.TheOpen.{IlExp-F}
use Rattle.st_il.specs.declared.expression.Iteration.{Iteration}
use Rattle.st_il.specs.declared.expression.IlPrem.{IlPrem, out-IlPrem}
use Rattle.st_il.specs.declared.expression.IlPrem.TheOpen.{IlPrem-F}
use Rattle.st_il.specs.declared.value.Env.{Env}
use Rattle.st_il.specs.declared.value.Value.{Value}
use Rattle.st_il.specs.declared.value.Value.TheVariants as value
use Rattle.st_semantics.specs.declared.outcome.Outcome.TheVariants.{Val, NoValue, Deep}
use Rattle.st_semantics.specs.declared.outcome.Outcomes.TheVariants.{Stopped}
use Rattle.st_il.specs.Names.{Name, has_name, all_known, among}
use Rattle.st_il.specs.Definitions.{syntaxes}
use Rattle.st_semantics.specs.Environments.{names_of, value_in, type_of, listed_as, listed_names, AgreeOn, IsTypedValue, IsSomeTyped}
use Rattle.st_semantics.specs.Iterations.{count_of, index_of, spread, Misfit, Over, gathered}
use Rattle.st_semantics.specs.Scopes.{listed_inside}
use Rattle.st_semantics.specs.Evaluation.{tasks, GivesAll}
use Rattle.st_semantics.specs.Variables.{prem_vars, cites}
use Rattle.st_semantics.specs.Holding.{HaveValues}
use Rattle.st_semantics.specs.Depth.{bound_count, ValuesAt}
use Rattle.st_semantics.specs.Calls.{CallAt}
use Rattle.st_semantics.specs.Executable.{Class, class_of}
use Rattle.st_semantics.specs.ModeRules.{has_one_open}
use Rattle.st_semantics.specs.Kinds.{AreOfItsKind, NamesOccurring}
use Rattle.st_eval.specs.Steps.{value_at, MeetsAt, HasOnly, HoldsWith, Fails}

-- What the rules M3, M4 and M7 and typing say of an iterated premise that is met with some variables
-- bound: it can be run where some of them are, it iterates listed variables of its own kind that
-- occur inside, and no variable that is its count.
pub record IsEach (il : Il) (bound : List Name) (ls : List Listed) (p : IlPrem) (how : Iteration)
    (xs : List Name) (body : IlPrem) : Type 0 where
  pub is : out-IlPrem p ≡ IlPrem-F.Each how xs body
  pub few : List Name
  pub within : all_known bound few ≡ true
  pub class : Class
  pub executable : class_of il few p ≡ Some class
  pub one_open : has_one_open (Some class) ≡ true
  pub names_occurring : NamesOccurring p
  pub without_goal : cites p ≡ false
  pub listed : all_known (listed_names ls) (bound ++ prem_vars p) ≡ true
  pub kinded : AreOfItsKind how xs ls
  pub apart : (e : IlExp) (c : Name) → count_of how ≡ e ∷ [] → out-IlExp e ≡ IlExp-F.Var c
      → has_name bound c ≡ false → has_name xs c ≡ false

-- The count has a value, if it is bound, and the iterated variables that are bound have these
-- elements.
pub record GoesOver (il : Il) (n : ℕ) (bound : List Name) (env : Env) (how : Iteration)
    (xs : List Name) (elements : List Env) : Type 0 where
  pub count : List Value
  pub counted : HaveValues (value_at il n) (tasks env (bound_count bound how)) count
  pub over : spread how (among bound xs) env count ≡ Over elements

-- at each of these elements the premise holds under the environment in its position
abbrev pub AllHoldWith : Il → ℕ → List Name → List Listed → IlPrem → List Env → List Env → Type 0
AllHoldWith il n bound ls p [] [] = Unit {0}
AllHoldWith il n bound ls p [] (more ∷ rest) = ⊥
AllHoldWith il n bound ls p (env ∷ envs) [] = ⊥
AllHoldWith il n bound ls p (env ∷ envs) (more ∷ rest) =
    HoldsWith il n bound ls env p more × AllHoldWith il n bound ls p envs rest

-- An environment with the lists or options of what the elements bind, and with their number for a
-- count that is not bound.
pub record Gathers (bound : List Name) (env : Env) (how : Iteration) (xs : List Name)
    (found : List Env) (more : Env) : Type 0 where
  pub agrees : AgreeOn bound env more
  pub lists : (x : Name) → has_name bound x ≡ false → has_name xs x ≡ true
      → (v : Value) × (vs : List Value) × ValuesAt x found vs × (gathered how vs ≡ Val v)
      × (value_in more x ≡ Some v)
  pub number : (e : IlExp) (c : Name) → count_of how ≡ e ∷ [] → out-IlExp e ≡ IlExp-F.Var c
      → has_name bound c ≡ false → value_in more c ≡ Some (value.Num (pos (length found)))

-- a count that is bound and has no value, or lists that do not fit
abbrev pub LawOfCounts : Il → Type 0
LawOfCounts il =
    (n : ℕ) (bound : List Name) (ls : List Listed) (env : Env) (p : IlPrem) (how : Iteration)
    (xs : List Name) (body : IlPrem) → IsEach il bound ls p how xs body
    → (GivesAll (syntaxes il) (CallAt il n) (tasks env (bound_count bound how)) (Stopped Deep)
    → MeetsAt il n bound ls env p)
    × (GivesAll (syntaxes il) (CallAt il n) (tasks env (bound_count bound how)) (Stopped NoValue)
    → Fails il n bound ls env p)
    × ((count : List Value) → HaveValues (value_at il n) (tasks env (bound_count bound how)) count
    → spread how (among bound xs) env count ≡ Misfit → Fails il n bound ls env p)

-- An element at which the inner premise fails or meets Deep, behind those at which it holds.
abbrev pub LawOfElements : Il → Type 0
LawOfElements il =
    (n : ℕ) (bound : List Name) (ls : List Listed) (env : Env) (p : IlPrem) (how : Iteration)
    (xs : List Name) (body : IlPrem) → IsEach il bound ls p how xs body
    → (before : List Env) (at : Env) (after found : List Env)
    → GoesOver il n bound env how xs (before ++ at ∷ after)
    → AllHoldWith il n (index_of how ++ bound) (listed_inside how xs ls) body before found
    → (Fails il n (index_of how ++ bound) (listed_inside how xs ls) at body
    → Fails il n bound ls env p)
    × (MeetsAt il n (index_of how ++ bound) (listed_inside how xs ls) at body
    → MeetsAt il n bound ls env p)

-- Where the inner premise holds at all elements: what it binds is gathered, or is too high.
abbrev pub LawOfGathering : Il → Type 0
LawOfGathering il =
    (n : ℕ) (bound : List Name) (ls : List Listed) (env : Env) (p : IlPrem) (how : Iteration)
    (xs : List Name) (body : IlPrem) → IsEach il bound ls p how xs body
    → (elements found : List Env) → GoesOver il n bound env how xs elements
    → AllHoldWith il n (index_of how ++ bound) (listed_inside how xs ls) body elements found
    → ((more : Env) → Gathers bound env how xs found more
    → HasOnly il ls (bound ++ prem_vars p) more → HoldsWith il n bound ls env p more)
    × ((x : Name) (vs : List Value) → has_name bound x ≡ false → has_name xs x ≡ true
    → ValuesAt x found vs → gathered how vs ≡ Deep → MeetsAt il n bound ls env p)

-- What is gathered of a variable has the type that is listed outside.
abbrev pub LawOfLists : Il → Type 0
LawOfLists il =
    (n : ℕ) (bound : List Name) (ls : List Listed) (env : Env) (p : IlPrem) (how : Iteration)
    (xs : List Name) (body : IlPrem) → IsEach il bound ls p how xs body
    → (elements found : List Env)
    → AllHoldWith il n (index_of how ++ bound) (listed_inside how xs ls) body elements found
    → (x : Name) (l : Listed) → has_name xs x ≡ true → listed_as x ls ≡ Some l
    → (vs : List Value) (v : Value) → ValuesAt x found vs → gathered how vs ≡ Val v
    → IsTypedValue (syntaxes il) (type_of l) v

-- An environment of what is gathered, with no other names, has each variable with a value of its
-- type, where an unbound count has its.
abbrev pub LawOfGathered : Il → Type 0
LawOfGathered il =
    (n : ℕ) (bound : List Name) (ls : List Listed) (env : Env) (p : IlPrem) (how : Iteration)
    (xs : List Name) (body : IlPrem) → IsEach il bound ls p how xs body
    → (elements found : List Env)
    → AllHoldWith il n (index_of how ++ bound) (listed_inside how xs ls) body elements found
    → HasOnly il ls bound env → (more : Env) → Gathers bound env how xs found more
    → ((x : Name) → has_name (names_of more) x ≡ has_name (bound ++ prem_vars p) x)
    → ((e : IlExp) (x : Name) → count_of how ≡ e ∷ [] → out-IlExp e ≡ IlExp-F.Var x
    → has_name bound x ≡ false → (l : Listed) → listed_as x ls ≡ Some l
    → IsSomeTyped (syntaxes il) (type_of l) (value_in more x))
    → HasOnly il ls (bound ++ prem_vars p) more
