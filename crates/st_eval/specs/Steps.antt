-- How a clause is tried: from the values of its arguments on, premise by premise. `n` is how many
-- calls may be open at once below it.
use Rattle.std.specs.Prelude.{◌≡◌, ℕ, true, false, List, [], ◌∷◌, ◌++◌, ◌⊎◌, Some, All}
use Rattle.st_num.specs.declared.rule.RuleId.TheVariants.{M3, M4, M6}
use Rattle.st_il.specs.declared.definition.ClauseDef.{ClauseDef}
use Rattle.st_il.specs.declared.definition.Il.{Il}
use Rattle.st_il.specs.declared.definition.Listed.{Listed}
use Rattle.st_il.specs.declared.expression.IlExp.{IlExp, out-IlExp}
use Rattle.st_il.specs.declared.expression.IlExp.TheOpen.{IlExp-F}
use Rattle.st_il.specs.declared.expression.IlPrem.{IlPrem, out-IlPrem}
use Rattle.st_il.specs.declared.expression.IlPrem.TheOpen.{IlPrem-F}
use Rattle.st_il.specs.declared.value.Env.{Env}
use Rattle.st_il.specs.declared.value.Value.{Value}
use Rattle.st_il.specs.declared.value.Value.TheVariants as value
use Rattle.st_semantics.specs.declared.outcome.Outcome.{Outcome}
use Rattle.st_semantics.specs.declared.outcome.Outcome.TheVariants.{Val, NoValue, Deep}
use Rattle.st_il.specs.Names.{Name, has_name, all_known, without}
use Rattle.st_il.specs.Definitions.{syntaxes}
use Rattle.st_semantics.specs.Environments.{names_of, listed_as, listed_names, AgreeOn, TypedIn}
use Rattle.st_semantics.specs.Evaluation.{tasks}
use Rattle.st_semantics.specs.Variables.{vars, vars_of, prem_vars}
use Rattle.st_semantics.specs.Patterns.{is_pattern}
use Rattle.st_semantics.specs.Matching.{IsMatch}
use Rattle.st_semantics.specs.Holding.{Meaning, value_by, HaveValues, instances, Holds, HoldAll}
use Rattle.st_semantics.specs.Depth.{Meets}
use Rattle.st_semantics.specs.Calls.{no_goal, in_clause, Chosen, TooDeep, CallAt, ValueAt}
use Rattle.st_semantics.specs.ModeRules.{bound_in_clause, keeps_m7}
use Rattle.st_semantics.specs.Breaches.{ClauseKeeps}
use Rattle.st_semantics.specs.Kinds.{NamesOccurring, ListsOccurring}

-- What the rules M3, M4, M6 and M7 and typing say of a clause: its premises can be run at their
-- positions, and it lists exactly the variables that occur, each once.
pub record IsRunnable (il : Il) (c : ClauseDef) : Type 0 where
  pub modes : ClauseKeeps il (M3 ∷ M4 ∷ M6 ∷ []) c
  pub without_goals : keeps_m7 c ≡ true
  pub names_occurring : All NamesOccurring c.premises
  pub listed : all_known (listed_names c.variables) (bound_in_clause c c.premises) ≡ true
  pub occurring : ListsOccurring c
  pub once : All (λ (l : Listed). listed_as l.name c.variables ≡ Some l) c.variables

-- when an expression has a value
abbrev pub value_at : Il → ℕ → Meaning
value_at il n = value_by (syntaxes il) (CallAt il n)

-- a premise of a clause holds
abbrev pub HoldsAt : Il → ℕ → Env → IlPrem → Type 0
HoldsAt il n env p = Holds (value_at il n) (Unit {0}) no_goal env p

-- premises of a clause hold
abbrev pub AllHoldAt : Il → ℕ → Env → List IlPrem → Type 0
AllHoldAt il n env ps = HoldAll (value_at il n) (Unit {0}) no_goal (instances env ps)

-- a premise of a clause that is met with some variables bound meets Deep
abbrev pub MeetsAt : Il → ℕ → List Name → List Listed → Env → IlPrem → Type 0
MeetsAt il n bound ls env p = Meets (in_clause il (CallAt il n)) bound ls env p

-- An environment has these variables and no others, each that is listed with a value of its type.
-- It may stand in any order.
pub record HasOnly (il : Il) (ls : List Listed) (names : List Name) (env : Env) : Type 0 where
  pub names_are : (x : Name) → has_name (names_of env) x ≡ has_name names x
  pub typed : TypedIn (syntaxes il) ls names env

-- Under an environment of what is bound there, a clause is met up to a position among its premises: its
-- arguments have the values, and the premises before hold.
pub record IsMetUpTo (il : Il) (n : ℕ) (c : ClauseDef) (vs : List Value) (before : List IlPrem)
    (env : Env) : Type 0 where
  pub variables : HasOnly il c.variables (bound_in_clause c before) env
  pub arguments : HaveValues (value_at il n) (tasks env c.args) vs
  pub hold : AllHoldAt il n env before

-- A premise that is met with some variables bound holds under an environment that has the others
-- too.
pub record HoldsWith (il : Il) (n : ℕ) (bound : List Name) (ls : List Listed) (env : Env)
    (p : IlPrem) (more : Env) : Type 0 where
  pub agrees : AgreeOn bound env more
  pub variables : HasOnly il ls (bound ++ prem_vars p) more
  pub holds : HoldsAt il n more p

-- A premise that is met with some variables bound holds with no values of the others, and does not
-- meet Deep.
pub record Fails (il : Il) (n : ℕ) (bound : List Name) (ls : List Listed) (env : Env) (p : IlPrem)
    : Type 0 where
  pub never : (more : Env) → AgreeOn bound env more
      → TypedIn (syntaxes il) ls (without bound (prem_vars p)) more → HoldsAt il n more p → ⊥
  pub not_deep : MeetsAt il n bound ls env p → ⊥

-- the clause does not decide the call
abbrev pub IsPassedOver : Il → ℕ → ClauseDef → List Value → Type 0
IsPassedOver il n c vs =
    ((env : Env) → Chosen il (CallAt il n) c vs env → ⊥) × (TooDeep il (CallAt il n) c vs → ⊥)

-- ---- laws of clauses, where calls come to one outcome at most

-- a clause whose arguments have the values under no environment is passed over
abbrev pub LawOfArguments : Il → Type 0
LawOfArguments il =
    (n : ℕ) (c : ClauseDef) (vs : List Value)
    → ((env : Env) → TypedIn (syntaxes il) c.variables (vars_of c.args) env
    → HaveValues (value_at il n) (tasks env c.args) vs → ⊥)
    → IsPassedOver il n c vs

-- a premise that holds leads to the next
abbrev pub LawOfNext : Il → Type 0
LawOfNext il =
    (n : ℕ) (c : ClauseDef) (vs : List Value) (before : List IlPrem) (p : IlPrem) (env more : Env)
    → IsMetUpTo il n c vs before env
    → HoldsWith il n (bound_in_clause c before) c.variables env p more
    → IsMetUpTo il n c vs (before ++ p ∷ []) more

-- a premise that fails lets the clause be passed over
abbrev pub LawOfFailure : Il → Type 0
LawOfFailure il =
    (n : ℕ) (c : ClauseDef) → IsRunnable il c → (vs : List Value) (before : List IlPrem)
    (p : IlPrem) (after : List IlPrem) (env : Env) → c.premises ≡ before ++ p ∷ after
    → IsMetUpTo il n c vs before env → Fails il n (bound_in_clause c before) c.variables env p
    → IsPassedOver il n c vs

-- a premise that meets Deep makes the clause do so
abbrev pub LawOfDeepness : Il → Type 0
LawOfDeepness il =
    (n : ℕ) (c : ClauseDef) → IsRunnable il c → (vs : List Value) (before : List IlPrem)
    (p : IlPrem) (after : List IlPrem) (env : Env) → c.premises ≡ before ++ p ∷ after
    → IsMetUpTo il n c vs before env → MeetsAt il n (bound_in_clause c before) c.variables env p
    → TooDeep il (CallAt il n) c vs

-- a clause is chosen behind its last premise, and its result is the same in whatever order the
-- environment stands
abbrev pub LawOfResults : Il → Type 0
LawOfResults il =
    (n : ℕ) (c : ClauseDef) → IsRunnable il c → (vs : List Value) (env : Env) (o : Outcome)
    → IsMetUpTo il n c vs c.premises env → ValueAt il n env c.result o
    → (chosen : Env) × Chosen il (CallAt il n) c vs chosen × ValueAt il n chosen c.result o

-- ---- laws of premises

-- a condition all of whose variables are bound
abbrev pub LawOfTests : Il → Type 0
LawOfTests il =
    (n : ℕ) (bound : List Name) (ls : List Listed) (env : Env) (p : IlPrem) (e : IlExp)
    (o : Outcome) → out-IlPrem p ≡ IlPrem-F.If e → all_known bound (vars e) ≡ true
    → ValueAt il n env e o
    → (o ≡ Val (value.Bool true) → HasOnly il ls bound env → HoldsWith il n bound ls env p env)
    × (o ≡ Deep → MeetsAt il n bound ls env p)
    × ((o ≡ Val (value.Bool true) → ⊥) → (o ≡ Deep → ⊥) → Fails il n bound ls env p)

-- An equation with one side whose variables are all bound, the left one if both are such, and another
-- side that is not.
abbrev pub AreSides : List Name → IlExp → IlExp → IlExp → Type 0
AreSides bound e side pattern =
    ((out-IlExp e ≡ IlExp-F.Eq side pattern) ⊎ (out-IlExp e ≡ IlExp-F.Eq pattern side))
    × (all_known bound (vars side) ≡ true) × (all_known bound (vars pattern) ≡ false)

-- an equation whose bound side has a value
abbrev pub LawOfEquations : Il → Type 0
LawOfEquations il =
    (n : ℕ) (bound : List Name) (ls : List Listed) (env : Env) (p : IlPrem)
    (e side pattern : IlExp) (v : Value) → out-IlPrem p ≡ IlPrem-F.If e
    → AreSides bound e side pattern → is_pattern pattern ≡ true
    → all_known (listed_names ls) (prem_vars p) ≡ true → HasOnly il ls bound env
    → ValueAt il n env side (Val v)
    → ((more : Env) → IsMatch (syntaxes il) ls pattern v env more
    → HoldsWith il n bound ls env p more)
    × (((more : Env) → IsMatch (syntaxes il) ls pattern v env more → ⊥)
    → Fails il n bound ls env p)

-- an equation whose bound side has none
abbrev pub LawOfSides : Il → Type 0
LawOfSides il =
    (n : ℕ) (bound : List Name) (ls : List Listed) (env : Env) (p : IlPrem)
    (e side pattern : IlExp) → out-IlPrem p ≡ IlPrem-F.If e → AreSides bound e side pattern
    → (ValueAt il n env side Deep → MeetsAt il n bound ls env p)
    × (ValueAt il n env side NoValue → Fails il n bound ls env p)
