-- What typing has of iterated premises: they name only variables of their own kind, and only those
-- that occur inside.
use Rattle.std.specs.Prelude.{◌≡◌, true, List, [], ◌∷◌, ◌++◌, Some, All}
use Rattle.st_num.specs.declared.dim.Kind.{Kind}
use Rattle.st_il.specs.declared.definition.ClauseDef.{ClauseDef}
use Rattle.st_il.specs.declared.definition.Il.{Il}
use Rattle.st_il.specs.declared.definition.Listed.{Listed}
use Rattle.st_il.specs.declared.definition.RuleDef.{RuleDef}
use Rattle.st_il.specs.declared.expression.IlExp.{IlExp}
use Rattle.st_il.specs.declared.expression.IlPrem.{IlPrem, out-IlPrem}
use Rattle.st_il.specs.declared.expression.IlPrem.TheOpen.{IlPrem-F}
use Rattle.st_il.specs.declared.expression.Iteration.{Iteration}
use Rattle.st_il.specs.Names.{Name, has_name, all_known, without}
use Rattle.st_il.specs.Definitions.{rules_in, clauses_in}
use Rattle.st_semantics.specs.Environments.{listed_as, listed_names}
use Rattle.st_semantics.specs.Iterations.{index_of, kind_of}
use Rattle.st_semantics.specs.Scopes.{listed_inside}
use Rattle.st_semantics.specs.Variables.{vars, prem_vars}
use Rattle.st_semantics.specs.ModeRules.{bound_in_clause}

-- the outermost kind is this one
abbrev pub BeginsWith : Kind → List Kind → Type 0
BeginsWith k [] = ⊥
BeginsWith k (d ∷ ds) = d ≡ k

-- the variables that an iteration names have its kind outermost
abbrev pub AreOfItsKind : Iteration → List Name → List Listed → Type 0
AreOfItsKind how xs ls =
    (x : Name) → has_name xs x ≡ true → (l : Listed) → listed_as x ls ≡ Some l
    → BeginsWith (kind_of how) l.dim

-- A premise names only variables of its own kind in each iteration.
pub data IsKinded : List Listed → IlPrem → Type 0 where
  condition : {ls : List Listed} {p : IlPrem} (e : IlExp) → out-IlPrem p ≡ IlPrem-F.If e
      → IsKinded ls p
  goal : {ls : List Listed} {p : IlPrem} (relation : Name) (es : List IlExp)
      → out-IlPrem p ≡ IlPrem-F.Goal relation es → IsKinded ls p
  otherwise : {ls : List Listed} {p : IlPrem} → out-IlPrem p ≡ IlPrem-F.Otherwise → IsKinded ls p
  each : {ls : List Listed} {p : IlPrem} (how : Iteration) (xs : List Name) (body : IlPrem)
      → out-IlPrem p ≡ IlPrem-F.Each how xs body → AreOfItsKind how xs ls
      → IsKinded (listed_inside how xs ls) body → IsKinded ls p

-- All premises of clauses name only variables of their own kind.
abbrev pub ClausesAreKinded : Il → Type 0
ClausesAreKinded il =
    All (λ (c : ClauseDef). All (IsKinded c.variables) c.premises) (clauses_in il.defs)

-- All premises of rules and clauses name only variables of their own kind.
pub record AreKinded (il : Il) : Type 0 where
  pub rules : All (λ (r : RuleDef). All (IsKinded r.variables) r.premises) (rules_in il.defs)
  pub clauses : ClausesAreKinded il

-- ---- names that occur

-- the variables that an iteration names occur in its inner premise, and are not its index
abbrev pub AreOfItsBody : Iteration → List Name → IlPrem → Type 0
AreOfItsBody how xs body = all_known (without (index_of how) (prem_vars body)) xs ≡ true

-- A premise names in each iteration only variables of its inner premise.
pub data NamesOccurring : IlPrem → Type 0 where
  condition : {p : IlPrem} (e : IlExp) → out-IlPrem p ≡ IlPrem-F.If e → NamesOccurring p
  goal : {p : IlPrem} (relation : Name) (es : List IlExp)
      → out-IlPrem p ≡ IlPrem-F.Goal relation es → NamesOccurring p
  otherwise : {p : IlPrem} → out-IlPrem p ≡ IlPrem-F.Otherwise → NamesOccurring p
  each : {p : IlPrem} (how : Iteration) (xs : List Name) (body : IlPrem)
      → out-IlPrem p ≡ IlPrem-F.Each how xs body → AreOfItsBody how xs body → NamesOccurring body
      → NamesOccurring p

-- All premises of clauses do.
abbrev pub ClausesNameOccurring : Il → Type 0
ClausesNameOccurring il =
    All (λ (c : ClauseDef). All NamesOccurring c.premises) (clauses_in il.defs)

-- All variables that a clause lists occur in it.
abbrev pub ListsOccurring : ClauseDef → Type 0
ListsOccurring c =
    all_known (bound_in_clause c c.premises ++ vars c.result) (listed_names c.variables) ≡ true
