-- Which types expressions have.
use Rattle.std.specs.Prelude.{◌≡◌, List, [], ◌∷◌, All, Option, Some, find, map, bytes_eq}
use Rattle.st_il.specs.declared.definition.ClauseDef.{ClauseDef}
use Rattle.st_il.specs.declared.definition.FunDef.{FunDef}
use Rattle.st_il.specs.declared.definition.Il.{Il}
use Rattle.st_il.specs.declared.definition.Listed.{Listed}
use Rattle.st_il.specs.declared.definition.RelationDef.{RelationDef}
use Rattle.st_il.specs.declared.definition.RuleDef.{RuleDef}
use Rattle.st_il.specs.declared.expression.IlExp.{IlExp, out-IlExp}
use Rattle.st_il.specs.declared.expression.Iteration.{Iteration}
use Rattle.st_il.specs.declared.ty.Ty.{Ty}
use Rattle.st_il.specs.declared.ty.Ty.TheVariants as ty
use Rattle.st_type_table.specs.Same.{Same}
use Rattle.st_il.specs.Names.{Name}
use Rattle.st_il.specs.Definitions.{syntaxes, relation_named, funs_in, clauses_in, rules_in}
use Rattle.st_semantics.specs.Environments.{wrapped, type_of, listed_as}
use Rattle.st_semantics.specs.Parts.{Operation}
use Rattle.st_semantics.specs.Forms.{HasForm, Strict, Variable, Calls, Iterates}
use Rattle.st_semantics.specs.Iterations.{count_of, kind_of}
use Rattle.st_semantics.specs.Scopes.{listed_inside}
use Rattle.st_semantics.specs.Kinds.{AreOfItsKind}
use Rattle.st_semantics.specs.OperationTypes.{OperationType}

-- the function of a name
abbrev pub function_named : Il → Name → Option FunDef
function_named il fun = find (λ (f : FunDef). bytes_eq fun f.name) (funs_in il.defs)

mutual
  -- An expression has a type where these variables are listed: a variable the type that it is
  -- listed with, a call that of its function, an iteration the list or option of what its body has,
  -- every other expression that of its operation; and each has the types that are equal to one it
  -- has.
  pub data ExpHasType (il : Il) : List Listed → IlExp → Ty → Type 0 where
    strict : {ls : List Listed} {e : IlExp} {t : Ty} (es : List IlExp) (f : Operation)
        (ts : List Ty) → HasForm (syntaxes il) e (Strict es f) → ExpsHaveTypes il ls es ts
        → OperationType (syntaxes il) (out-IlExp e) ts t → ExpHasType il ls e t
    same : {ls : List Listed} {e : IlExp} {t : Ty} (u : Ty) → ExpHasType il ls e u
        → Same (syntaxes il) u t → ExpHasType il ls e t
    variable : {ls : List Listed} {e : IlExp} {t : Ty} (x : Name) (l : Listed)
        → HasForm (syntaxes il) e (Variable x) → listed_as x ls ≡ Some l → t ≡ type_of l
        → ExpHasType il ls e t
    call : {ls : List Listed} {e : IlExp} {t : Ty} (fun : Name) (args : List IlExp)
        (declared : FunDef) → HasForm (syntaxes il) e (Calls fun args)
        → function_named il fun ≡ Some declared → ExpsHaveTypes il ls args declared.params
        → t ≡ declared.result → ExpHasType il ls e t
    iteration : {ls : List Listed} {e : IlExp} {t : Ty} (how : Iteration) (xs : List Name)
        (body : IlExp) (u : Ty) → HasForm (syntaxes il) e (Iterates how xs body)
        → ExpsHaveTypes il ls (count_of how) (map (λ (e : IlExp). ty.Nat) (count_of how))
        → AreOfItsKind how xs ls → ExpHasType il (listed_inside how xs ls) body u
        → t ≡ wrapped (kind_of how ∷ []) u → ExpHasType il ls e t

  -- each of some expressions has the type in its place
  pub data ExpsHaveTypes (il : Il) : List Listed → List IlExp → List Ty → Type 0 where
    none : {ls : List Listed} → ExpsHaveTypes il ls [] []
    more : {ls : List Listed} {e : IlExp} {es : List IlExp} {t : Ty} {ts : List Ty}
        → ExpHasType il ls e t → ExpsHaveTypes il ls es ts → ExpsHaveTypes il ls (e ∷ es) (t ∷ ts)

-- the result of each clause has the type that is declared of its function
abbrev pub ResultsAreTyped : Il → Type 0
ResultsAreTyped il =
    All (λ (c : ClauseDef). (declared : FunDef) → function_named il c.fun ≡ Some declared
    → ExpHasType il c.variables c.result declared.result) (clauses_in il.defs)

-- the holes of the conclusion of each rule have the types of its relation
abbrev pub ConclusionsAreTyped : Il → Type 0
ConclusionsAreTyped il =
    All (λ (r : RuleDef). (declared : RelationDef) → relation_named il r.relation ≡ Some declared
    → ExpsHaveTypes il r.variables r.conclusion declared.holes) (rules_in il.defs)
