-- When each variable of an expression has no dimension left where it stands.
use Rattle.std.specs.Prelude.{◌≡◌, List, [], ◌∷◌, Some, IsTrue}
use Rattle.st_il.specs.declared.definition.Listed.{Listed}
use Rattle.st_il.specs.declared.expression.IlExp.{IlExp, out-IlExp}
use Rattle.st_il.specs.declared.expression.IlExp.TheOpen.{IlExp-F}
use Rattle.st_semantics.specs.Environments.{listed_as}
use Rattle.st_semantics.specs.OperationTypes.{Level}
use Rattle.st_ilcheck.specs.Naming.{names_kept}
use Rattle.st_ilcheck.specs.Parts.{Part, parts_of}

-- a variable is listed, with no dimension left
abbrev pub IsReached : List Listed → Level → Type 0
IsReached ls (IlExp-F.Var x) = (l : Listed) × (listed_as x ls ≡ Some l) × (l.dim ≡ [])
IsReached ls _ = Unit {0}

mutual
  -- Where the variables are listed so, each one in the expression is listed and has no dimension
  -- left where it stands, and each iteration names exactly the variables that it goes over.
  pub data IsPlaced : List Listed → IlExp → Type 0 where
    placed : {ls : List Listed} {e : IlExp} → IsReached ls (out-IlExp e)
        → IsTrue (names_kept ls (out-IlExp e)) → ArePlaced (parts_of ls e) → IsPlaced ls e

  -- so it is in each of these parts
  pub data ArePlaced : List Part → Type 0 where
    none : ArePlaced []
    more : {p : Part} {ps : List Part} → IsPlaced p.0 p.1 → ArePlaced ps
        → ArePlaced (p ∷ ps)
