-- When the iterations of an expression name exactly the variables that they go over.
use Rattle.std.specs.Prelude.{List, [], ◌∷◌, IsTrue}
use Rattle.st_il.specs.declared.definition.Listed.{Listed}
use Rattle.st_il.specs.declared.expression.IlExp.{IlExp, out-IlExp}
use Rattle.st_ilcheck.specs.Naming.{names_kept}
use Rattle.st_ilcheck.specs.Parts.{Part, parts_of}

mutual
  -- Where the variables are listed so, each iteration in the expression names exactly the variables
  -- of its body that it goes over, and at least one unless it has a count.
  pub data KeepsNames : List Listed → IlExp → Type 0 where
    keeps : {ls : List Listed} {e : IlExp} → IsTrue (names_kept ls (out-IlExp e))
        → AllKeepNames (parts_of ls e) → KeepsNames ls e

  -- so it is in each of these parts
  pub data AllKeepNames : List Part → Type 0 where
    none : AllKeepNames []
    more : {p : Part} {ps : List Part} → KeepsNames p.0 p.1 → AllKeepNames ps
        → AllKeepNames (p ∷ ps)
