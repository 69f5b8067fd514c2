-- Those of some formed expressions that pass a test, and those at some holes, are formed.
use Rattle.std.proofs.Common.{Bool, true, false, if◌then◌else◌, List, [], ◌∷◌, filter}
use Rattle.st_il.specs.declared.definition.SyntaxDef.{SyntaxDef}
use Rattle.st_il.specs.declared.expression.IlExp.{IlExp}
use Rattle.st_semantics.specs.Directions.{inputs_by}
use Rattle.st_semantics.specs.Formed.{AreFormed, none, more}

pub formed_filtered : (defs : List SyntaxDef) (test : IlExp → Bool) (es : List IlExp) → AreFormed defs es → AreFormed defs (filter test es)
formed_filtered defs test [] all = none
formed_filtered defs test (e ∷ es) (more first rest) = at (test e) (formed_filtered defs test es rest)
  where
    at : (b : Bool) → AreFormed defs (filter test es) → AreFormed defs (if b then e ∷ filter test es else filter test es)
    at true later = more first later
    at false later = later

pub formed_by : (defs : List SyntaxDef) (m : List Bool) (es : List IlExp) → AreFormed defs es → AreFormed defs (inputs_by m es)
formed_by defs [] es all = none
formed_by defs (b ∷ m) [] all = none
formed_by defs (true ∷ m) (e ∷ es) (more first rest) = more first (formed_by defs m es rest)
formed_by defs (false ∷ m) (e ∷ es) (more first rest) = formed_by defs m es rest
