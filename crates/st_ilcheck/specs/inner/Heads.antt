-- Relations and functions by their names.
use Rattle.std.specs.Prelude.{◌≡◌, List}
use Rattle.std.specs.Borrow.{Bor}
use Rattle.std.specs.Option.{option_copied}
use Rattle.st_il.specs.declared.definition.FunDef.{FunDef}
use Rattle.st_il.specs.declared.definition.Il.{Il}
use Rattle.st_il.specs.declared.definition.IlDef.{IlDef}
use Rattle.st_il.specs.declared.definition.RelationDef.{RelationDef}
use Rattle.st_il.specs.declared.definition.SyntaxDef.{SyntaxDef}
use Rattle.st_il.specs.Names.{Name}
use Rattle.st_il.specs.Definitions.{syntaxes}
use Rattle.st_ilcheck.specs.Index.{at}
use Rattle.st_ilcheck.specs.inner.Steps.{function_in, relation_in}

-- under each name stands the first function of this name
abbrev pub FindFunctions : List IlDef → List (Bor Name × Bor FunDef) → Type 0
FindFunctions defs entries = (q : Name) → option_copied (at entries q) ≡ function_in q defs

-- under each name stands the first relation of this name
abbrev pub FindRelations : List IlDef → List (Bor Name × Bor RelationDef) → Type 0
FindRelations defs entries = (q : Name) → option_copied (at entries q) ≡ relation_in q defs

-- the table is of the syntaxes of the language, and these are its functions and its relations by
-- their names
pub record IsIndexed (il : Il) (table : List SyntaxDef) (functions : List (Bor Name × Bor FunDef))
    (relations : List (Bor Name × Bor RelationDef)) : Type 0 where
  pub tabled : table ≡ syntaxes il
  pub functions_found : FindFunctions il.defs functions
  pub relations_found : FindRelations il.defs relations
