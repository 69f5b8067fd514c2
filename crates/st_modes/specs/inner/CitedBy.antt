-- Under each name those that cite it.
use Rattle.std.specs.Prelude.{◌≡◌, List}
use Rattle.st_il.specs.declared.definition.IlDef.{IlDef}
use Rattle.st_il.specs.Names.{Name, has_name}
use Rattle.st_modes.specs.inner.Citations.{cited_by_relation, called_by_function}
use Rattle.st_modes.specs.inner.Reaching.{Entries, cited_under}

-- under each relation stand those whose rules among these definitions cite it
abbrev pub AreCiting : List IlDef → Entries → Type 0
AreCiting defs entries =
    (p q : Name) → has_name (cited_under entries q) p ≡ has_name (cited_by_relation p defs) q

-- under each function stand those whose clauses among these definitions call it
abbrev pub AreCalling : List IlDef → Entries → Type 0
AreCalling defs entries =
    (p q : Name) → has_name (cited_under entries q) p ≡ has_name (called_by_function p defs) q
