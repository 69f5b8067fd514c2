use Rattle.std.proofs.Common.{◌≡◌, take}
use Rattle.std.specs.List.{AllByRecursion}
use Rattle.st_elab_table.specs.Scopes.{table_of, HasItsType}
use Rattle.st_elab_exp.proofs.scope.typed.Given as goal

abbrev pub invariant-loop-entry : goal.invariant-loop-entry
invariant-loop-entry l = record { table : table_of l.variables ≡ take l.entry-index l.table; types : AllByRecursion (HasItsType l.decls) l.variables }
