-- What the code that types variables asks of its table.
use Rattle.std.specs.Prelude.{◌≢◌, ℕ, List, None}
use Rattle.std.specs.List.{AllByRecursion}
use Rattle.st_num.specs.declared.dim.Kind.{Kind}
use Rattle.st_dims.specs.Dimensions.{Table}
use Rattle.st_elab_table.specs.declared.decls.Decls.{Decls}
use Rattle.st_elab_table.specs.Variables.{type_of_name}

-- Each name of the table leads to a type.
abbrev pub AreTyped : Decls → Table → Type 0
AreTyped D table =
    AllByRecursion (λ (entry : List ℕ × List Kind). type_of_name D entry.0 ≢ None) table
