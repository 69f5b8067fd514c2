-- Whether rules of relations have an `otherwise`.
use Rattle.std.specs.Prelude.{ℕ, Bool, List}
use Rattle.std.specs.Borrow.{Bor}
use Rattle.std.specs.List.{list_any}
use Rattle.st_il.specs.declared.definition.RuleDef.{RuleDef}
use Rattle.st_modes.specs.inner.Citations.{rules_under}
use Rattle.st_il.specs.Names.{Name}
use Rattle.st_semantics.specs.Variables.{have_otherwise}

-- whether one of some rules has an `otherwise`
abbrev pub some_has_otherwise : List RuleDef → Bool
some_has_otherwise rules = list_any (λ (r : RuleDef). have_otherwise r.premises) rules

-- whether one that stands under a name has one
abbrev pub has_otherwise_under : List (Bor (List ℕ) × List (Bor RuleDef)) → Name → Bool
has_otherwise_under entries name = some_has_otherwise (rules_under entries name)
