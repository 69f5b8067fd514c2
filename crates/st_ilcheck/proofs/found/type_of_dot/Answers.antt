use Rattle.std.proofs.Common.{sym, subst, Option}
use Rattle.std.specs.Borrow.{Bor}
use Rattle.std.specs.Option.{option_copied}
use Rattle.st_il.specs.declared.ty.Ty.{Ty}
use Rattle.st_il.specs.Definitions.{syntaxes}
use Rattle.st_ilcheck.specs.FoundTypes.{IsFieldOf, ChosenFrom}
use Rattle.st_ilcheck.proofs.Builds.{chosen-copied}
use Rattle.st_ilcheck.proofs.found.type_of_dot.Goals as goal

pub returns-in_ok-found-in-Some : goal.returns-in_ok-found-in-Some
returns-in_ok-found-in-Some c =
    subst (λ (z : Option (Bor Ty)). ChosenFrom (IsFieldOf (syntaxes c.args.language.now) c.args.name.now) (option_copied z) c.in_ok-found-in-Some.found) (sym c.in-Some.is)
    (chosen-copied (IsFieldOf (syntaxes c.args.language.now) c.args.name.now c.in-Some.ty.now) c.field_type.result c.in_ok-found-in-Some.found c.field_type.ensures c.in_ok-found-in-Some.ensures)
