use Rattle.std.proofs.Common.{sym, subst, Option}
use Rattle.std.specs.Borrow.{Bor}
use Rattle.std.specs.Option.{option_copied}
use Rattle.st_il.specs.declared.ty.Ty.{Ty}
use Rattle.st_il.specs.Definitions.{syntaxes}
use Rattle.st_ilcheck.specs.FoundTypes.{IsElementOf, ChosenFrom}
use Rattle.st_ilcheck.proofs.Builds.{chosen-copied}
use Rattle.st_ilcheck.proofs.found.type_of_element.Goals as goal

pub returns-in_ok-found-in-Some : goal.returns-in_ok-found-in-Some
returns-in_ok-found-in-Some c =
    subst (λ (z : Option (Bor Ty)). ChosenFrom (IsElementOf (syntaxes c.args.language.now)) (option_copied z) c.in_ok-found-in-Some.found) (sym c.in-Some.is)
    (chosen-copied (IsElementOf (syntaxes c.args.language.now) c.in-Some.ty.now) c.element.result c.in_ok-found-in-Some.found c.element.ensures c.in_ok-found-in-Some.ensures)
