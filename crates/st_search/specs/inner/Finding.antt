-- What a closure may answer to a goal.
use Rattle.std.specs.Prelude.{◌≡◌, List, Result}
use Rattle.std.specs.Borrow.{Bor}
use Rattle.st_il.specs.declared.value.Value.{Value}
use Rattle.st_il.specs.Names.{Name}
use Rattle.st_search.specs.declared.answer.Output.{Output}
use Rattle.st_search.specs.declared.answer.SearchFault.{SearchFault}
use Rattle.st_search.specs.declared.found.Found.{Found}

-- Called with a reference to the relation's name, and with the inputs, a closure may return this.
-- `post` tells what it may return.
abbrev pub MayFind : (Bor Name → List Value → Result (Found Output) SearchFault → Type 0) → Name
    → List Value → Result (Found Output) SearchFault → Type 0
MayFind post relation inputs r =
    (name : Bor Name) × (name.now ≡ relation) × post name inputs r
