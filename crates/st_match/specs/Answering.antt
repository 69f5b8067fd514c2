-- What a closure may answer to a call.
use Rattle.std.specs.Prelude.{◌≡◌, List, Result, Ok}
use Rattle.std.specs.Borrow.{Bor}
use Rattle.st_num.specs.declared.memory.NoMemory.{NoMemory}
use Rattle.st_il.specs.declared.value.Value.{Value}
use Rattle.st_semantics.specs.declared.outcome.Outcome.{Outcome}
use Rattle.st_il.specs.Names.{Name}
use Rattle.st_semantics.specs.Evaluation.{Answers}

-- Called with a reference to the function's name, and with the arguments, a closure may return this
-- outcome. `post` tells what it may return.
abbrev pub MayAnswer : (Bor Name → List Value → Result Outcome NoMemory → Type 0) → Answers
MayAnswer post fun vs o = (name : Bor Name) × (name.now ≡ fun) × post name vs (Ok o)
