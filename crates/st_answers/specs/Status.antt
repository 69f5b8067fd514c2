-- The numbers of the statuses.
use Rattle.std.specs.Prelude.{ℕ}
use Rattle.st_answers.specs.declared.status.Status.{Status}
use Rattle.st_answers.specs.declared.status.Status.TheVariants as answer

-- the number with which the program ends
abbrev pub number_of : Status → ℕ
number_of answer.Done = 0
number_of answer.Usage = 1
number_of answer.Specification = 2
number_of answer.Term = 3
number_of answer.Fuel = 4
number_of answer.Depth = 5
number_of answer.NotRunnable = 6
number_of answer.Verification = 7
number_of answer.Load = 8
number_of answer.Write = 9
number_of answer.Memory = 10
number_of answer.TooLarge = 11
number_of answer.Unbuilt = 12
