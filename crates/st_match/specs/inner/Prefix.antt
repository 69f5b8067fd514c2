-- What several expressions come to, behind values that are known.
use Rattle.std.specs.Prelude.{List, ◌++◌}
use Rattle.st_il.specs.declared.value.Value.{Value}
use Rattle.st_semantics.specs.declared.outcome.Outcomes.{Outcomes}
use Rattle.st_semantics.specs.declared.outcome.Outcomes.TheVariants.{Values, Stopped}

-- these values before what several expressions come to
abbrev pub behind_values : List Value → Outcomes → Outcomes
behind_values xs (Values ys) = Values (xs ++ ys)
behind_values xs (Stopped o) = Stopped o
