-- The least of some rules and of what was found behind them.
use Rattle.std.specs.Prelude.{List, [], ◌∷◌, Option, Some}
use Rattle.st_il.specs.declared.type_rule.TypeRule.{TypeRule}
use Rattle.st_ilcheck.specs.Least.{lesser}

-- the least of these rules and of what was found behind them
abbrev pub least_before : List TypeRule → Option TypeRule → Option TypeRule
least_before [] found = found
least_before (m ∷ ms) found = lesser (Some m) (least_before ms found)
