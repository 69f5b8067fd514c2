-- The least of some rules.
use Rattle.std.specs.Prelude.{◌≡◌, ℕ, nat_le, List, [], ◌∷◌, Option, Some, None, if◌then◌else◌}
use Rattle.st_il.specs.declared.type_rule.TypeRule.{TypeRule}
use Rattle.st_il.specs.declared.type_rule.TypeRule.TheVariants.{T1, T2, T3, T4, T5, T6, T7, T8, T9, T10, T11, T12, T13, T14}

-- the number of a rule
abbrev pub number : TypeRule → ℕ
number T1 = 1
number T2 = 2
number T3 = 3
number T4 = 4
number T5 = 5
number T6 = 6
number T7 = 7
number T8 = 8
number T9 = 9
number T10 = 10
number T11 = 11
number T12 = 12
number T13 = 13
number T14 = 14

-- the lesser of two rules, where there are both
abbrev pub lesser : Option TypeRule → Option TypeRule → Option TypeRule
lesser None b = b
lesser (Some m) None = Some m
lesser (Some m) (Some n) = if nat_le (number m) (number n) then Some m else Some n

-- the least of some rules, where there are some
abbrev pub least : List TypeRule → Option TypeRule
least [] = None
least (m ∷ ms) = lesser (Some m) (least ms)

-- the least of those rules of which the fact holds
abbrev pub IsLeastOf : (List TypeRule → Type 0) → Option TypeRule → Type 0
IsLeastOf P rule = (broken : List TypeRule) × (P broken × (rule ≡ least broken))
