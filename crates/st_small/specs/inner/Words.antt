-- The letters of the names of a small specification.
use Rattle.std.specs.Prelude.{All}
use Rattle.st_il.specs.declared.small.Small.{Small}
use Rattle.st_il.specs.declared.small.SmallRule.{SmallRule}
use Rattle.st_il.specs.Small.{IsLower, IsUpper, IsWordOf}

-- the name of the rule is a word of lower-case letters
abbrev pub HasLowerName : SmallRule → Type 0
HasLowerName rule = IsWordOf IsLower rule.name

-- the syntax and the rules have names of lower-case letters, and the relation and the atoms names of
-- upper-case ones
pub record HasWords (s : Small) : Type 0 where
  pub syntax : IsWordOf IsLower s.syntax
  pub relation : IsWordOf IsUpper s.relation
  pub atoms : All (IsWordOf IsUpper) s.atoms
  pub rules : All HasLowerName s.rules
