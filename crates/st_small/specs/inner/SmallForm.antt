-- The form of the text of a small specification:
-- what its words are, apart from which words go together.
use Rattle.std.specs.Prelude.{◌≡◌, Option, IsSomeAnd, ℕ, List, [], ◌∷◌, All}
use Rattle.std.specs.Borrow.{Bor}
use Rattle.st_il.specs.Small.{IsLower, IsUpper, IsWordOf}
use Rattle.st_small.specs.declared.reader.line.RuleWords.{RuleWords}
use Rattle.st_small.specs.declared.reader.word.Case.{Case}
use Rattle.st_small.specs.declared.reader.word.Case.TheVariants.{Lower, Upper}
use Rattle.st_il.specs.declared.small.Small.{Small}
use Rattle.st_il.specs.declared.small.SmallRule.{SmallRule}

-- the letters of a case
abbrev pub IsLetter : Case → ℕ → Type 0
IsLetter Lower = IsLower
IsLetter Upper = IsUpper

-- a word of letters of a case
abbrev pub IsWord : Case → List ℕ → Type 0
IsWord case = IsWordOf (IsLetter case)

-- no letter stands at the front
abbrev pub Stops : (ℕ → Type 0) → List ℕ → Type 0
Stops IsLetter [] = Unit {0}
Stops IsLetter (byte ∷ rest) = IsLetter byte → ⊥

-- the answer is this word and this rest
abbrev pub Answers : Option (Bor (List ℕ) × Bor (List ℕ)) → List ℕ → List ℕ → Type 0
Answers answer word rest = IsSomeAnd answer (λ read. (read.0.now ≡ word) × (read.1.now ≡ rest))

-- the rule whose words are borrowed
abbrev pub rule_of : RuleWords → SmallRule
rule_of words = record { name = words.name.now; from = words.from.now; to = words.to.now }

-- the name of the rule is a word of lower-case letters, and its atoms are words of upper-case ones
pub record IsRuleOfWords (rule : SmallRule) : Type 0 where
  pub name : IsWordOf IsLower rule.name
  pub from : IsWordOf IsUpper rule.from
  pub to : IsWordOf IsUpper rule.to

-- the names of the specification are words of lower-case or upper-case letters
pub record IsOfWords (s : Small) : Type 0 where
  pub syntax : IsWordOf IsLower s.syntax
  pub atoms : All (IsWordOf IsUpper) s.atoms
  pub relation : IsWordOf IsUpper s.relation
  pub rules : All IsRuleOfWords s.rules
