-- Small specifications in the internal language:
-- one syntax of atoms, and one relation whose rules have no premises.
use Rattle.std.specs.Prelude.{◌≡◌, ℕ, ◌-◌, ◌≤◌, ◌≢◌, length, List, [], ◌∷◌, map, codes, All, Contains}
use Rattle.std.specs.List.{AllPairs}
use Rattle.st_num.specs.Words.{word_spelling}
use Rattle.st_num.specs.declared.limit.TheConstants.{MOST_DEFINITIONS, MOST_PARTS}
use Rattle.st_num.specs.declared.word.TheConstants.Word.{ALL}
use Rattle.st_il.specs.declared.definition.Alternative.TheVariants.{Case as CaseAlternative}
use Rattle.st_il.specs.declared.definition.Il.{Il}
use Rattle.st_il.specs.declared.definition.IlDef.{IlDef}
use Rattle.st_il.specs.declared.definition.IlDef.TheVariants.{Syntax, Relation, Rule}
use Rattle.st_il.specs.declared.definition.SyntaxBody.TheVariants.{Variant}
use Rattle.st_il.specs.declared.expression.IlExp.{IlExp}
use Rattle.st_il.specs.declared.expression.IlExp.TheVariants.{Case}
use Rattle.st_il.specs.declared.small.Small.{Small}
use Rattle.st_il.specs.declared.small.SmallRule.{SmallRule}
use Rattle.st_il.specs.declared.ty.Ty.TheVariants.{Name}

-- a lower-case letter
abbrev pub IsLower : ℕ → Type 0
IsLower letter = (97 ≤ letter) × (letter ≤ 122)

-- a capital letter
abbrev pub IsUpper : ℕ → Type 0
IsUpper letter = (65 ≤ letter) × (letter ≤ 90)

-- a word of one or more letters of this kind
abbrev pub IsWordOf : (ℕ → Type 0) → List ℕ → Type 0
IsWordOf IsLetter word = (word ≢ []) × All IsLetter word

-- the words that the language keeps for itself
abbrev pub reserved : List (List ℕ)
reserved = map word_spelling ALL

-- no two names are equal
abbrev pub AreDistinct : List (List ℕ) → Type 0
AreDistinct names = AllPairs (λ one other. one ≢ other) names

-- the names of rules, in order
abbrev pub rule_names : List SmallRule → List (List ℕ)
rule_names rules = map (λ rule. rule.name) rules

-- a rule goes from an atom to an atom
pub record IsSmallRule (atoms : List (List ℕ)) (rule : SmallRule) : Type 0 where
  pub name : IsWordOf IsLower rule.name
  pub from : Contains atoms rule.from
  pub to : Contains atoms rule.to

-- what is asked of a small specification beside the form of its text
pub record IsSmall (s : Small) : Type 0 where
  pub syntax : IsWordOf IsLower s.syntax
  pub unreserved : Contains reserved s.syntax → ⊥
  pub atoms : All (IsWordOf IsUpper) s.atoms
  pub some : 1 ≤ length s.atoms
  pub few : length s.atoms ≤ MOST_PARTS
  pub distinct : AreDistinct s.atoms
  pub relation : IsWordOf IsUpper s.relation
  pub rules : All (IsSmallRule s.atoms) s.rules
  pub few_rules : length s.rules ≤ MOST_DEFINITIONS - 2
  pub distinct_rules : AreDistinct (rule_names s.rules)

-- an atom as an expression: a case without operands
abbrev pub atom_exp : List ℕ → List ℕ → IlExp
atom_exp syntax atom = Case syntax atom []

-- a rule from an atom to an atom, without variables and premises
abbrev pub rule_def : List ℕ → List ℕ → SmallRule → IlDef
rule_def relation syntax rule =
    Rule (record {
      relation = relation;
      name = rule.name;
      variables = [];
      conclusion = atom_exp syntax rule.from ∷ atom_exp syntax rule.to ∷ [];
      premises = [];
    })

-- the syntax, with a case without operands for each atom
abbrev pub syntax_def : List ℕ → List (List ℕ) → IlDef
syntax_def syntax atoms =
    Syntax (record { name = syntax; body = Variant (map (λ atom. CaseAlternative atom []) atoms) })

-- the relation between two values of the syntax, which is written with `~>`
abbrev pub relation_def : List ℕ → List ℕ → IlDef
relation_def relation syntax =
    Relation (record
    { name = relation; tag = codes "% ~> %"; holes = Name syntax ∷ Name syntax ∷ []; mode = [] })

-- the internal language of a small specification: the syntax, the relation and the rules
abbrev pub il_of : Small → Il
il_of s =
    record {
      defs = syntax_def s.syntax s.atoms ∷ relation_def s.relation s.syntax
          ∷ map (rule_def s.relation s.syntax) s.rules;
    }

-- an internal language that a small specification means
pub record IsSmallIl (il : Il) : Type 0 where
  pub source : Small
  pub small : IsSmall source
  pub means : il ≡ il_of source
