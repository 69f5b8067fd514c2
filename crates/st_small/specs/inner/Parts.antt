-- The parts of the definitions of a small specification.
use Rattle.std.specs.Prelude.{◌≡◌, ℕ, List, [], ◌∷◌, codes}
use Rattle.st_il.specs.declared.definition.Alternative.{Alternative}
use Rattle.st_il.specs.declared.definition.Alternative.TheVariants.{Case}
use Rattle.st_il.specs.declared.definition.IlDef.{IlDef}
use Rattle.st_il.specs.declared.definition.IlDef.TheVariants.{Syntax}
use Rattle.st_il.specs.declared.definition.RelationDef.{RelationDef}
use Rattle.st_il.specs.declared.definition.RuleDef.{RuleDef}
use Rattle.st_il.specs.declared.definition.SyntaxBody.TheVariants.{Variant}
use Rattle.st_il.specs.declared.small.SmallRule.{SmallRule}
use Rattle.st_il.specs.declared.ty.Ty.{Ty}
use Rattle.st_il.specs.declared.ty.Ty.TheVariants.{Name}

-- an atom as an alternative: a case without operands
abbrev pub atom_alternative : List ℕ → Alternative
atom_alternative atom = Case atom []

-- the syntax x with these alternatives
abbrev pub variant_def : List ℕ → List Alternative → IlDef
variant_def x alternatives = Syntax (record { name = x; body = Variant alternatives })

-- two types, of which each is the syntax x
abbrev pub hole_types : List ℕ → List Ty
hole_types x = Name x ∷ Name x ∷ []

-- a relation is one between two values of the syntax x, written with `~>`
pub record IsBetween (x : List ℕ) (d : RelationDef) : Type 0 where
  pub tag : d.tag ≡ codes "% ~> %"
  pub holes : d.holes ≡ hole_types x
  pub mode : d.mode ≡ []

-- a rule is one of the relation r, without variables and premises
pub record IsPlain (r : List ℕ) (d : RuleDef) : Type 0 where
  pub relation : d.relation ≡ r
  pub variables : d.variables ≡ []
  pub premises : d.premises ≡ []

-- the rule of this name, from an atom to another
abbrev pub rule_of : List ℕ → List ℕ → List ℕ → SmallRule
rule_of name from to = record { name = name; from = from; to = to }
