-- Values of which all texts are texts and all numbers in range.
use Rattle.std.specs.Prelude.{List, [], ◌∷◌, Some, None}
use Rattle.std.specs.List.{All}
use Rattle.st_num.specs.Number.{IsNumber}
use Rattle.st_num.specs.Texts.{IsText}
use Rattle.st_il.specs.declared.value.Value.{Value}
use Rattle.st_il.specs.declared.value.Value.TheOpen.{Value-F}
use Rattle.st_il.specs.Value.{texts_of}
use Rattle.st_il.specs.Names.{Name}
use Rattle.st_semantics.specs.Environments.{numbers_of}

-- all texts in a value are texts, and all its numbers in range
pub record IsProper (v : Value) : Type 0 where
  pub texts : All IsText (texts_of v)
  pub numbers : All IsNumber (numbers_of v)

-- so are those in each value
abbrev pub AreProper : List Value → Type 0
AreProper [] = Unit {0}
AreProper (v ∷ vs) = IsProper v × AreProper vs

-- so are those in each field, and its name is a text
abbrev pub FieldsAreProper : List (Name × Value) → Type 0
FieldsAreProper [] = Unit {0}
FieldsAreProper (f ∷ fs) = (IsText f.0 × IsProper f.1) × FieldsAreProper fs

-- the same by the level of a value
abbrev pub ProperAt : Value-F Value → Type 0
ProperAt (Value-F.Bool truth) = Unit {0}
ProperAt (Value-F.Num number) = IsNumber number
ProperAt (Value-F.Text text) = IsText text
ProperAt (Value-F.Case tag parts) = IsText tag × AreProper parts
ProperAt (Value-F.Fields fields) = FieldsAreProper fields
ProperAt (Value-F.Tuple parts) = AreProper parts
ProperAt (Value-F.List parts) = AreProper parts
ProperAt (Value-F.Opt None) = Unit {0}
ProperAt (Value-F.Opt (Some part)) = IsProper part
