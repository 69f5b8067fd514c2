-- Which case of a variant an expression is, and what fills the holes of its notation.
use Rattle.std.specs.Prelude.{◌≡◌, List, [], ◌∷◌, length, Bool, true, false, ◌&&◌}
use Rattle.st_el.specs.declared.expression.Exp.{Exp}
use Rattle.st_il.specs.declared.ty.Ty.{Ty, out-Ty}
use Rattle.st_il.specs.declared.ty.Ty.TheVariants as ty
use Rattle.st_il.specs.declared.ty.Ty.TheOpen.{Ty-F}
use Rattle.st_il.specs.declared.definition.SyntaxDef.{SyntaxDef}
use Rattle.st_il.specs.declared.template.Template.{Template, out-Template}
use Rattle.st_il.specs.declared.template.Template.TheOpen.{Template-F}
use Rattle.st_il.specs.Template.{HasTag, holes}
use Rattle.st_il.specs.Key.{PlainKey, free}
use Rattle.st_type_table.specs.declared.entry.CaseDef.{CaseDef}
use Rattle.st_type_table.specs.Meaning.{Means}
use Rattle.st_type_table.specs.Cases.{HasCases}
use Rattle.st_type_table.specs.Keys.{NoneHasKey, IsFirstWith}
use Rattle.st_notation.specs.declared.filled.Shape.{Shape}
use Rattle.st_notation.specs.declared.filled.Shape.TheVariants as shape
use Rattle.st_notation.specs.Fits.{Filling, FitsWhole}
use Rattle.st_notation.specs.Key.{key_of}
use Rattle.st_elab_table.specs.Forms.{is_single}
use Rattle.st_elab_table.specs.Questions.{Chosen}

-- ---- shapes

-- the shape that the form of a type gives: a list, an option, or plain
abbrev pub shape_at : Ty-F Ty → Shape
shape_at (Ty-F.List t) = shape.List
shape_at (Ty-F.Opt t) = shape.Opt
shape_at _ = shape.Plain

-- the shape of a type as it is written: a name is plain, whatever it means
abbrev pub shape_of : Ty → Shape
shape_of t = shape_at (out-Ty t)

-- the shape of a type is that of what it means
abbrev pub HasShape : List SyntaxDef → Ty → Shape → Type 0
HasShape defs t s = (u : Ty) × Means defs t u × (s ≡ shape_of u)

-- these are the shapes of as many types, one after another
abbrev pub HaveShapes : List SyntaxDef → List Ty → List Shape → Type 0
HaveShapes defs [] [] = Unit {0}
HaveShapes defs [] (s ∷ ss) = ⊥
HaveShapes defs (t ∷ ts) [] = ⊥
HaveShapes defs (t ∷ ts) (s ∷ ss) = HasShape defs t s × HaveShapes defs ts ss

-- ---- the case

-- A case is chosen by a key; where no case has it, the case without a key is chosen.
pub data IsChosenBy (k : PlainKey) (cases : List CaseDef) (c : CaseDef) : Type 0 where
  keyed : IsFirstWith k cases c → IsChosenBy k cases c
  keyless : NoneHasKey k cases → IsFirstWith free cases c → IsChosenBy k cases c

-- the type is a variant, itself or through aliases, and the case is chosen by the key of its cases
pub record IsChosenAt (defs : List SyntaxDef) (t : Ty) (k : PlainKey) (c : CaseDef) : Type 0 where
  pub cases : List CaseDef
  pub has : HasCases defs t cases
  pub chosen : IsChosenBy k cases c

-- The expression fits the template of the case, which has an operand for each hole, with this in
-- its holes.
pub record FillsCase (defs : List SyntaxDef) (c : CaseDef) (e : Exp)
    (fillings : List Filling) : Type 0 where
  pub template : Template
  pub shapes : List Shape
  pub tagged : HasTag template c.tag
  pub counted : length c.operands ≡ holes template
  pub shaped : HaveShapes defs c.operands shapes
  pub fits : FitsWhole template shapes e fillings

-- the level of a notation is a hole
abbrev pub is_hole : Template-F Template → Bool
is_hole Template-F.Hole = true
is_hole _ = false

-- a level of a notation has a hole that takes the whole of an expression, if this is one element
abbrev pub takes_whole_at : Template-F Template → Bool → Bool
takes_whole_at Template-F.Hole single = true
takes_whole_at (Template-F.Seq (t ∷ ts)) single = is_hole (out-Template t) && single
takes_whole_at _ single = false

-- A hole takes the whole of the expression: the notation is this hole alone,
-- or it is a sequence that begins with a hole, and the expression is one element.
abbrev pub takes_whole : Template → Exp → Bool
takes_whole t e = takes_whole_at (out-Template t) (is_single e)

-- the case that the expression is at the type, with what fills its holes
pub record IsCaseOf (defs : List SyntaxDef) (t : Ty) (e : Exp) (c : Chosen) : Type 0 where
  pub cases : List CaseDef
  pub asked : t ≡ ty.Name c.name
  pub has : HasCases defs t cases
  pub chosen : IsChosenBy (key_of e) cases (record { tag = c.tag; operands = c.operands })
  pub filled : FillsCase defs (record { tag = c.tag; operands = c.operands }) e c.fillings
  pub whole : c.whole ≡ takes_whole filled.template e
