-- Judgements: an expression in the notation of a relation.
use Rattle.std.specs.Prelude.{◌≡◌, ℕ, List, [], ◌∷◌, if◌then◌else◌, Option, Some, None}
use Rattle.st_num.specs.declared.span.Span.{Span}
use Rattle.st_num.specs.declared.rule.RuleId.{RuleId}
use Rattle.st_num.specs.declared.rule.RuleId.TheVariants.{Y2}
use Rattle.st_num.specs.Names.{same_name}
use Rattle.st_el.specs.declared.expression.Exp.{Exp}
use Rattle.st_il.specs.declared.expression.IlExp.{IlExp}
use Rattle.st_il.specs.declared.definition.RelationDef.{RelationDef}
use Rattle.st_type_table.specs.declared.entry.CaseDef.{CaseDef}
use Rattle.st_notation.specs.Fits.{Filling}
use Rattle.st_elab_table.specs.declared.decls.Decls.{Decls}
use Rattle.st_elab_table.specs.declared.decls.Scope.{Scope}
use Rattle.st_dims.specs.declared.within.Within.{Within}
use Rattle.st_elab_table.specs.Forms.{place}
use Rattle.st_elab_table.specs.Questions.{Question, Breach}
use Rattle.st_elab_table.specs.Steps.{exp_of, holes}
use Rattle.st_elab_table.specs.Choice.{FillsCase}
use Rattle.st_elab_table.specs.Parts.{AskedAs, Breaks}

-- this rule is broken at this place
abbrev pub broken : Span → RuleId → Breach
broken at rule = record { at = at; rule = rule }

-- the declaration of the relation of this name, if there is one
abbrev pub relation_named : List RelationDef → List ℕ → Option RelationDef
relation_named [] name = None
relation_named (R ∷ Rs) name = if same_name name R.name then Some R else relation_named Rs name

-- the relation is the declared one of its name
abbrev pub IsRelationOf : Decls → RelationDef → Type 0
IsRelationOf D R = relation_named D.relations R.name ≡ Some R

-- A relation as a case: its notation is fitted as that of one.
abbrev pub case_of : RelationDef → CaseDef
case_of R = record { tag = R.tag; operands = R.holes }

-- The questions what fills each hole of the relation, at the type of the hole.
abbrev pub judgement_questions : Within → Exp → List Filling → RelationDef → List Question
judgement_questions w e fillings R = holes w (place e) fillings R.holes

-- The expression is a judgement of the relation, with these expressions in its holes.
pub record Judged (D : Decls) (S : Scope) (w : Within) (R : RelationDef) (e : Exp)
    (xs : List IlExp) : Type 0 where
  pub fillings : List Filling
  pub fits : FillsCase D.types (case_of R) e fillings
  pub filled : AskedAs D S (judgement_questions w e fillings R) IlExp exp_of xs

-- The first breach in a judgement: it does not fit, or else the first in what fills its holes.
pub data JudgedBreach (D : Decls) (S : Scope) (w : Within) (R : RelationDef) (e : Exp)
    : Breach → Type 0 where
  unfit : ((fillings : List Filling) → FillsCase D.types (case_of R) e fillings → ⊥)
      → JudgedBreach D S w R e (broken (place e) Y2)
  filling : {b : Breach} (fillings : List Filling) → FillsCase D.types (case_of R) e fillings
      → Breaks D S (judgement_questions w e fillings R) b → JudgedBreach D S w R e b
