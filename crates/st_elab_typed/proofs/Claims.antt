-- What the law claims of each question.
use Rattle.std.specs.Prelude.{◌≡◌, ℕ, List, [], ◌∷◌, Some, Bool, true, false}
use Rattle.st_il.specs.declared.definition.Il.{Il}
use Rattle.st_il.specs.declared.definition.Listed.{Listed}
use Rattle.st_il.specs.declared.definition.RelationDef.{RelationDef}
use Rattle.st_il.specs.declared.definition.SyntaxDef.{SyntaxDef}
use Rattle.st_il.specs.declared.expression.IlExp.{IlExp}
use Rattle.st_il.specs.declared.ty.Ty.{Ty}
use Rattle.st_type_table.specs.Same.{Same}
use Rattle.st_notation.specs.Fits.{Filling, one, run, missing}
use Rattle.st_dims.specs.declared.within.Within.{Within}
use Rattle.st_il.specs.Definitions.{syntaxes, funs_in}
use Rattle.st_elab_table.specs.declared.decls.Decls.{Decls}
use Rattle.st_elab_table.specs.declared.decls.Scope.{Scope}
use Rattle.st_elab_table.specs.Questions.{Question, check, infer, item, hole, Made, Step}
use Rattle.st_elab_table.proofs.Keeps.{Keeps}
use Rattle.st_ilcheck.specs.Rules.{IsListOrOption}
use Rattle.st_ilcheck.specs.Typings.{HasTyping}
use Rattle.st_elab_typed.specs.inner.IsPlaced.{IsPlaced}
use Rattle.st_elab_typed.specs.Law.{AreListedAs}

-- ---- types that expressions have

-- Wherever the variables are listed so and the expression is placed, it breaks no rule and
-- has a type of which this holds.
abbrev pub Has : Il → (List Listed → Type 0) → (Ty → Type 0) → IlExp → Type 0
Has il Ok P x =
    (ls : List Listed) → Ok ls → IsPlaced ls x → (o : Ty) × (HasTyping il ls x (Some o) [] × P o)

-- it is equal to this type through aliases
abbrev pub Equals : Il → Ty → Ty → Type 0
Equals il t o = Same (syntaxes il) o t

-- it is this type
abbrev pub Exactly : Ty → Ty → Type 0
Exactly t o = o ≡ t

-- ---- claims

-- a hole that may be left out so is of a list or option type
abbrev pub MayFill : List SyntaxDef → Filling → Ty → Type 0
MayFill defs (one e) t = Unit {0}
MayFill defs (run []) t = IsListOrOption defs t
MayFill defs (run (e ∷ es)) t = Unit {0}
MayFill defs missing t = IsListOrOption defs t

-- the declarations whose types and functions are those of the internal language
abbrev pub decls_of : Il → List (List ℕ × Ty) → List RelationDef → Decls
decls_of il vars relations =
    record { types = syntaxes il; vars = vars; funs = funs_in il.defs; relations = relations }

module _ (il : Il) (vars : List (List ℕ × Ty)) (relations : List RelationDef) (S : Scope) where
  -- inside of this the expression has a type of which this holds
  abbrev pub HasIn : Within → (Ty → Type 0) → IlExp → Type 0
  HasIn w P x = Has il (AreListedAs (decls_of il vars relations) S w) P x

  -- it has the type that was asked, and is one element
  abbrev pub IsChecked : Within → Ty → Made → Type 0
  IsChecked w t m = HasIn w (Equals il t) m.exp × (m.spliced ≡ false)

  -- it has the type that is told
  abbrev pub IsInferred : Within → Made → Type 0
  IsInferred w m = HasIn w (Exactly m.ty) m.exp

  -- it is a list of the type t, or one element
  abbrev pub IsItem : Within → Ty → Ty → Bool → IlExp → Type 0
  IsItem w t element true x = HasIn w (Equals il t) x
  IsItem w t element false x = HasIn w (Equals il element) x

  abbrev pub Claim : Question → Made → Type 0
  Claim (check w at p e t) m = IsChecked w t m
  Claim (infer w at e) m = IsInferred w m
  Claim (item w t element e) m = IsItem w t element m.spliced m.exp
  Claim (hole w at passed filling t) m =
      MayFill (syntaxes il) filling t → HasIn w (Equals il t) m.exp

  -- the claims of several questions
  abbrev pub Claims : List Question → List Made → Type 0
  Claims [] [] = Unit {0}
  Claims [] (m ∷ ms) = ⊥
  Claims (q ∷ qs) [] = ⊥
  Claims (q ∷ qs) (m ∷ ms) = Claim q m × Claims qs ms

  -- what holds of a step where the claims hold of the questions that it asks
  abbrev pub Kept : (Made → Type 0) → Step → Type 0
  Kept Q s = Keeps (decls_of il vars relations) Claim Q s
