-- What the law claims of each question.
use Rattle.std.specs.Prelude.{◌≡◌, ◌⊎◌, List, [], ◌∷◌, map, true}
use Rattle.st_el.specs.declared.expression.Exp.{Exp}
use Rattle.st_el.specs.Plain.{plain_exp}
use Rattle.st_il.specs.declared.definition.IlDef.{IlDef}
use Rattle.st_il.specs.declared.ty.Ty.{Ty}
use Rattle.st_il.specs.declared.ty.Ty.TheVariants as ty
use Rattle.st_type_table.specs.Meaning.{Means}
use Rattle.st_notation.specs.Fits.{Filling, one, run, missing}
use Rattle.st_erase.specs.declared.erased.Erased.{Erased}
use Rattle.st_erase.specs.declared.erased.ErasedKind.{ErasedKind}
use Rattle.st_erase.specs.declared.erased.ErasedKind.TheVariants as kind
use Rattle.st_erase.specs.Places.{run as run_of}
use Rattle.st_erase.specs.Erasure.{erased}
use Rattle.st_elab_table.specs.declared.decls.Decls.{Decls}
use Rattle.st_elab_table.specs.declared.decls.Scope.{Scope}
use Rattle.st_elab_table.specs.Questions.{Manner, Question, check, infer, item, hole, Made, Gives}
use Rattle.st_elab_table.specs.Elaboration.{Answered}
use Rattle.st_elab_table.specs.Parts.{Asked}

-- ---- kinds

-- it is written
abbrev pub IsPresent : ErasedKind → Type 0
IsPresent kind.Absent = ⊥
IsPresent k = Unit {0}

-- it is written as one element
abbrev pub IsSingle : ErasedKind → Type 0
IsSingle kind.Absent = ⊥
IsSingle kind.Run = ⊥
IsSingle k = Unit {0}

-- ---- claims

-- What is erased is this expression, once both are plain.
abbrev pub IsErasedTo : Erased → Exp → Type 0
IsErasedTo x e = plain_exp x.exp ≡ plain_exp e

-- It is that and is written, as one element where it stands alone.
pub record IsWritten (Alone : Type 0) (x : Erased) (e : Exp) : Type 0 where
  pub same : IsErasedTo x e
  pub present : IsPresent x.kind
  pub single : Alone → IsSingle x.kind

abbrev pub IsNoList : Decls → Ty → Type 0
IsNoList D t = (x : Ty) → Means D.types t (ty.List x) → ⊥

-- An expression is one element where it stands in parentheses or is asked at no list type.
abbrev pub IsAlone : Decls → Manner → Ty → Type 0
IsAlone D p t = (p.in_parentheses ≡ true) ⊎ IsNoList D t

-- what is erased fills the hole, in which it is one element where it stands alone
abbrev pub IsFilledBy : Type 0 → Filling → Erased → Type 0
IsFilledBy Alone (one e) x = IsWritten Alone x e
IsFilledBy Alone (run es) x = map plain_exp (run_of x) ≡ map plain_exp es
IsFilledBy Alone missing x = x.kind ≡ kind.Absent

module _ (defs : List IlDef) (D : Decls) where
  abbrev pub Claim : Question → Made → Type 0
  Claim (check w at p e t) m = IsWritten (IsAlone D p t) (erased defs m.exp) e
  Claim (infer w at e) m = IsWritten (Unit {0}) (erased defs m.exp) e
  Claim (item w t element e) m = IsErasedTo (erased defs m.exp) e
  Claim (hole w at passed filling t) m = IsFilledBy (IsNoList D t) filling (erased defs m.exp)

-- the claims of several questions
abbrev pub Claims : (Question → Made → Type 0) → List Question → List Made → Type 0
Claims P [] [] = Unit {0}
Claims P (q ∷ qs) (m ∷ ms) = P q m × Claims P qs ms
Claims P [] (m ∷ ms) = ⊥
Claims P (q ∷ qs) [] = ⊥

-- what holds of each answer holds of the answers to several questions
pub claims_of : (D : Decls) (S : Scope) (P : Question → Made → Type 0) → ((q : Question) (m : Made) → Answered D S q (Gives m) → P q m) → (qs : List Question) (ms : List Made) → Asked D S qs ms → Claims P qs ms
claims_of D S P all [] [] h = tt
claims_of D S P all [] (m ∷ ms) h = absurd h
claims_of D S P all (q ∷ qs) [] h = absurd h
claims_of D S P all (q ∷ qs) (m ∷ ms) h = (all q m h.0, claims_of D S P all qs ms h.1)
