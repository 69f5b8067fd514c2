-- What the steps that rows are made of keep.
use Rattle.std.proofs.Common.{◌≡◌, refl, sym, ◌∙◌, ap, subst, ℕ, List, [], ◌∷◌, Bool, true, false}
use Rattle.std.specs.Prelude.{if◌then◌else◌, Option, Some, None, bytes_eq}
use Rattle.std.specs.Map.{lookup}
use Rattle.st_num.specs.declared.span.Span.{Span}
use Rattle.st_num.specs.Names.{same_name}
use Rattle.st_il.specs.declared.definition.Il.{Il}
use Rattle.st_il.specs.declared.definition.RelationDef.{RelationDef}
use Rattle.st_il.specs.declared.expression.IlExp.{IlExp}
use Rattle.st_il.specs.declared.expression.IlExp.TheVariants as exp
use Rattle.st_il.specs.declared.ty.NumTy.{NumTy}
use Rattle.st_il.specs.declared.ty.NumTy.TheVariants as number
use Rattle.st_il.specs.declared.ty.Ty.{Ty, out-Ty, roll-Ty, roll-out-Ty}
use Rattle.st_il.specs.declared.ty.Ty.TheOpen.{Ty-F}
use Rattle.st_il.specs.declared.ty.Ty.TheVariants as ty
use Rattle.st_type_table.specs.Meaning.{Means, fields_of}
use Rattle.st_type_table.specs.Cases.{HasFields}
use Rattle.st_type_table.specs.Sub.{Sub}
use Rattle.st_notation.specs.declared.filled.Shape.{Shape}
use Rattle.st_dims.specs.declared.within.Within.{Within}
use Rattle.st_il.specs.Names.{Name}
use Rattle.st_il.specs.Definitions.{syntaxes}
use Rattle.st_semantics.specs.OperationTypes.{number_type, field_type}
use Rattle.st_elab_table.specs.declared.decls.Scope.{Scope}
use Rattle.st_elab_table.specs.Choice.{shape_of, HaveShapes}
use Rattle.st_elab_table.specs.Questions.{Question, Made, Step, asks}
use Rattle.st_elab_table.specs.Steps.{list_at, as_list, number_at, as_number, larger, raised}
use Rattle.st_elab_table.specs.Records.{shaped}
use Rattle.st_elab_table.specs.Paths.{declared_field, field_by, as_field}
use Rattle.st_ilcheck.specs.FoundTypes.{IsFieldOf}
use Rattle.st_elab_typed.proofs.Claims.{Equals, Exactly, decls_of, HasIn, Claims, Kept}
use Rattle.st_elab_typed.proofs.HasLemmas.{Has-exactly, Has-equal}
use Rattle.st_elab_typed.proofs.Forms.{Has-Up}

-- a type that opens as a list is one
pub is_list : (u x : Ty) → out-Ty u ≡ Ty-F.List x → u ≡ ty.List x
is_list u x o = sym (roll-out-Ty u) ∙ ap roll-Ty o ∙ ty.rolls-List x

pub is_option : (u x : Ty) → out-Ty u ≡ Ty-F.Opt x → u ≡ ty.Opt x
is_option u x o = sym (roll-out-Ty u) ∙ ap roll-Ty o ∙ ty.rolls-Opt x

pub is_tuple : (u : Ty) (xs : List Ty) → out-Ty u ≡ Ty-F.Tuple xs → u ≡ ty.Tuple xs
is_tuple u xs o = sym (roll-out-Ty u) ∙ ap roll-Ty o ∙ ty.rolls-Tuple xs

-- the first field of a name, as it is looked up
pub field_type-lookup : (name : Name) (fields : List (Name × Ty)) → field_type name fields ≡ lookup (same_name name) fields
field_type-lookup name [] = refl
field_type-lookup name (f ∷ fs) = ap (λ o. if bytes_eq name f.0 then Some f.1 else o) (field_type-lookup name fs)

module _ (il : Il) (vars : List (List ℕ × Ty)) (relations : List RelationDef) (S : Scope) (Q : Made → Type 0) where
  abbrev Keeps : Step → Type 0
  Keeps s = Kept il vars relations S Q s

  pub keeps_if : (b : Bool) (s u : Step) → (b ≡ true → Keeps s) → (b ≡ false → Keeps u) → Keeps (if b then s else u)
  keeps_if true s u h k = h refl
  keeps_if false s u h k = k refl

  pub keeps_asks : (qs : List Question) (next : List Made → Step) → ((ms : List Made) → Claims il vars relations S qs ms → Keeps (next ms)) → Keeps (asks qs next)
  keeps_asks [] next h = h [] tt
  keeps_asks (q ∷ qs) next h = λ m c. keeps_asks qs (λ ms. next (m ∷ ms)) (λ ms cs. h (m ∷ ms) (c, cs))

  pub keeps_list : (at : Span) (t : Ty) (next : Ty → Step) → ((x : Ty) → Means (syntaxes il) t (ty.List x) → Keeps (next x)) → Keeps (as_list at t next)
  keeps_list at t next h = λ u m. by (out-Ty u) refl m
    where
      by : {u : Ty} (y : Ty-F Ty) → out-Ty u ≡ y → Means (syntaxes il) t u → Keeps (list_at at next y)
      by {u} (Ty-F.List x) o m = h x (subst (Means (syntaxes il) t) (is_list u x o) m)
      by y o m = tt

  pub keeps_number : (at : Span) (t : Ty) (next : NumTy → Step) → ((n : NumTy) → Means (syntaxes il) t (number_type n) → Keeps (next n)) → Keeps (as_number at t next)
  keeps_number at t next h = λ u m. by (out-Ty u) refl m
    where
      by : {u : Ty} (y : Ty-F Ty) → out-Ty u ≡ y → Means (syntaxes il) t u → Keeps (number_at at next y)
      by {u} Ty-F.Nat o m = h number.Nat (subst (Means (syntaxes il) t) (sym (roll-out-Ty u) ∙ ap roll-Ty o ∙ ty.rolls-Nat) m)
      by {u} Ty-F.Int o m = h number.Int (subst (Means (syntaxes il) t) (sym (roll-out-Ty u) ∙ ap roll-Ty o ∙ ty.rolls-Int) m)
      by y o m = tt

  pub keeps_larger : (a b : Ty) (next : Ty → Step) (none : Step) → (Sub (syntaxes il) b a → Keeps (next a)) → ((Sub (syntaxes il) b a → ⊥) → Sub (syntaxes il) a b → Keeps (next b)) → Keeps none → Keeps (larger a b next none)
  keeps_larger a b next none h k n = ((λ below. h below), (λ not_below. ((λ above. k not_below above), (λ _. n))))

  pub keeps_field : (at whole : Span) (name : List ℕ) (t : Ty) (next : Ty → Step) → ((x : Ty) → IsFieldOf (syntaxes il) name t x → Keeps (next x)) → Keeps (as_field (decls_of il vars relations) at whole name t next)
  keeps_field at whole name t next h = λ u m. by u m (fields_of (syntaxes il) u) refl
    where
      declared : (fields : List (Name × Ty)) → HasFields (syntaxes il) t fields → (o : Option Ty) → lookup (same_name name) fields ≡ o → Keeps (declared_field whole next o)
      declared fields has None is = tt
      declared fields has (Some x) is = h x (record { declared = fields; has = has; found = field_type-lookup name fields ∙ is })

      by : (u : Ty) → Means (syntaxes il) t u → (o : Option (List (List ℕ × Ty))) → fields_of (syntaxes il) u ≡ o → Keeps (field_by at whole name next o)
      by u m None e = tt
      by u m (Some fields) e = declared fields (record { structure = u; means = m; declared = e }) (lookup (same_name name) fields) refl

  pub keeps_shaped : (ts : List Ty) (next : List Shape → Step) → ((ss : List Shape) → HaveShapes (syntaxes il) ts ss → Keeps (next ss)) → Keeps (shaped ts next)
  keeps_shaped [] next h = h [] tt
  keeps_shaped (t ∷ ts) next h = λ u m. keeps_shaped ts (λ ss. next (shape_of u ∷ ss)) (λ ss shapes. h (shape_of u ∷ ss) ((u, m, refl), shapes))

  -- ---- injections

  module _ (w : Within) where
    -- what is found, at a type that is above its own
    pub keeps_raised : (m : Made) (t : Ty) (next : IlExp → Step) → Sub (syntaxes il) m.ty t → HasIn il vars relations S w (Exactly m.ty) m.exp
        → ((x : IlExp) → HasIn il vars relations S w (Equals il t) x → Keeps (next x)) → (total : (t : Ty) → (u : Ty) × Means (syntaxes il) t u) → Keeps (raised m t next)
    keeps_raised m t next below found h total = (
      (λ same. h m.exp (Has-equal il _ m.exp m.ty t same found)),
      (λ apart. h (exp.Up t m.exp) (Has-exactly il _ total (exp.Up t m.exp) t (Has-Up il _ m.exp m.ty t below apart found))),
    )
