-- What is derivable by a relation that is run step by step is a term again.
use Rattle.std.proofs.Common.{◌≡◌, sym, ◌∙◌, ap, subst, List, [], ◌∷◌, map, length, replicate, Bool, true, false, not, Option}
use Rattle.std.specs.Prelude.{IsSomeAnd, unwrap_or}
use Rattle.st_il.specs.declared.definition.RelationDef.{RelationDef}
use Rattle.st_il.specs.declared.definition.SyntaxDef.{SyntaxDef}
use Rattle.st_il.specs.declared.ty.Ty.{Ty}
use Rattle.st_il.specs.declared.value.Value.{Value}
use Rattle.st_type_table.specs.Same as same
use Rattle.st_type_table.specs.Same.{Same, SameAll}
use Rattle.st_type_table.proofs.UpLaws.{Same-up}
use Rattle.st_il.specs.Definitions.{syntaxes}
use Rattle.st_semantics.specs.Directions.{inputs_or_all, mask, inputs_by, outputs_by, inputs_of}
use Rattle.st_semantics.specs.Environments.{AreTypedValues}
use Rattle.st_semantics.specs.Laws.{LawOfTerms}
use Rattle.st_semantics.proofs.TypedTrees.{law_of_judgements}

module _ (defs : List SyntaxDef) where
  -- equality of types goes both ways
  mutual
    pub turned : {a b : Ty} → Same defs a b → Same defs b a
    turned (same.equal t p q) = same.equal t q p
    turned (same.list x y p q s) = same.list y x q p (turned s)
    turned (same.option x y p q s) = same.option y x q p (turned s)
    turned (same.tuple xs ys p q s) = same.tuple ys xs q p (all_turned s)

    all_turned : {xs ys : List Ty} → SameAll defs xs ys → SameAll defs ys xs
    all_turned same.none = same.none
    all_turned (same.more s rest) = same.more (turned s) (all_turned rest)

  -- values of types that are equal
  equal_types : {ts us : List Ty} → SameAll defs ts us → (vs : List Value) → AreTypedValues defs ts vs → AreTypedValues defs us vs
  equal_types same.none [] h = tt
  equal_types same.none (v ∷ vs) h = absurd h
  equal_types (same.more s rest) [] h = absurd h
  equal_types (same.more {x = x} {y = y} s rest) (v ∷ vs) h =
      (record { form = Same-up defs x y s v h.0.form; value = h.0.value; numbers = h.0.numbers }, equal_types rest vs h.1)

  -- those of some holes
  pub some_typed : (holes : List Bool) (ts : List Ty) (vs : List Value) → AreTypedValues defs ts vs → AreTypedValues defs (inputs_by holes ts) (inputs_by holes vs)
  some_typed [] ts vs h = tt
  some_typed (b ∷ holes) [] [] h = tt
  some_typed (b ∷ holes) [] (v ∷ vs) h = absurd h
  some_typed (b ∷ holes) (t ∷ ts) [] h = absurd h
  some_typed (true ∷ holes) (t ∷ ts) (v ∷ vs) h = (h.0, some_typed holes ts vs h.1)
  some_typed (false ∷ holes) (t ∷ ts) (v ∷ vs) h = some_typed holes ts vs h.1

pub law_of_terms : LawOfTerms
law_of_terms il results conclusions name declared found (inputs, directed, equal) term next from =
    let holes : mask il name ≡ inputs = ap inputs_or_all found ∙ ap (λ z. unwrap_or z (replicate (length declared.holes) true)) directed in
    let typed : AreTypedValues (syntaxes il) declared.holes from.values = law_of_judgements il results conclusions name from.values from.is_derived declared found in
    let outputs : AreTypedValues (syntaxes il) (outputs_by inputs declared.holes) (outputs_by (mask il name) from.values) =
    subst (λ z. AreTypedValues (syntaxes il) (outputs_by inputs declared.holes) (outputs_by z from.values)) (sym holes) (some_typed (syntaxes il) (map not inputs) declared.holes from.values typed) in
    let terms : AreTypedValues (syntaxes il) (inputs_by inputs declared.holes) next =
    subst (AreTypedValues (syntaxes il) (inputs_by inputs declared.holes)) from.outputs_are (equal_types (syntaxes il) (all_turned (syntaxes il) equal) (outputs_by (mask il name) from.values) outputs) in
    subst (λ (z : Option RelationDef). IsSomeAnd z (λ (r : RelationDef). AreTypedValues (syntaxes il) (inputs_of il name r.holes) next)) (sym found)
    (subst (λ z. AreTypedValues (syntaxes il) (inputs_by z declared.holes) next) (sym holes) terms)
