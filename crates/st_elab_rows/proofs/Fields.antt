-- The fields of a type are those of what it means.
use Rattle.std.proofs.Common.{◌≡◌, refl, subst, ℕ, List, Some, None}
use Rattle.st_il.specs.declared.ty.Ty.{Ty}
use Rattle.st_il.specs.declared.definition.SyntaxDef.{SyntaxDef}
use Rattle.st_type_table.specs.Meaning.{alias_of, fields_of, Means, itself, alias}
use Rattle.st_type_table.specs.Cases.{HasFields}
use Rattle.st_type_table.proofs.MeansLemmas.{Means-single}

-- what a type means is no alias
Means-ends : (defs : List SyntaxDef) (t u : Ty) → Means defs t u → alias_of defs u ≡ None
Means-ends defs t u (itself n e) = subst (λ z. alias_of defs z ≡ None) e n
Means-ends defs t u (alias v e m) = Means-ends defs v u m

pub fields_meant : (defs : List SyntaxDef) (t u : Ty) (fields : List (List ℕ × Ty)) → Means defs t u → HasFields defs u fields → HasFields defs t fields
fields_meant defs t u fields m h =
    let same : h.structure ≡ u = Means-single defs u h.structure u h.means (itself (Means-ends defs t u m) refl) in
    record { structure = u; means = m; declared = subst (λ z. fields_of defs z ≡ Some fields) same h.declared }

pub no_fields_meant : (defs : List SyntaxDef) (t u : Ty) → Means defs t u → ((fields : List (List ℕ × Ty)) → HasFields defs u fields → ⊥)
    → (fields : List (List ℕ × Ty)) → HasFields defs t fields → ⊥
no_fields_meant defs t u m none fields h =
    let same : h.structure ≡ u = Means-single defs t h.structure u h.means m in
    none fields (record { structure = u; means = itself (Means-ends defs t u m) refl; declared = subst (λ z. fields_of defs z ≡ Some fields) same h.declared })
