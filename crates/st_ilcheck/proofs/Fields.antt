-- The type of a field, by the fields of its record.
use Rattle.std.proofs.Common.{◌≡◌, sym, ap, ◌∙◌, List, Option, Some, None}
use Rattle.std.specs.Prelude.{MatchOption}
use Rattle.std.specs.Borrow.{Bor}
use Rattle.std.specs.Option.{option_copied}
use Rattle.st_il.specs.declared.definition.SyntaxDef.{SyntaxDef}
use Rattle.st_il.specs.declared.ty.Ty.{Ty}
use Rattle.st_type_table.specs.Cases.{HasFields}
use Rattle.st_type_table.proofs.CasesLemmas.{HasFields-single}
use Rattle.st_il.specs.Names.{Name}
use Rattle.st_semantics.specs.OperationTypes.{field_type}
use Rattle.st_ilcheck.specs.FoundTypes.{IsFieldOf}

pub field-found : (defs : List SyntaxDef) (name : Name) (t : Ty) (fields : List (Name × Ty)) (o : Option (Bor Ty)) → HasFields defs t fields → option_copied o ≡ field_type name fields
    → MatchOption o ((u : Ty) → IsFieldOf defs name t u → ⊥) (λ u. IsFieldOf defs name t u.now)
field-found defs name t fields None has e = λ u h.
    let same = HasFields-single defs t fields h.declared has h.has in
    let bad : None ≡ Some u = e ∙ (ap (field_type name) same ∙ h.found) in cc
field-found defs name t fields (Some u) has e = record { declared = fields; has = has; found = sym e }
