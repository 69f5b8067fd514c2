-- What is asked of a case, a record, a call and a judgement, by what is declared of it.
use Rattle.std.proofs.Common.{◌≡◌, ◌↔◌, sym, ap, ◌∙◌, subst, List, Bool, Option, Some, None}
use Rattle.std.specs.Prelude.{IsTrue}
use Rattle.st_il.specs.declared.definition.FunDef.{FunDef}
use Rattle.st_il.specs.declared.definition.Il.{Il}
use Rattle.st_il.specs.declared.definition.RelationDef.{RelationDef}
use Rattle.st_il.specs.declared.definition.SyntaxDef.{SyntaxDef}
use Rattle.st_il.specs.declared.ty.Ty.{Ty}
use Rattle.st_type_table.specs.Cases.{HasFields, operands_of}
use Rattle.st_type_table.proofs.CasesLemmas.{HasCases-single, HasFields-single}
use Rattle.st_type_table.specs.inner.TypedLevels.{HasOperands}
use Rattle.st_il.specs.Names.{Name}
use Rattle.st_il.specs.Definitions.{syntaxes, relation_named}
use Rattle.st_semantics.specs.Typing.{function_named}
use Rattle.st_ilcheck.specs.Rules.{Is, Are, AreEach, IsCaseOf, IsRecordOf, IsCallOf}
use Rattle.st_ilcheck.specs.Premises.{IsJudgementOf}
use Rattle.st_ilcheck.specs.Definitions.{IsResultOf}

some_one : {A : Type 0} {x y : A} → Some x ≡ Some y → x ≡ y
some_one e = cc

module _ (defs : List SyntaxDef) (t : Ty) (tag : Name) (os : List (Option Ty)) where
  pub case-kept : (operands : List Ty) (kept : Bool) → HasOperands defs t tag operands → (IsTrue kept ↔ Are defs operands os) → IsTrue kept ↔ IsCaseOf defs t tag os
  case-kept operands kept has h = (
    λ y. record { cases = has.cases; operands = operands; has = has.has; found = has.found; typed = h.0 y },
    λ k. h.1 (subst (λ z. Are defs z os) (some_one (sym k.found ∙ (ap (λ cs. operands_of cs tag) (HasCases-single defs t k.cases has.cases k.has has.has) ∙ has.found))) k.typed),
  )

  pub case-none : ((operands : List Ty) → HasOperands defs t tag operands → ⊥) → IsCaseOf defs t tag os → ⊥
  case-none n k = n k.operands (record { cases = k.cases; has = k.has; found = k.found })

module _ (defs : List SyntaxDef) (t : Ty) (os : List (Option Ty)) where
  pub record-kept : (fields : List (Name × Ty)) (kept : Bool) → HasFields defs t fields → (IsTrue kept ↔ AreEach (λ (d : Name × Ty) o. Is defs o d.1) fields os) → IsTrue kept ↔ IsRecordOf defs t os
  record-kept fields kept has h = (
    λ y. record { declared = fields; has = has; typed = h.0 y },
    λ k. h.1 (subst (λ z. AreEach (λ (d : Name × Ty) o. Is defs o d.1) z os) (HasFields-single defs t k.declared fields k.has has) k.typed),
  )

  pub record-none : ((fields : List (Name × Ty)) → HasFields defs t fields → ⊥) → IsRecordOf defs t os → ⊥
  record-none n k = n k.declared k.has

module _ (il : Il) (fun : Name) where
  pub call-kept : (os : List (Option Ty)) (declared : FunDef) (kept : Bool) → Some declared ≡ function_named il fun → (IsTrue kept ↔ Are (syntaxes il) declared.params os) → IsTrue kept ↔ IsCallOf il fun os
  call-kept os declared kept e h = (
    λ y. record { declared = declared; found = sym e; typed = h.0 y },
    λ k. h.1 (subst (λ (z : FunDef). Are (syntaxes il) z.params os) (sym (some_one (e ∙ k.found))) k.typed),
  )

  pub call-none : (os : List (Option Ty)) → None ≡ function_named il fun → IsCallOf il fun os → ⊥
  call-none os e k = let bad : None ≡ Some k.declared = e ∙ k.found in cc

  pub result-kept : (o : Option Ty) (declared : FunDef) (kept : Bool) → Some declared ≡ function_named il fun → (IsTrue kept ↔ Is (syntaxes il) o declared.result) → IsTrue kept ↔ IsResultOf il fun o
  result-kept o declared kept e h = (
    λ y. record { declared = declared; found = sym e; typed = h.0 y },
    λ k. h.1 (subst (λ (z : FunDef). Is (syntaxes il) o z.result) (sym (some_one (e ∙ k.found))) k.typed),
  )

  pub result-none : (o : Option Ty) → None ≡ function_named il fun → IsResultOf il fun o → ⊥
  result-none o e k = let bad : None ≡ Some k.declared = e ∙ k.found in cc

module _ (il : Il) (relation : Name) (os : List (Option Ty)) where
  pub judgement-kept : (declared : RelationDef) (kept : Bool) → Some declared ≡ relation_named il relation → (IsTrue kept ↔ Are (syntaxes il) declared.holes os) → IsTrue kept ↔ IsJudgementOf il relation os
  judgement-kept declared kept e h = (
    λ y. record { declared = declared; found = sym e; typed = h.0 y },
    λ k. h.1 (subst (λ (z : RelationDef). Are (syntaxes il) z.holes os) (sym (some_one (e ∙ k.found))) k.typed),
  )

  pub judgement-none : None ≡ relation_named il relation → IsJudgementOf il relation os → ⊥
  judgement-none e k = let bad : None ≡ Some k.declared = e ∙ k.found in cc
