-- What has a typing in which no rule is broken has a form in all its parts.
use Rattle.std.proofs.Common.{◌≡◌, refl, sym, ap, ◌∙◌, subst, List, [], ◌∷◌, ◌++◌, map, length, suc, Option, inl, inr}
use Rattle.st_il.specs.declared.definition.Il.{Il}
use Rattle.st_il.specs.declared.definition.Listed.{Listed}
use Rattle.st_il.specs.declared.definition.SyntaxDef.{SyntaxDef}
use Rattle.st_il.specs.declared.expression.IlExp.{IlExp, out-IlExp}
use Rattle.st_il.specs.declared.expression.IlExp.TheOpen.{IlExp-F}
use Rattle.st_il.specs.declared.expression.IlPrem.{IlPrem}
use Rattle.st_il.specs.declared.ty.Ty.{Ty}
use Rattle.st_il.specs.declared.type_rule.TypeRule.{TypeRule}
use Rattle.st_il.specs.declared.value.Value.TheVariants as value
use Rattle.st_il.specs.Definitions.{syntaxes}
use Rattle.st_semantics.specs.Formed as formed
use Rattle.st_semantics.specs.Formed.{IsFormed, AreFormed, PremIsFormed}
use Rattle.st_semantics.specs.Forms.{form_at, operation_at, building, by_itself, structure, absent_list, absent_option}
use Rattle.st_semantics.specs.Iterations.{count_of}
use Rattle.st_semantics.specs.Operands.{operands_at, item_exp, segment_exps}
use Rattle.st_semantics.specs.OperationTypes.{Level}
use Rattle.st_semantics.specs.Parts.{constant}
use Rattle.st_semantics.specs.Scopes.{listed_inside}
use Rattle.st_ilcheck.specs.Parts.{Part, parts_at, standing}
use Rattle.st_ilcheck.specs.Rules.{Asks, IsListOrOption, Told}
use Rattle.st_ilcheck.specs.Typings.{HasTyping, HaveTypings, typing, none, more}
use Rattle.st_ilcheck.specs.Premises as premise
use Rattle.st_ilcheck.specs.Premises.{PremBreaks}
use Rattle.st_ilcheck.proofs.Each.{AreEach-length}

-- a rule that is not broken holds
pub Told-holds : (rule : TypeRule) (P : Type 0) (broken : List TypeRule) → Told rule P broken → broken ≡ [] → P
Told-holds rule P broken (inl h) e = h.0
Told-holds rule P broken (inr h) e = let bad : rule ∷ [] ≡ [] = sym h.1 ∙ e in absurd (cc)

-- where nothing is broken, nothing is in a part
pub none-left : (a b c : List TypeRule) → c ≡ a ++ b → c ≡ [] → a ≡ []
none-left [] b c w e = refl
none-left (r ∷ a) b c w e = let bad : r ∷ (a ++ b) ≡ [] = sym w ∙ e in absurd (cc)

pub none-right : (a b c : List TypeRule) → c ≡ a ++ b → c ≡ [] → b ≡ []
none-right [] b c w e = sym w ∙ e
none-right (r ∷ a) b c w e = let bad : r ∷ (a ++ b) ≡ [] = sym w ∙ e in absurd (cc)

-- the expressions of some parts
abbrev pub exps_in : List Part → List IlExp
exps_in ps = map (λ (p : Part). p.1) ps

exps_in-standing : (ls : List Listed) (es : List IlExp) → exps_in (standing ls es) ≡ es
exps_in-standing ls [] = refl
exps_in-standing ls (e ∷ es) = ap (λ z. e ∷ z) (exps_in-standing ls es)

exps_in-append : (ps qs : List Part) → exps_in (ps ++ qs) ≡ exps_in ps ++ exps_in qs
exps_in-append [] qs = refl
exps_in-append (p ∷ ps) qs = ap (λ z. p.1 ∷ z) (exps_in-append ps qs)

length-standing : (ls : List Listed) (es : List IlExp) → length (standing ls es) ≡ length es
length-standing ls [] = refl
length-standing ls (e ∷ es) = ap suc (length-standing ls es)

module _ (defs : List SyntaxDef) where
  AreFormed-split : (es gs : List IlExp) → AreFormed defs (es ++ gs) → AreFormed defs es × AreFormed defs gs
  AreFormed-split [] gs h = (formed.none, h)
  AreFormed-split (e ∷ es) gs (formed.more h hs) = let r = AreFormed-split es gs hs in (formed.more h r.0, r.1)

  AreFormed-first : (e : IlExp) (es : List IlExp) → AreFormed defs (e ∷ es) → IsFormed defs e
  AreFormed-first e es (formed.more h hs) = h

  standing_formed : (ls : List Listed) (es : List IlExp) → AreFormed defs (exps_in (standing ls es)) → AreFormed defs es
  standing_formed ls es h = subst (AreFormed defs) (exps_in-standing ls es) h

  absent_formed : (e : IlExp) (t : Ty) → out-IlExp e ≡ IlExp-F.Absent t → IsListOrOption defs t → IsFormed defs e
  absent_formed e t is (inl h) = formed.strict [] (constant (value.List [])) (absent_list t h.0 is h.1 refl) formed.none
  absent_formed e t is (inr h) = formed.strict [] (constant (value.Opt Option.None)) (absent_option t h.0 is h.1 refl) formed.none

module _ (il : Il) where
  HaveTypings-length : {ps : List Part} {os : List (Option Ty)} {bs : List TypeRule} → HaveTypings il ps os bs → length ps ≡ length os
  HaveTypings-length none = refl
  HaveTypings-length (more first rest t h w) = ap suc (HaveTypings-length h)

  formed_level : (ls : List Listed) (e : IlExp) (y : Level) → out-IlExp e ≡ y → (os : List (Option Ty)) → length (parts_at ls y) ≡ length os → Asks il y os → AreFormed (syntaxes il) (exps_in (parts_at ls y)) → IsFormed (syntaxes il) e
  formed_level ls e (IlExp-F.Var x) is os long asks parts = formed.variable x (by_itself (ap form_at is))
  formed_level ls e (IlExp-F.Call fun es) is os long asks parts = formed.call fun es (by_itself (ap form_at is)) (standing_formed (syntaxes il) ls es parts)
  formed_level ls e (IlExp-F.Iter how xs body) is os long asks parts =
      let both = AreFormed-split (syntaxes il) (exps_in (standing ls (count_of how))) (body ∷ []) (subst (AreFormed (syntaxes il)) (exps_in-append (standing ls (count_of how)) ((listed_inside how xs ls, body) ∷ [])) parts) in
      formed.iteration how xs body (by_itself (ap form_at is)) (standing_formed (syntaxes il) ls (count_of how) both.0) (AreFormed-first (syntaxes il) body [] both.1)
  formed_level ls e (IlExp-F.Fields type es) is os long asks parts =
      formed.strict es (building asks.declared) (structure type es asks.declared is asks.has (sym (length-standing ls es) ∙ (long ∙ sym (AreEach-length _ asks.declared os asks.typed))) refl)
      (standing_formed (syntaxes il) ls es parts)
  formed_level ls e (IlExp-F.Absent t) is os long asks parts = absent_formed (syntaxes il) e t is asks
  formed_level ls e y is os long asks parts =
      formed.strict (operands_at item_exp segment_exps y) (operation_at y) (by_itself (ap form_at is)) (standing_formed (syntaxes il) ls (operands_at item_exp segment_exps y) parts)

  mutual
    pub IsFormed-typed : {ls : List Listed} {e : IlExp} {o : Option Ty} {bs : List TypeRule} → HasTyping il ls e o bs → bs ≡ [] → IsFormed (syntaxes il) e
    IsFormed-typed {ls = ls} {e = e} (typing os inside here hs from broken whole) clean =
        formed_level ls e (out-IlExp e) refl os (HaveTypings-length hs)
        (Told-holds _ _ broken.by_form broken.form (none-left broken.by_form (broken.by_path ++ broken.by_names) here broken.whole (none-right inside here _ whole clean)))
        (AreFormed-typed hs (none-left inside here _ whole clean))

    pub AreFormed-typed : {ps : List Part} {os : List (Option Ty)} {bs : List TypeRule} → HaveTypings il ps os bs → bs ≡ [] → AreFormed (syntaxes il) (exps_in ps)
    AreFormed-typed none clean = formed.none
    AreFormed-typed (more first rest t h whole) clean = formed.more (IsFormed-typed t (none-left first rest _ whole clean)) (AreFormed-typed h (none-right first rest _ whole clean))

  -- expressions that stand in one scope
  pub AreFormed-standing : (ls : List Listed) (es : List IlExp) {os : List (Option Ty)} {bs : List TypeRule} → HaveTypings il (standing ls es) os bs → bs ≡ [] → AreFormed (syntaxes il) es
  AreFormed-standing ls es h clean = standing_formed (syntaxes il) ls es (AreFormed-typed h clean)

  -- a premise in which no rule is broken
  pub PremIsFormed-typed : {ls : List Listed} {p : IlPrem} {bs : List TypeRule} → PremBreaks il ls p bs → bs ≡ [] → PremIsFormed (syntaxes il) p
  PremIsFormed-typed (premise.PremBreaks.condition e o inside here is h t whole) clean = formed.condition e is (IsFormed-typed h (none-left inside here _ whole clean))
  PremIsFormed-typed {ls = ls} (premise.PremBreaks.goal relation es os inside here is h t whole) clean = formed.goal relation es is (AreFormed-standing ls es h (none-left inside here _ whole clean))
  PremIsFormed-typed (premise.PremBreaks.otherwise is whole) clean = formed.otherwise is
  PremIsFormed-typed {ls = ls} (premise.PremBreaks.each how xs body os counted here named inside is hs t n h whole) clean =
      let rest = none-right counted (here ++ (named ++ inside)) _ whole clean in
      formed.each how xs body is (AreFormed-standing ls (count_of how) hs (none-left counted (here ++ (named ++ inside)) _ whole clean))
      (PremIsFormed-typed h (none-right named inside _ refl (none-right here (named ++ inside) _ refl rest)))
