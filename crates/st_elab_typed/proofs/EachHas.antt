-- Expressions that have types one by one: the parts of tuples, calls, records and cases.
use Rattle.std.proofs.Common.{◌≡◌, refl, sym, ap, List, [], ◌∷◌, map, Option, Some}
use Rattle.std.specs.Option.{option_map}
use Rattle.st_il.specs.declared.definition.Il.{Il}
use Rattle.st_il.specs.declared.definition.Listed.{Listed}
use Rattle.st_il.specs.declared.definition.FunDef.{FunDef}
use Rattle.st_il.specs.declared.definition.SyntaxDef.{SyntaxDef}
use Rattle.st_il.specs.declared.expression.IlExp.{IlExp}
use Rattle.st_il.specs.declared.expression.IlExp.TheVariants as exp
use Rattle.st_il.specs.declared.ty.Ty.{Ty}
use Rattle.st_il.specs.declared.ty.Ty.TheVariants as ty
use Rattle.st_type_table.specs.declared.entry.CaseDef.{CaseDef}
use Rattle.st_type_table.specs.Meaning.{Means}
use Rattle.st_type_table.specs.Cases.{HasCases, HasFields, operands_of}
use Rattle.st_type_table.specs.Same.{SameAll}
use Rattle.st_il.specs.Names.{Name}
use Rattle.st_il.specs.Definitions.{syntaxes}
use Rattle.st_semantics.specs.Typing.{function_named}
use Rattle.st_ilcheck.specs.FoundTypes.{all_types, before_types}
use Rattle.st_ilcheck.specs.Parts.{standing}
use Rattle.st_ilcheck.specs.Rules.{Is, Are, AreEach, AllTyped}
use Rattle.st_ilcheck.specs.Typings.{HaveTypings, none}
use Rattle.st_elab_typed.specs.inner.IsPlaced.{ArePlaced}
use Rattle.st_elab_typed.proofs.IsPlacedLemmas.{IsPlaced-at, ArePlaced-first}
use Rattle.st_elab_typed.proofs.SameLemmas.{Same-Tuple}
use Rattle.st_elab_typed.proofs.HasTypingLemmas.{HasTyping-made, HaveTypings-more}
use Rattle.st_elab_typed.proofs.Claims.{Has, Equals, Exactly}

-- several types are found
abbrev pub found_all : List Ty → List (Option Ty)
found_all ts = map Some ts

all_types-found : (ts : List Ty) → all_types (found_all ts) ≡ Some ts
all_types-found [] = refl
all_types-found (t ∷ ts) = ap (before_types (Some t)) (all_types-found ts)

module _ (defs : List SyntaxDef) where
  AllTyped-found : (ts : List Ty) → AllTyped defs (found_all ts)
  AllTyped-found [] = tt
  AllTyped-found (t ∷ ts) = AllTyped-found ts

  pub Are-found : (os ts : List Ty) → SameAll defs os ts → Are defs ts (found_all os)
  Are-found [] [] s = tt
  Are-found [] (t ∷ ts) s = elim s [ ]
  Are-found (o ∷ os) [] s = elim s [ ]
  Are-found (o ∷ os) (t ∷ ts) (SameAll.more s r) = (s, Are-found os ts r)

  fields_found : (os : List Ty) (declared : List (Name × Ty)) → SameAll defs os (map (λ (d : Name × Ty). d.1) declared) → AreEach (λ (d : Name × Ty) o. Is defs o d.1) declared (found_all os)
  fields_found [] [] s = tt
  fields_found [] (d ∷ ds) s = elim s [ ]
  fields_found (o ∷ os) [] s = elim s [ ]
  fields_found (o ∷ os) (d ∷ ds) (SameAll.more s r) = (s, fields_found os ds r)

module _ (il : Il) (Ok : List Listed → Type 0) where
  -- there is an expression for each of these types, and has a type that is equal to it
  abbrev pub EachHas : List IlExp → List Ty → Type 0
  EachHas [] [] = Unit {0}
  EachHas [] (t ∷ ts) = ⊥
  EachHas (e ∷ es) [] = ⊥
  EachHas (e ∷ es) (t ∷ ts) = Has il Ok (Equals il t) e × EachHas es ts

  -- and has exactly that type
  abbrev pub EachIs : List IlExp → List Ty → Type 0
  EachIs [] [] = Unit {0}
  EachIs [] (t ∷ ts) = ⊥
  EachIs (e ∷ es) [] = ⊥
  EachIs (e ∷ es) (t ∷ ts) = Has il Ok (Exactly t) e × EachIs es ts

  -- several expressions have types of which this holds
  pub record TypedAs (ls : List Listed) (es : List IlExp) (P : List Ty → Type 0) : Type 0 where
    pub os : List Ty
    pub typings : HaveTypings il (standing ls es) (found_all os) []
    pub holds : P os

  pub each_typed : (ls : List Listed) (es : List IlExp) (ts : List Ty) → Ok ls → ArePlaced (standing ls es) → EachHas es ts → TypedAs ls es (λ os. SameAll (syntaxes il) os ts)
  each_typed ls [] [] ok k h = record { os = []; typings = none; holds = SameAll.none }
  each_typed ls [] (t ∷ ts) ok k h = absurd h
  each_typed ls (e ∷ es) [] ok k h = absurd h
  each_typed ls (e ∷ es) (t ∷ ts) ok k h =
      let n = ArePlaced-first (ls, e) (standing ls es) k in
      let r = h.0 ls ok n.0 in
      let rest = each_typed ls es ts ok n.1 h.1 in
      record { os = r.0 ∷ rest.os; typings = HaveTypings-more il (ls, e) (standing ls es) (Some r.0) (found_all rest.os) r.1.0 rest.typings; holds = SameAll.more r.1.1 rest.holds }

  each_exact : (ls : List Listed) (es : List IlExp) (ts : List Ty) → Ok ls → ArePlaced (standing ls es) → EachIs es ts → TypedAs ls es (λ os. os ≡ ts)
  each_exact ls [] [] ok k h = record { os = []; typings = none; holds = refl }
  each_exact ls [] (t ∷ ts) ok k h = absurd h
  each_exact ls (e ∷ es) [] ok k h = absurd h
  each_exact ls (e ∷ es) (t ∷ ts) ok k h =
      let n = ArePlaced-first (ls, e) (standing ls es) k in
      let r = h.0 ls ok n.0 in
      let rest = each_exact ls es ts ok n.1 h.1 in
      record { os = r.0 ∷ rest.os; typings = HaveTypings-more il (ls, e) (standing ls es) (Some r.0) (found_all rest.os) r.1.0 rest.typings; holds = λ i. r.1.1 i ∷ rest.holds i }

  -- ---- tuples

  pub Has-Tuple : (es : List IlExp) (ts : List Ty) (t : Ty) → Means (syntaxes il) t (ty.Tuple ts) → EachHas es ts → Has il Ok (Equals il t) (exp.Tuple es)
  Has-Tuple es ts t means h ls ok k =
      let r = each_typed ls es ts ok (IsPlaced-at ls (exp.Tuple es) _ (exp.outs-Tuple es) k).parts h in (
        ty.Tuple r.os,
        (
          HasTyping-made il ls (exp.Tuple es) _ (exp.outs-Tuple es) (found_all r.os) r.typings (Some (ty.Tuple r.os)) (sym (ap (option_map ty.Tuple) (all_types-found r.os))) (AllTyped-found (syntaxes il) r.os) tt refl,
          Same-Tuple (syntaxes il) r.os ts t means r.holds,
        ),
      )

  pub Has-Tuple_exact : (es : List IlExp) (ts : List Ty) → EachIs es ts → Has il Ok (Exactly (ty.Tuple ts)) (exp.Tuple es)
  Has-Tuple_exact es ts h ls ok k =
      let r = each_exact ls es ts ok (IsPlaced-at ls (exp.Tuple es) _ (exp.outs-Tuple es) k).parts h in (
        ty.Tuple r.os,
        (
          HasTyping-made il ls (exp.Tuple es) _ (exp.outs-Tuple es) (found_all r.os) r.typings (Some (ty.Tuple r.os)) (sym (ap (option_map ty.Tuple) (all_types-found r.os))) (AllTyped-found (syntaxes il) r.os) tt refl,
          ap ty.Tuple r.holds,
        ),
      )

  -- ---- calls

  pub Has-Call : (name : Name) (es : List IlExp) (f : FunDef) → function_named il name ≡ Some f → EachHas es f.params → Has il Ok (Exactly f.result) (exp.Call name es)
  Has-Call name es f is h ls ok k =
      let r = each_typed ls es f.params ok (IsPlaced-at ls (exp.Call name es) _ (exp.outs-Call name es) k).parts h in (
        f.result,
        (
          HasTyping-made il ls (exp.Call name es) _ (exp.outs-Call name es) (found_all r.os) r.typings (Some f.result) (sym (ap (option_map (λ (g : FunDef). g.result)) is))
              (record { declared = f; found = is; typed = Are-found (syntaxes il) r.os f.params r.holds }) tt refl,
          refl,
        ),
      )

  -- ---- records and cases

  pub Has-Fields : (name : Name) (es : List IlExp) (declared : List (Name × Ty)) → HasFields (syntaxes il) (ty.Name name) declared → EachHas es (map (λ (d : Name × Ty). d.1) declared)
      → Has il Ok (Exactly (ty.Name name)) (exp.Fields name es)
  Has-Fields name es declared has h ls ok k =
      let r = each_typed ls es (map (λ (d : Name × Ty). d.1) declared) ok (IsPlaced-at ls (exp.Fields name es) _ (exp.outs-Fields name es) k).parts h in (
        ty.Name name,
        (
          HasTyping-made il ls (exp.Fields name es) _ (exp.outs-Fields name es) (found_all r.os) r.typings (Some (ty.Name name)) refl
              (record { declared = declared; has = has; typed = fields_found (syntaxes il) r.os declared r.holds }) tt refl,
          refl,
        ),
      )

  pub Has-Case : (name tag : Name) (es : List IlExp) (cases : List CaseDef) (operands : List Ty) → HasCases (syntaxes il) (ty.Name name) cases → operands_of cases tag ≡ Some operands → EachHas es operands
      → Has il Ok (Exactly (ty.Name name)) (exp.Case name tag es)
  Has-Case name tag es cases operands has found h ls ok k =
      let r = each_typed ls es operands ok (IsPlaced-at ls (exp.Case name tag es) _ (exp.outs-Case name tag es) k).parts h in (
        ty.Name name,
        (
          HasTyping-made il ls (exp.Case name tag es) _ (exp.outs-Case name tag es) (found_all r.os) r.typings (Some (ty.Name name)) refl
              (record { cases = cases; operands = operands; has = has; found = found; typed = Are-found (syntaxes il) r.os operands r.holds }) tt refl,
          refl,
        ),
      )
