-- Typings, and what is broken, made of those of the parts.
use Rattle.std.proofs.Common.{◌≡◌, ◌↔◌, ℕ, ◌+◌, ◌<◌, ◌≤◌, refl, sym, ap, ap₂, ◌∙◌, subst, List, [], ◌∷◌, ◌++◌, Bool, true, false, true≢false, Option, Some, None, inl, inr, length, drop, get_or, append_assoc, append-nil}
use Rattle.std.specs.Prelude.{IsTrue, MatchOption, if◌then◌else◌}
use Rattle.std.specs.Borrow.{Bor}
use Rattle.std.specs.Option.{option_copied}
use Rattle.std.proofs.lemmas.List.{drop_all}
use Rattle.st_il.specs.declared.definition.Il.{Il}
use Rattle.st_il.specs.declared.definition.Listed.{Listed}
use Rattle.st_il.specs.declared.expression.IlExp.{IlExp, out-IlExp, roll-IlExp, roll-out-IlExp}
use Rattle.st_il.specs.declared.expression.IlExp.TheOpen.{IlExp-F}
use Rattle.st_il.specs.declared.expression.IlExp.TheVariants as exp
use Rattle.st_il.specs.declared.expression.Iteration.{Iteration}
use Rattle.st_il.specs.declared.ty.Ty.{Ty}
use Rattle.st_il.specs.declared.type_rule.TypeRule.{TypeRule}
use Rattle.st_il.specs.declared.type_rule.TypeRule.TheVariants.{T11, T14}
use Rattle.st_il.specs.Names.{Name}
use Rattle.st_il.specs.Definitions.{syntaxes}
use Rattle.st_semantics.specs.Iterations.{count_of}
use Rattle.st_semantics.specs.Operands.{operands_at, item_exp, segment_exps}
use Rattle.st_semantics.specs.OperationTypes.{Level}
use Rattle.st_semantics.specs.Scopes.{listed_inside}
use Rattle.st_ilcheck.specs.FoundTypes.{origin, TypeFrom, Chosen}
use Rattle.st_ilcheck.specs.Naming.{names_kept}
use Rattle.st_ilcheck.specs.Parts.{Part, parts_at, parts_of, standing}
use Rattle.st_ilcheck.specs.Rules.{Asks, AsksOfPath, rule_of, Told}
use Rattle.st_ilcheck.specs.Typings.{HasTyping, HaveTypings, BreaksHere, typing, none, more}
use Rattle.st_ilcheck.specs.inner.Operators.{AsksParts}
use Rattle.st_semantics.specs.References.{exps_now}
use Rattle.st_ilcheck.proofs.Drops.{from}

-- what was chosen, copied
pub chosen-copied : (P : Ty → Type 0) (o : Option (Bor Ty)) (copy : Option Ty) → MatchOption o ((u : Ty) → P u → ⊥) (λ u. P u.now) → copy ≡ option_copied o → Chosen P copy
chosen-copied P None copy h e = subst (Chosen P) (sym e) h
chosen-copied P (Some u) copy h e = subst (Chosen P) (sym e) h

-- a rule is told by whether it is kept
pub told-kept : (rule : TypeRule) (P : Type 0) (kept : Bool) → (IsTrue kept ↔ P) → Told rule P (if kept then [] else rule ∷ [])
told-kept rule P true h = inl (h.0 refl, refl)
told-kept rule P false h = inr (λ p. true≢false (sym (h.1 p)), refl)

pub told-by : (rule : TypeRule) (kept test : Bool) → kept ≡ test → Told rule (IsTrue test) (if kept then [] else rule ∷ [])
told-by rule kept test e = told-kept rule (IsTrue test) kept (λ h. sym e ∙ h, λ h. e ∙ h)

-- what an expression breaks by itself
pub here-breaks : (il : Il) (ls : List Listed) (y : Level) (os : List (Option Ty)) (f p n : Bool) (rule : TypeRule) (none' one two three : List TypeRule)
    → (IsTrue f ↔ Asks il y os) → (IsTrue p ↔ AsksOfPath (syntaxes il) y os) → n ≡ names_kept ls y → rule ≡ rule_of y
    → none' ≡ [] → one ≡ none' ++ (if f then [] else rule ∷ []) → two ≡ one ++ (if p then [] else T11 ∷ []) → three ≡ two ++ (if n then [] else T14 ∷ []) → BreaksHere il ls y os three
here-breaks il ls y os f p n rule none' one two three form path names is e a b c = record {
  by_form = if f then [] else rule ∷ [];
  by_path = if p then [] else T11 ∷ [];
  by_names = if n then [] else T14 ∷ [];
  form = subst (λ z. Told z (Asks il y os) (if f then [] else rule ∷ [])) is (told-kept rule (Asks il y os) f form);
  path = told-kept T11 (AsksOfPath (syntaxes il) y os) p path;
  names = told-by T14 n (names_kept ls y) names;
  whole = c ∙ (ap (λ z. z ++ (if n then [] else T14 ∷ [])) (b ∙ ap (λ z. z ++ (if p then [] else T11 ∷ [])) (a ∙ ap (λ z. z ++ (if f then [] else rule ∷ [])) e))
      ∙ append_assoc (if f then [] else rule ∷ []) (if p then [] else T11 ∷ []) (if n then [] else T14 ∷ []));
}

-- ---- levels

pub asks-parts : (il : Il) (y : Level) (os : List (Option Ty)) → ((type tag : Name) (es : List IlExp) → y ≡ IlExp-F.Case type tag es → ⊥) → ((type : Name) (es : List IlExp) → y ≡ IlExp-F.Fields type es → ⊥)
    → ((fun : Name) (es : List IlExp) → y ≡ IlExp-F.Call fun es → ⊥) → AsksParts il y os ↔ Asks il y os
asks-parts il (IlExp-F.Case type tag es) os a b c = absurd (a type tag es refl)
asks-parts il (IlExp-F.Fields type es) os a b c = absurd (b type es refl)
asks-parts il (IlExp-F.Call fun es) os a b c = absurd (c fun es refl)
asks-parts il _ os a b c = (λ h. h, λ h. h)

pub parts-iterated : (ls : List Listed) (e : IlExp) (how : Iteration) (xs ns : List Name) (body b : IlExp) → e ≡ exp.Iter how xs body → ns ≡ xs → b ≡ body
    → standing ls (count_of how) ++ (listed_inside how ns ls, b) ∷ [] ≡ parts_of ls e
parts-iterated ls e how xs ns body b is p q =
    ap₂ (λ (z : List Name) (d : IlExp). standing ls (count_of how) ++ (listed_inside how z ls, d) ∷ []) p q ∙ sym (ap (parts_at ls) (ap out-IlExp is ∙ exp.outs-Iter how xs body))

plain-at : (ls : List Listed) (y : Level) → ((how : Iteration) (xs : List Name) (body : IlExp) → y ≡ IlExp-F.Iter how xs body → ⊥) → parts_at ls y ≡ standing ls (operands_at item_exp segment_exps y)
plain-at ls (IlExp-F.Iter how xs body) n = absurd (n how xs body refl)
plain-at ls _ n = refl

pub parts-plain : (ls : List Listed) (e : IlExp) → ((how : Iteration) (xs : List Name) (body : IlExp) → e ≡ exp.Iter how xs body → ⊥)
    → standing ls (operands_at item_exp segment_exps (out-IlExp e)) ≡ parts_of ls e
parts-plain ls e n = sym (plain-at ls (out-IlExp e) (λ how xs body is. n how xs body (sym (roll-out-IlExp e) ∙ (ap roll-IlExp is ∙ exp.rolls-Iter how xs body))))

-- ---- typings

module _ (il : Il) where
  pub typing-made : (ls : List Listed) (e : IlExp) (os us vs : List (Option Ty)) (o : Option Ty) (inside here all : List TypeRule) → HaveTypings il (parts_of ls e) os inside
      → us ≡ os → TypeFrom (syntaxes il) (origin il ls (out-IlExp e)) us o → vs ≡ os → BreaksHere il ls (out-IlExp e) vs here → all ≡ inside ++ here → HasTyping il ls e o all
  typing-made ls e os us vs o inside here all parts a found b breaks whole =
      typing os inside here parts (subst (λ z. TypeFrom (syntaxes il) (origin il ls (out-IlExp e)) z o) a found)
      (subst (λ z. BreaksHere il ls (out-IlExp e) z here) b breaks) whole

  pub typings-moved : {ps qs : List Part} {os : List (Option Ty)} {bs : List TypeRule} → ps ≡ qs → HaveTypings il ps os bs → HaveTypings il qs os bs
  typings-moved {os = os} {bs = bs} e h = subst (λ z. HaveTypings il z os bs) e h

  pub typings-join : {ps : List Part} {os : List (Option Ty)} {bs : List TypeRule} → HaveTypings il ps os bs → (ls : List Listed) (e : IlExp) (o : Option Ty) (first : List TypeRule)
      → HasTyping il ls e o first → HaveTypings il (ps ++ (ls, e) ∷ []) (os ++ o ∷ []) (bs ++ first)
  typings-join none ls e o first t = more first [] t none (sym (append-nil first))
  typings-join (more before rest h hs w) ls e o first t =
      more before (rest ++ first) h (typings-join hs ls e o first t) (ap (λ z. z ++ first) w ∙ append_assoc before rest first)

  pub iterated-made : (ls inner given : List Listed) (count es : List IlExp) (body : IlExp) (os types : List (Option Ty)) (o : Option Ty) (bs first all : List TypeRule) → es ≡ count → given ≡ inner
      → HaveTypings il (standing ls es) os bs → HasTyping il given body o first → types ≡ os ++ o ∷ [] → all ≡ bs ++ first → HaveTypings il (standing ls count ++ (inner, body) ∷ []) types all
  iterated-made ls inner given count es body os types o bs first all p q hs t a b =
      let counted : HaveTypings il (standing ls count) os bs = subst (λ z. HaveTypings il (standing ls z) os bs) p hs in
      let whole = typings-join counted inner body o first (subst (λ z. HasTyping il z body o first) q t) in
      subst (λ z. HaveTypings il (standing ls count ++ (inner, body) ∷ []) types z) (sym b) (subst (λ z. HaveTypings il (standing ls count ++ (inner, body) ∷ []) z (bs ++ first)) (sym a) whole)

  module _ (ls : List Listed) (es : List (Bor IlExp)) (i : ℕ) (types : List (Option Ty)) (broken : List TypeRule)
      (so_far : (os : List (Option Ty)) (bs : List TypeRule) → HaveTypings il (standing ls (exps_now (drop i es))) os bs → HaveTypings il (standing ls (exps_now es)) (types ++ os) (broken ++ bs)) where
    pub typings-next : (x : Bor IlExp) (o : Option Ty) (first : List TypeRule) (longer : List (Option Ty)) (more_broken : List TypeRule) → i < length es → x ≡ get_or es i x
        → HasTyping il ls x.now o first → longer ≡ types ++ o ∷ [] → more_broken ≡ broken ++ first
        → (os : List (Option Ty)) (bs : List TypeRule) → HaveTypings il (standing ls (exps_now (drop (i + 1) es))) os bs → HaveTypings il (standing ls (exps_now es)) (longer ++ os) (more_broken ++ bs)
    typings-next x o first longer more_broken h is t a b os bs k =
        let whole = so_far (o ∷ os) (first ++ bs) (subst (λ z. HaveTypings il (standing ls (exps_now z)) (o ∷ os) (first ++ bs)) (sym (from es i x h is)) (more first bs t k refl)) in
        let p : types ++ o ∷ os ≡ longer ++ os = sym (ap (λ z. z ++ os) a ∙ append_assoc types (o ∷ []) os) in
        let q : broken ++ (first ++ bs) ≡ more_broken ++ bs = sym (ap (λ z. z ++ bs) b ∙ append_assoc broken first bs) in
        subst (λ z. HaveTypings il (standing ls (exps_now es)) (longer ++ os) z) q (subst (λ z. HaveTypings il (standing ls (exps_now es)) z (broken ++ (first ++ bs))) p whole)

    pub typings-end : length es ≤ i → HaveTypings il (standing ls (exps_now es)) types broken
    typings-end h =
        let whole = so_far [] [] (subst (λ z. HaveTypings il (standing ls (exps_now z)) [] []) (sym (drop_all i es h)) none) in
        subst (λ z. HaveTypings il (standing ls (exps_now es)) types z) (append-nil broken) (subst (λ z. HaveTypings il (standing ls (exps_now es)) z (broken ++ [])) (append-nil types) whole)
