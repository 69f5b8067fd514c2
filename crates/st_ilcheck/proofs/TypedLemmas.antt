-- Whether a language is typed, one definition at a time.
use Rattle.std.proofs.Common.{◌≡◌, ◌↔◌, ℕ, zero, suc, ◌+◌, ◌<◌, ◌≤◌, refl, sym, ap, ◌∙◌, subst, List, [], ◌∷◌, ◌++◌, Bool, Some, None, length, take, drop, append_assoc, arith}
use Rattle.std.specs.Prelude.{IsTrue, if◌then◌else◌, slice_get}
use Rattle.std.proofs.lemmas.List.{drop_all}
use Rattle.st_il.specs.declared.definition.Il.{Il}
use Rattle.st_il.specs.declared.definition.IlDef.{IlDef}
use Rattle.st_il.specs.declared.type_rule.TypeRule.{TypeRule}
use Rattle.st_il.specs.declared.type_rule.TypeRule.TheVariants.{T1, T2, T14}
use Rattle.st_ilcheck.specs.Declarations.{AreNamed}
use Rattle.st_ilcheck.specs.Least.{least}
use Rattle.st_ilcheck.specs.Typed.{Breaks, BreaksByTypes, KeepsVariables, KeepsIndices, AllKeep, BreaksAt}
use Rattle.st_ilcheck.proofs.Builds.{told-kept}
use Rattle.st_ilcheck.proofs.LeastLemmas.{none-least}

pub breaks-made : (il : Il) (before : List IlDef) (d : IlDef) (n v i : Bool) (none' one two three types all : List TypeRule) → (IsTrue n ↔ AreNamed il before d) → (IsTrue v ↔ KeepsVariables d) → (IsTrue i ↔ KeepsIndices d)
    → BreaksByTypes il d types → none' ≡ [] → one ≡ none' ++ (if n then [] else T1 ∷ []) → two ≡ one ++ (if v then [] else T2 ∷ []) → three ≡ two ++ (if i then [] else T14 ∷ []) → all ≡ three ++ types → Breaks il before d all
breaks-made il before d n v i none' one two three types all names variables indices by_types e a b c w = record {
  by_names = if n then [] else T1 ∷ [];
  by_variables = if v then [] else T2 ∷ [];
  by_indices = if i then [] else T14 ∷ [];
  by_types = types;
  names = told-kept T1 (AreNamed il before d) n names;
  variables = told-kept T2 (KeepsVariables d) v variables;
  indices = told-kept T14 (KeepsIndices d) i indices;
  types = by_types;
  whole = w ∙ (ap (λ z. z ++ types) (c ∙ ap (λ z. z ++ (if i then [] else T14 ∷ [])) (b ∙ ap (λ z. z ++ (if v then [] else T2 ∷ [])) (a ∙ ap (λ z. z ++ (if n then [] else T1 ∷ [])) e)))
      ∙ (append_assoc ((if n then [] else T1 ∷ []) ++ (if v then [] else T2 ∷ [])) (if i then [] else T14 ∷ []) types
      ∙ append_assoc (if n then [] else T1 ∷ []) (if v then [] else T2 ∷ []) ((if i then [] else T14 ∷ []) ++ types)));
}

-- the definitions before a place and from it on
taken-more : (defs : List IlDef) (i : ℕ) (d : IlDef) → slice_get defs i ≡ Some d → take (suc i) defs ≡ take i defs ++ d ∷ []
taken-more [] i d h = let bad : None ≡ Some d = h in cc
taken-more (x ∷ defs) zero d h = let same : x ≡ d = cc in ap (λ z. z ∷ []) same
taken-more (x ∷ defs) (suc i) d h = ap (λ z. x ∷ z) (taken-more defs i d h)

dropped-less : (defs : List IlDef) (i : ℕ) (d : IlDef) → slice_get defs i ≡ Some d → drop i defs ≡ d ∷ drop (suc i) defs
dropped-less [] i d h = let bad : None ≡ Some d = h in cc
dropped-less (x ∷ defs) zero d h = let same : x ≡ d = cc in ap (λ z. z ∷ defs) same
dropped-less (x ∷ defs) (suc i) d h = dropped-less defs i d h

there-is : (defs : List IlDef) (i : ℕ) → i < length defs → (d : IlDef) × (slice_get defs i ≡ Some d)
there-is [] i h = absurd (omega (arith, h))
there-is (x ∷ defs) zero h = (x, refl)
there-is (x ∷ defs) (suc i) h = there-is defs i (omega (arith, h))

module _ (il : Il) (defs : List IlDef) where
  -- what is told of the definitions from a place on is told of all
  pub record IsTold (i : ℕ) : Type 0 where
    pub keeps : AllKeep il (take i defs) (drop i defs) → AllKeep il [] defs
    pub breaks : (place : ℕ) (rule : TypeRule) → BreaksAt il (take i defs) (drop i defs) place rule → BreaksAt il [] defs (i + place) rule

  pub told-start : IsTold 0
  told-start = record {
    keeps = λ k. k;
    breaks = λ place rule k. let same : place ≡ 0 + place = omega arith in subst (λ n. BreaksAt il [] defs n rule) same k;
  }

  module _ (i : ℕ) (told : IsTold i) (within : i < length defs) (broken : List TypeRule) (found : (d : IlDef) → slice_get defs i ≡ Some d → Breaks il (take i defs) d broken) where
    pub told-next : None ≡ least broken → IsTold (i + 1)
    told-next e =
        let there = there-is defs i within in
        let d = there.0 in
        let is = there.1 in
        let none : broken ≡ [] = none-least broken e in
        let b : Breaks il (take i defs) d [] = subst (Breaks il (take i defs) d) none (found d is) in
        let next : i + 1 ≡ suc i = omega arith in
        let rest : drop i defs ≡ d ∷ drop (suc i) defs = dropped-less defs i d is in
        let front : take (suc i) defs ≡ take i defs ++ d ∷ [] = taken-more defs i d is in
        subst IsTold (sym next) (record {
          keeps = λ k. told.keeps (subst (AllKeep il (take i defs)) (sym rest) (b, subst (λ z. AllKeep il z (drop (suc i) defs)) front k));
          breaks = λ place rule k.
              let more : i + suc place ≡ suc i + place = omega arith in
              subst (λ n. BreaksAt il [] defs n rule) more
              (told.breaks (suc place) rule (subst (λ z. BreaksAt il (take i defs) z (suc place) rule) (sym rest) (b, subst (λ z. BreaksAt il z (drop (suc i) defs) place rule) front k)));
        })

    pub told-breach : (rule : TypeRule) → Some rule ≡ least broken → BreaksAt il [] defs i rule
    told-breach rule e =
        let there = there-is defs i within in
        let d = there.0 in
        let is = there.1 in
        let rest : drop i defs ≡ d ∷ drop (suc i) defs = dropped-less defs i d is in
        let same : i + 0 ≡ i = omega arith in
        subst (λ n. BreaksAt il [] defs n rule) same
        (told.breaks 0 rule (subst (λ z. BreaksAt il (take i defs) z 0 rule) (sym rest) (broken, (found d is, sym e))))

  pub told-end : (i : ℕ) → IsTold i → length defs ≤ i → AllKeep il [] defs
  told-end i told h = told.keeps (subst (AllKeep il (take i defs)) (sym (drop_all i defs h)) tt)
