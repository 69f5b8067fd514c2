-- What is found among conditions, and what the rest of them says of all.
use Rattle.std.proofs.Common.{◌≡◌, ◌↔◌, refl, sym, ap, ◌∙◌, ℕ, suc, List, [], ◌∷◌, ◌++◌, Option, Some, None, inl, inr}
use Rattle.std.specs.Prelude.{IsTrue, Bool, slice_index, ◌<◌}
use Rattle.st_num.specs.declared.rule.RuleId.{RuleId}
use Rattle.st_il.specs.declared.definition.SyntaxDef.{SyntaxDef}
use Rattle.st_type_table.specs.Meaning.{body_of, Means, named, listed, aliased, alternatives_of}
use Rattle.st_type_table.specs.inner.Graph.{position_of, AreRanks, graph_of}
use Rattle.st_type_table.specs.Breach.{IsVariant, declared, no_return, on_alias, Holds, Asked, asked_name, AllHold, broken, FirstFalse, Finds}
use Rattle.st_il.specs.declared.ty.Ty.{Ty}
use Rattle.st_il.specs.declared.ty.Ty.TheVariants as ty
use Rattle.st_type_table.specs.declared.fault.Broken.{Broken}
use Rattle.st_type_table.specs.inner.Checking.{NameBreaks, IsEnding, IsListed}
use Rattle.st_type_table.proofs.MeansLemmas.{Means-single}
use Rattle.st_type_table.proofs.FlatLemmas.{name-level}
use Rattle.st_type_table.proofs.PositionLemmas.{placed, unplaced, EndsAt-Ends, Ends-EndsAt}

-- what is found among the rest is found among all
abbrev pub Rest : List SyntaxDef → List Asked → List Asked → Type 0
Rest defs rest all = (found : Option Broken) → Finds defs rest found → Finds defs all found

-- a condition that holds is passed over
pub Finds-hold : (defs : List SyntaxDef) (p : Asked) (ps : List Asked) (found : Option Broken) → Holds defs p.condition → Finds defs ps found → Finds defs (p ∷ ps) found
Finds-hold defs p ps None h f = (h, f)
Finds-hold defs p ps (Some x) h f = inr (h, f)

-- a condition that is false is found
pub Finds-false : (defs : List SyntaxDef) (p : Asked) (ps : List Asked) → (Holds defs p.condition → ⊥) → Finds defs (p ∷ ps) (Some (broken p))
Finds-false defs p ps h = inl (h, refl)

pub AllHold-append : (defs : List SyntaxDef) (ps qs : List Asked) → AllHold defs ps → AllHold defs qs → AllHold defs (ps ++ qs)
AllHold-append defs [] qs h g = g
AllHold-append defs (p ∷ ps) qs h g = (h.0, AllHold-append defs ps qs h.1 g)

FirstFalse-front : (defs : List SyntaxDef) (ps qs : List Asked) (b : Broken) → FirstFalse defs ps b → FirstFalse defs (ps ++ qs) b
FirstFalse-front defs [] qs b h = absurd h
FirstFalse-front defs (p ∷ ps) qs b (inl h) = inl h
FirstFalse-front defs (p ∷ ps) qs b (inr h) = inr (h.0, FirstFalse-front defs ps qs b h.1)

FirstFalse-back : (defs : List SyntaxDef) (ps qs : List Asked) (b : Broken) → AllHold defs ps → FirstFalse defs qs b → FirstFalse defs (ps ++ qs) b
FirstFalse-back defs [] qs b h g = g
FirstFalse-back defs (p ∷ ps) qs b h g = inr (h.0, FirstFalse-back defs ps qs b h.1 g)

-- what is found in the first of two lists
pub Finds-front : (defs : List SyntaxDef) (ps qs : List Asked) (x : Broken) → Finds defs ps (Some x) → Finds defs (ps ++ qs) (Some x)
Finds-front defs ps qs x h = FirstFalse-front defs ps qs x h

-- what is found in the second, where nothing is in the first
pub Finds-back : (defs : List SyntaxDef) (ps qs : List Asked) (found : Option Broken) → Finds defs ps None → Finds defs qs found → Finds defs (ps ++ qs) found
Finds-back defs ps qs None h g = AllHold-append defs ps qs h g
Finds-back defs ps qs (Some x) h g = FirstFalse-back defs ps qs x h g

pub front_hold : (defs : List SyntaxDef) (ps qs : List Asked) → AllHold defs (ps ++ qs) → AllHold defs ps
front_hold defs [] qs h = tt
front_hold defs (p ∷ ps) qs h = (h.0, front_hold defs ps qs h.1)

pub back_hold : (defs : List SyntaxDef) (ps qs : List Asked) → AllHold defs (ps ++ qs) → AllHold defs qs
back_hold defs [] qs h = h
back_hold defs (p ∷ ps) qs h = back_hold defs ps qs h.1

-- a name with a position is declared
pub is-declared : (defs : List SyntaxDef) (name : List ℕ) (p : ℕ) → position_of defs name ≡ Some p → body_of defs name ≡ None → ⊥
is-declared defs name p e b =
    let r = placed defs name p e in
    let c : None ≡ Some r.definition.body = sym b ∙ r.body_is in
    cc

pub ending-ranked : (defs : List SyntaxDef) (ranks : List ℕ) → AreRanks (graph_of defs) ranks → (name : List ℕ) (p : ℕ) (r : Bool) → position_of defs name ≡ Some p
    → (IsTrue r ↔ (0 < slice_index ranks p)) → IsTrue r ↔ IsEnding defs name
ending-ranked defs ranks right name p r e h = (
  λ y. record { position = p; there = e; ends = EndsAt-Ends defs p ((right.exact p).0 (h.0 y)) name e },
  λ i. h.1 ((right.exact p).1 (Ends-EndsAt defs name i.ends p e)),
)

pub ending-placed : (defs : List SyntaxDef) (name : List ℕ) → IsEnding defs name → position_of defs name ≡ None → ⊥
ending-placed defs name i e = let c : None ≡ Some i.position = sym e ∙ i.there in cc

-- a variant is declared
variant_named : (defs : List SyntaxDef) (name : List ℕ) (o : Option ℕ) → position_of defs name ≡ o → IsVariant defs name → IsEnding defs name
variant_named defs name (Some p) e v = record { position = p; there = e; ends = v.ends }
variant_named defs name None e v = absurd (by v.means)
  where
    level : named defs (ty.Name name) ≡ None
    level = name-level defs name ∙ unplaced defs name e

    by : Means defs (ty.Name name) v.meaning → ⊥
    by (Means.itself p q) =
        let c : None ≡ Some v.alternatives = sym (ap listed level) ∙ ap (alternatives_of defs) q ∙ v.listed in cc
    by (Means.alias s p q) = let c : None ≡ Some s = sym (ap aliased level) ∙ p in cc

pub variant-ending : (defs : List SyntaxDef) (name : List ℕ) → IsVariant defs name → IsEnding defs name
variant-ending defs name v = variant_named defs name (position_of defs name) refl v

pub variant-exact : (defs : List SyntaxDef) (name : List ℕ) (t : Ty) (r : Bool) → IsEnding defs name → Means defs (ty.Name name) t → (IsTrue r ↔ IsListed defs t) → IsTrue r ↔ IsVariant defs name
variant-exact defs name t r i m h = (
  λ y. let l = h.0 y in record { meaning = t; alternatives = l.0; means = m; listed = l.1; ends = i.ends },
  λ v. h.1 (v.alternatives, ap (alternatives_of defs) (Means-single defs (ty.Name name) t v.meaning m v.means) ∙ v.listed),
)

-- ---- a name in an alias

module _ (defs : List SyntaxDef) (target name : List ℕ) (number : ℕ) (names : List (List ℕ)) where
  pub alias-breaks : (rule : RuleId) → NameBreaks defs target name (Some rule) → Finds defs (on_alias target number (name ∷ names)) (Some (record { part = 0; name = number; rule = rule }))
  alias-breaks rule (inl (h, e)) = inl (h, ap (λ r. record { part = 0; name = number; rule = r }) e)
  alias-breaks rule (inr (h, (g, e))) = inr (h, inl (g, ap (λ r. record { part = 0; name = number; rule = r }) e))

  pub alias-passes : (found : Option Broken) → NameBreaks defs target name None → Finds defs (on_alias target (suc number) names) found
      → Finds defs (on_alias target number (name ∷ names)) found
  alias-passes found h f =
      Finds-hold defs (asked_name 0 number (declared name)) (asked_name 0 number (no_return name target) ∷ on_alias target (suc number) names) found h.0
      (Finds-hold defs (asked_name 0 number (no_return name target)) (on_alias target (suc number) names) found h.1 f)
