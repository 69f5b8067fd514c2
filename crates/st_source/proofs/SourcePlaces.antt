-- The definition of a source from which one of the internal language comes.
use Rattle.std.proofs.Common.{◌≡◌, refl, sym, ◌∙◌, ap, subst, ℕ, zero, suc, ◌+◌, ◌<◌, Bool, true, false, not, if◌then◌else◌, List, [], ◌∷◌, ◌++◌, length, map, filter, get_or, arith}
use Rattle.std.specs.Prelude.{flat_map}
use Rattle.std.specs.List.{AllByRecursion}
use Rattle.std.proofs.lemmas.List.{length-append, length-map}
use Rattle.st_el.specs.declared.definition.Def.{Def}
use Rattle.st_il.specs.declared.definition.IlDef.{IlDef}
use Rattle.st_num.specs.declared.rule.RuleId.{RuleId}
use Rattle.st_elab_table.specs.declared.decls.Decls.{Decls}
use Rattle.st_elab_def.specs.declared.elaborated.Elaborated.{Elaborated}
use Rattle.st_elab_def.specs.Definitions.{Definition, number_of, definitions_from, definitions}
use Rattle.st_elab_def.specs.DeclsOf.{decls_of}
use Rattle.st_elab_def.specs.Elaboration.{ElabDefs, IsElaborated}
use Rattle.st_elab_def.specs.Fragments.{joined, sources_of, is_later}
use Rattle.st_elab_def.specs.inner.Joining.{joined_of}
use Rattle.st_elab_def.proofs.IsBreach.{DefinitionsBelow}
use Rattle.st_elab_def.proofs.PlacesOne.{joined-definitions, joined-later, joined-first}
use Rattle.st_semantics.specs.Breaches.{standings, IsModeBreach}

-- ---- as many definitions as places of them

abbrev is_kept : Definition → Bool
is_kept d = not (is_later d)

stands_for : (ds : List Definition) → length (flat_map joined_of ds) ≡ length (filter is_kept ds)
stands_for [] = refl
stands_for (d ∷ ds) = by (is_later d) refl (stands_for ds)
  where
    by : (b : Bool) → is_later d ≡ b → length (flat_map joined_of ds) ≡ length (filter is_kept ds) → length (flat_map joined_of (d ∷ ds)) ≡ length (filter is_kept (d ∷ ds))
    by true e rest =
        ap (λ xs. length (xs ++ flat_map joined_of ds)) (joined-later d e) ∙ rest
        ∙ sym (ap (λ c. length (if not c then d ∷ filter is_kept ds else filter is_kept ds)) e)
    by false e rest =
        ap (λ xs. length (xs ++ flat_map joined_of ds)) (joined-first d e) ∙ ap suc rest
        ∙ sym (ap (λ c. length (if not c then d ∷ filter is_kept ds else filter is_kept ds)) e)

joined-long : (defs : List Def) → length (joined defs) ≡ length (sources_of defs)
joined-long defs = ap length (joined-definitions [] defs) ∙ stands_for (definitions defs) ∙ sym (length-map (filter is_kept (definitions defs)) number_of)

elaborated-long : (D : Decls) (defs : List Def) (xs : List IlDef) → ElabDefs D defs xs → length xs ≡ length defs
elaborated-long D [] [] h = refl
elaborated-long D [] (x ∷ xs) h = absurd h
elaborated-long D (def ∷ defs) [] h = absurd h
elaborated-long D (def ∷ defs) (x ∷ xs) h = ap suc (elaborated-long D defs xs h.1)

standings-long : (ds : List IlDef) → length (standings ds) ≡ length ds
standings-long [] = refl
standings-long (d ∷ ds) = ap suc (standings-long ds)

-- the first definition that breaks a rule on modes has a place in the source
pub breach-placed : (defs : List Def) (e : Elaborated) (place : ℕ) (m : RuleId) → IsElaborated defs e → IsModeBreach e.il place m → place < length e.sources
breach-placed defs e place m elaborated breach =
    let whole : length (standings e.il.defs) ≡ length e.sources =
    standings-long e.il.defs ∙ elaborated-long (decls_of defs) (joined defs) e.il.defs elaborated.definitions ∙ joined-long defs ∙ ap length (sym elaborated.sources) in
    let parts : length (standings e.il.defs) ≡ length breach.first.before + suc (length breach.first.after) =
    ap length breach.first.split ∙ length-append breach.first.before (breach.at ∷ breach.first.after) in
    omega (arith, breach.place_is, parts, whole)

-- ---- places are those of definitions

below-from : (n : ℕ) (before defs : List Def) → length before + length defs ≡ n → DefinitionsBelow n (definitions_from before defs)
below-from n before [] is = tt
below-from n before (def ∷ behind) is =
    let here : length before < n = omega (arith, is) in
    let next : length (before ++ def ∷ []) + length behind ≡ n = omega (arith, is, length-append before (def ∷ [])) in
    (here, below-from n (before ++ def ∷ []) behind next)

abbrev AreBelow : ℕ → List ℕ → Type 0
AreBelow n = AllByRecursion (λ (k : ℕ). k < n)

kept-below : (n : ℕ) (ds : List Definition) → DefinitionsBelow n ds → AreBelow n (map number_of (filter is_kept ds))
kept-below n [] h = tt
kept-below n (d ∷ ds) h = by (not (is_later d)) (kept-below n ds h.1)
  where
    by : (b : Bool) → AreBelow n (map number_of (filter is_kept ds)) → AreBelow n (map number_of (if b then d ∷ filter is_kept ds else filter is_kept ds))
    by true more = (h.0, more)
    by false more = more

get-below : (n : ℕ) (ks : List ℕ) (i d : ℕ) → AreBelow n ks → i < length ks → get_or ks i d < n
get-below n [] i d h within = let none : ⊥ = omega (arith, within) in absurd none
get-below n (k ∷ ks) zero d h within = h.0
get-below n (k ∷ ks) (suc i) d h within = get-below n ks i d h.1 (omega (arith, within))

-- the place of a definition in the source is the number of one there
pub source-within : (defs : List Def) (e : Elaborated) (place number d : ℕ) → IsElaborated defs e → place < length e.sources → number ≡ get_or e.sources place d → number < length defs
source-within defs e place number d elaborated within is =
    let below : AreBelow (length defs) (sources_of defs) = kept-below (length defs) (definitions defs) (below-from (length defs) [] defs (omega arith)) in
    subst (λ k. k < length defs) (sym is) (get-below (length defs) e.sources place d (subst (AreBelow (length defs)) (sym elaborated.sources) below) within)
