-- Cases that are added one after another, as long as their keys differ.
use Rattle.std.specs.Prelude.{◌≡◌, ◌⊎◌, ℕ, List, [], ◌∷◌, ◌++◌, ◌<◌, ◌≤◌, Bool, true, false, length, suc, take, slice_get, slice_index, Option, Some, None, MatchOption}
use Rattle.std.specs.Borrow.{Bor}
use Rattle.std.specs.Bool.{MatchBool}
use Rattle.st_type_table.specs.declared.entry.CaseDef.{CaseDef}
use Rattle.st_il.specs.declared.ty.Ty.{Ty}
use Rattle.st_il.specs.declared.ty.Ty.TheVariants as ty
use Rattle.st_il.specs.declared.definition.SyntaxDef.{SyntaxDef}
use Rattle.st_il.specs.declared.definition.Alternative.{Alternative}
use Rattle.st_il.specs.declared.definition.Alternative.TheVariants as alternative
use Rattle.st_type_table.specs.declared.flat.Flat.{Flat}
use Rattle.st_type_table.specs.Meaning.{Means, listed, alternatives_of}
use Rattle.st_type_table.specs.Cases.{Brings, Flatten, or_none}
use Rattle.st_type_table.specs.Leads.{Ends}
use Rattle.st_type_table.specs.inner.Graph.{position_of}
use Rattle.st_type_table.specs.Keys.{KeysDiffer}
use Rattle.st_type_table.specs.inner.CaseKeys.{IsKeyed}

-- the cases are added, or two of them all would have one key
abbrev pub Adds : List CaseDef → List CaseDef → List CaseDef → Bool → Type 0
Adds before after more added =
    MatchBool added ((after ≡ before ++ more) × KeysDiffer after) (KeysDiffer (before ++ more) → ⊥)

-- ---- what is kept of a syntax's alternatives

-- some cases of these alternatives have one key
abbrev pub IsBroken : List SyntaxDef → List Alternative → Type 0
IsBroken defs alternatives =
    (cases : List CaseDef) × (Flatten defs alternatives cases × (KeysDiffer cases → ⊥))

-- all cases of these alternatives, or the word that some have one key
abbrev pub IsFlat : List SyntaxDef → List Alternative → Flat → Type 0
IsFlat defs alternatives f =
    MatchBool f.whole (Flatten defs alternatives f.cases.items × IsKeyed f.cases)
    (IsBroken defs alternatives)

-- the alternatives of a definition, which are none where it is no variant
abbrev pub alternatives_in : SyntaxDef → List Alternative
alternatives_in d = or_none (listed (Some d.body))

-- what is kept of the variant that the type means is right
abbrev pub IsFlatAt : List SyntaxDef → List Flat → Ty → Type 0
IsFlatAt defs flats t =
    (variant : List ℕ) (position : ℕ) (d : SyntaxDef) (f : Flat) → Means defs t (ty.Name variant)
    → position_of defs variant ≡ Some position → slice_get defs position ≡ Some d
    → slice_get flats position ≡ Some f → IsFlat defs (alternatives_in d) f

-- what is kept of the variant that the type means, or nothing where it means none
abbrev pub IsFlatOf : List SyntaxDef → Ty → Option (Bor Flat) → Type 0
IsFlatOf defs t found =
    (u : Ty) × (Means defs t u
    × MatchOption found (alternatives_of defs u ≡ None)
    (λ f. IsFlat defs (or_none (alternatives_of defs u)) f.now))

-- the way from what the alternative includes ends, and its cases are known
abbrev pub IsReady : List SyntaxDef → List Flat → Alternative → Type 0
IsReady defs flats a =
    (name : List ℕ) → a ≡ alternative.Incl name
    → Ends defs name × IsFlatAt defs flats (ty.Name name)

-- all these alternatives are ready: the ways from what they include end, and its cases are known
abbrev pub AllReady : List SyntaxDef → List Flat → List Alternative → Type 0
AllReady defs flats [] = Unit {0}
AllReady defs flats (a ∷ as') = IsReady defs flats a × AllReady defs flats as'

-- the cases of the other variant are added, or two of them all would have one key
abbrev pub AddsIncluded : List CaseDef → List CaseDef → Flat → Bool → Type 0
AddsIncluded before after f added = MatchBool added
    ((f.whole ≡ true) × ((after ≡ before ++ f.cases.items) × KeysDiffer after))
    ((f.whole ≡ false) ⊎ (KeysDiffer (before ++ f.cases.items) → ⊥))

-- the cases of the alternative are added, or two of them all would have one key
abbrev pub AddsAlternative : List SyntaxDef → List CaseDef → List CaseDef → Alternative
    → Bool → Type 0
AddsAlternative defs before after a added = MatchBool added
    ((more : List CaseDef) × (Brings defs a more × ((after ≡ before ++ more) × KeysDiffer after)))
    ((more : List CaseDef) × (Brings defs a more × (KeysDiffer (before ++ more) → ⊥)))

-- what the alternative includes ends
abbrev pub IsEndingPart : List SyntaxDef → Alternative → Type 0
IsEndingPart defs a = (name : List ℕ) → a ≡ alternative.Incl name → Ends defs name

-- the alternative includes what does not end
abbrev pub IsEndless : List SyntaxDef → Alternative → Type 0
IsEndless defs a = (name : List ℕ) × (a ≡ alternative.Incl name) × (Ends defs name → ⊥)

-- where what the alternative includes ends, its cases are known
abbrev pub IsKnownPart : List SyntaxDef → List Flat → Alternative → Type 0
IsKnownPart defs flats a =
    (name : List ℕ) → a ≡ alternative.Incl name → Ends defs name → IsFlatAt defs flats (ty.Name name)

-- this is so of all these alternatives
abbrev pub AllKnownParts : List SyntaxDef → List Flat → List Alternative → Type 0
AllKnownParts defs flats alternatives =
    (at : ℕ) (a : Alternative) → slice_get alternatives at ≡ Some a → IsKnownPart defs flats a

-- the cases of the alternative are added, or it includes what does not end, or two of all the
-- cases would have one key
abbrev pub TriesAlternative : List SyntaxDef → List CaseDef → List CaseDef → Alternative
    → Bool → Type 0
TriesAlternative defs before after a added = MatchBool added
    ((more : List CaseDef) × (Brings defs a more × ((after ≡ before ++ more) × KeysDiffer after)))
    (IsEndless defs a
    ⊎ ((more : List CaseDef) × (Brings defs a more × (KeysDiffer (before ++ more) → ⊥))))

-- The cases of so many of the alternatives have different keys. The next one includes what does
-- not end, or with it two cases have one key.
pub record IsReached (defs : List SyntaxDef) (alternatives : List Alternative)
    (reach : ℕ) : Type 0 where
  pub cases : List CaseDef
  pub flattened : Flatten defs (take reach alternatives) cases
  pub differ : KeysDiffer cases
  pub stops : (a : Alternative) → slice_get alternatives reach ≡ Some a
      → IsEndless defs a ⊎ IsBroken defs (take (suc reach) alternatives)

-- the cases of as many of the alternatives as have different keys
pub record IsFlattened (defs : List SyntaxDef) (alternatives : List Alternative)
    (f : Flat) : Type 0 where
  pub reached : IsReached defs alternatives f.reach
  pub whole : f.whole ≡ true → Flatten defs alternatives f.cases.items × IsKeyed f.cases
  pub stopped : f.whole ≡ false → (a : Alternative) × (slice_get alternatives f.reach ≡ Some a)

-- what is kept of the definitions with ranks up to this is right
pub record AreFlats (defs : List SyntaxDef) (ranks : List ℕ) (limit : ℕ)
    (flats : List Flat) : Type 0 where
  pub size : length flats ≡ length defs
  pub right : (position : ℕ) (d : SyntaxDef) (f : Flat) → slice_get defs position ≡ Some d
      → 0 < slice_index ranks position → slice_index ranks position ≤ limit
      → slice_get flats position ≡ Some f → IsFlat defs (alternatives_in d) f
  pub reached : (position : ℕ) (d : SyntaxDef) (f : Flat) → slice_get defs position ≡ Some d
      → 0 < slice_index ranks position → slice_index ranks position ≤ limit
      → slice_get flats position ≡ Some f → IsReached defs (alternatives_in d) f.reach

-- it is kept of each definition how many alternatives have cases with different keys
abbrev pub AllReached : List SyntaxDef → List Flat → Type 0
AllReached defs flats =
    (position : ℕ) (d : SyntaxDef) (f : Flat) → slice_get defs position ≡ Some d
    → slice_get flats position ≡ Some f → IsReached defs (alternatives_in d) f.reach
