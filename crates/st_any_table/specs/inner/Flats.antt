-- Cases of syntaxes by their numbers: which lists of cases tell the same, and which cases a syntax
-- has, each once.
use Rattle.std.specs.Prelude.{◌≡◌, ◌⊎◌, ◌<◌, ◌*◌, ℕ, suc, Bool, true, false, List, [], ◌∷◌, ◌++◌, length, slice_get, Option, Some, None}
use Rattle.std.specs.List.{flat_map}
use Rattle.st_il.specs.declared.ty.Ty.{Ty, out-Ty}
use Rattle.st_il.specs.declared.ty.Ty.TheOpen.{Ty-F}
use Rattle.st_il.specs.declared.definition.SyntaxDef.{SyntaxDef}
use Rattle.st_il.specs.declared.definition.SyntaxBody.{SyntaxBody}
use Rattle.st_il.specs.declared.definition.SyntaxBody.TheVariants as body
use Rattle.st_il.specs.declared.definition.Alternative.{Alternative}
use Rattle.st_il.specs.declared.definition.Alternative.TheVariants as alternative
use Rattle.st_type_table.specs.declared.entry.CaseDef.{CaseDef}
use Rattle.st_type_table.specs.Cases.{Flatten, HasCases, operands_of}
use Rattle.st_type_table.specs.Meaning.{alternatives_of}
use Rattle.st_type_table.specs.Leads.{Among, included}
use Rattle.st_type_table.specs.inner.Graph.{IsOne, position_of}

-- ---- lists of cases

-- the case is one of these
abbrev pub IsCase : List CaseDef → CaseDef → Type 0
IsCase [] c = ⊥
IsCase (d ∷ ds) c = (c ≡ d) ⊎ IsCase ds c

-- Both lists tell the same: the first case of each tag has the same operands, and each case of the
-- one is a case of the other.
pub record Alike (cs ds : List CaseDef) : Type 0 where
  pub first : (tag : List ℕ) → operands_of cs tag ≡ operands_of ds tag
  pub to : (c : CaseDef) → IsCase cs c → IsCase ds c
  pub from : (c : CaseDef) → IsCase ds c → IsCase cs c

-- the case of a number, where there is one
abbrev pub one_case : Option CaseDef → List CaseDef
one_case None = []
one_case (Some c) = c ∷ []

-- the cases of these numbers
abbrev pub cases_at : List CaseDef → List ℕ → List CaseDef
cases_at cases = flat_map (λ n. one_case (slice_get cases n))

-- each number is that of a case
abbrev pub AreWithin : List CaseDef → List ℕ → Type 0
AreWithin cases numbers = (n : ℕ) → IsOne numbers n → n < length cases

-- the number stands among these once it is added
abbrev pub IsAdded : List ℕ → List ℕ → ℕ → Type 0
IsAdded before after n =
    (IsOne before n × (after ≡ before)) ⊎ ((IsOne before n → ⊥) × (after ≡ before ++ n ∷ []))

-- these numbers stand among those once they are added
pub record IsAdding (start more now : List ℕ) : Type 0 where
  pub alike : (cases : List CaseDef)
      → Alike (cases_at cases now) (cases_at cases start ++ cases_at cases more)
  pub from : (n : ℕ) → IsOne now n → IsOne (start ++ more) n

-- cases were added behind those before
abbrev pub Grows : List CaseDef → List CaseDef → Type 0
Grows before after = (more : List CaseDef) × (after ≡ before ++ more)

-- ---- the cases of syntaxes

-- what an alias brings: what its name brings, by the top of the type
abbrev pub source_at : {X : Type 0} → Ty-F X → List Alternative
source_at (Ty-F.Name name) = alternative.Incl name ∷ []
source_at Ty-F.Bool = []
source_at Ty-F.Nat = []
source_at Ty-F.Int = []
source_at Ty-F.Text = []
source_at (Ty-F.List t) = []
source_at (Ty-F.Opt t) = []
source_at (Ty-F.Tuple ts) = []

-- what an alias of a type that is this name brings, where it is one
abbrev pub source_of : Option (List ℕ) → List Alternative
source_of None = []
source_of (Some name) = alternative.Incl name ∷ []

-- the alternatives from which the cases of a body are
abbrev pub sources : SyntaxBody → List Alternative
sources (body.Alias t) = source_at (out-Ty t)
sources (body.Variant alternatives) = alternatives
sources (body.Fields fields) = []

-- these numbers are those of the cases of these alternatives
pub record IsFlat (defs : List SyntaxDef) (cases : List CaseDef) (numbers : List ℕ)
    (alternatives : List Alternative) : Type 0 where
  pub whole : List CaseDef
  pub flattened : Flatten defs alternatives whole
  pub alike : Alike (cases_at cases numbers) whole
  pub within : AreWithin cases numbers

-- for each definition the numbers of its cases, where they are known
abbrev pub Flats : Type 0
Flats = List (Option (List ℕ))

-- the numbers that are known
abbrev pub known_at : Option (Option (List ℕ)) → Option (List ℕ)
known_at None = None
known_at (Some numbers) = numbers

-- the numbers of the cases of a definition, where there is one and they are known
abbrev pub flat_at : Flats → ℕ → Option (List ℕ)
flat_at flats position = known_at (slice_get flats position)

-- the numbers of the cases of a definition, where there is its position and they are known
abbrev pub flat_of_position : Flats → Option ℕ → Option (List ℕ)
flat_of_position flats None = None
flat_of_position flats (Some position) = flat_at flats position

-- these numbers, where alternatives are listed
abbrev pub where_listed : Option (List Alternative) → Option (List ℕ) → Option (List ℕ)
where_listed None numbers = None
where_listed (Some alternatives) numbers = numbers

-- what is known of the cases of definitions is right
pub record AreFlats (defs : List SyntaxDef) (flats : Flats) (cases : List CaseDef) : Type 0 where
  pub size : length flats ≡ length defs
  pub right : (i : ℕ) (d : SyntaxDef) (numbers : List ℕ) → slice_get defs i ≡ Some d
      → slice_get flats i ≡ Some (Some numbers) → IsFlat defs cases numbers (sources d.body)

-- the cases of the name are known, where it is declared
abbrev pub IsKnown : List SyntaxDef → Flats → List ℕ → Type 0
IsKnown defs flats name =
    (p : ℕ) → position_of defs name ≡ Some p → slice_get flats p ≡ Some None → ⊥

-- the cases of all that these alternatives include are known
abbrev pub AllKnown : List SyntaxDef → Flats → List Alternative → Type 0
AllKnown defs flats alternatives =
    (name : List ℕ) → Among (flat_map included alternatives) name → IsKnown defs flats name

-- the cases of this definition are known, or it waits for some that are not
abbrev pub IsFilled : List SyntaxDef → Flats → ℕ → Type 0
IsFilled defs flats i = (d : SyntaxDef) → slice_get defs i ≡ Some d
    → slice_get flats i ≡ Some None → AllKnown defs flats (sources d.body) → ⊥

-- no more cases can be known
abbrev pub AreFilled : List SyntaxDef → Flats → Type 0
AreFilled defs flats = (i : ℕ) → IsFilled defs flats i

-- how many definitions have cases that are not known
abbrev pub unknown : Flats → ℕ
unknown [] = 0
unknown (None ∷ fs) = suc (unknown fs)
unknown (Some numbers ∷ fs) = unknown fs

-- how much is left to do where so many are not known, and the last pass has changed something or not
abbrev pub left : Bool → Flats → ℕ
left false flats = 2 * unknown flats
left true flats = suc (2 * unknown flats)

-- These numbers are those of the cases of the alternatives so far.
pub record IsFlattening (defs : List SyntaxDef) (flats : Flats) (cases : List CaseDef)
    (numbers : List ℕ) (done : List Alternative) : Type 0 where
  pub flats_are : AreFlats defs flats cases
  pub flat : IsFlat defs cases numbers done

-- what is known after a pass, and whether more can be
pub record IsFilling (defs : List SyntaxDef) (flats : Flats) (cases : List CaseDef)
    (changed : Bool) : Type 0 where
  pub flats_are : AreFlats defs flats cases
  pub filled : changed ≡ false → AreFilled defs flats

-- the cases of one more definition are known; or nothing has changed, and it is filled
abbrev pub Fills : List SyntaxDef → ℕ → Flats → Flats → Bool → Type 0
Fills defs i flats flats' true = unknown flats' < unknown flats
Fills defs i flats flats' false = (flats' ≡ flats) × IsFilled defs flats i

-- A pass that began with these has come to the definition of this number. Where none was filled
-- all before it are.
pub record IsFillPass (defs : List SyntaxDef) (before flats : Flats) (cases : List CaseDef)
    (changed : Bool) (at : ℕ) : Type 0 where
  pub flats_are : AreFlats defs flats cases
  pub fewer : changed ≡ true → unknown flats < unknown before
  pub same : changed ≡ false → flats ≡ before
  pub filled : changed ≡ false → (i : ℕ) → i < at → IsFilled defs flats i

-- the type is the name of a variant whose cases have these numbers
pub record IsFlatHere (defs : List SyntaxDef) (cases : List CaseDef) (t : Ty)
    (numbers : List ℕ) : Type 0 where
  pub alternatives : List Alternative
  pub declared : alternatives_of defs t ≡ Some alternatives
  pub flat : IsFlat defs cases numbers alternatives

-- the type is the name of no variant that has cases
abbrev pub NoFlatHere : List SyntaxDef → Ty → Type 0
NoFlatHere defs t = (alternatives : List Alternative) (whole : List CaseDef)
    → alternatives_of defs t ≡ Some alternatives → Flatten defs alternatives whole → ⊥

-- the type has cases, and these are their numbers
pub record HasFlat (defs : List SyntaxDef) (cases : List CaseDef) (t : Ty)
    (numbers : List ℕ) : Type 0 where
  pub whole : List CaseDef
  pub has : HasCases defs t whole
  pub alike : Alike (cases_at cases numbers) whole
