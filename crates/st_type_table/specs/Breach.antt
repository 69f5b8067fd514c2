-- The conditions on definitions of syntaxes, in their order, and the first that is false.
use Rattle.std.specs.Prelude.{◌≡◌, ◌⊎◌, ◌<◌, ◌^◌, ℕ, suc, List, [], ◌∷◌, ◌++◌, map, take, drop, length, Option, Some, None, slice_get, MatchOption}
use Rattle.std.specs.List.{flat_map}
use Rattle.st_num.specs.declared.rule.RuleId.{RuleId}
use Rattle.st_num.specs.declared.rule.RuleId.TheVariants.{B1, B2, B4, B5, Y7}
use Rattle.st_il.specs.declared.ty.Ty.{Ty}
use Rattle.st_il.specs.declared.ty.Ty.TheVariants as ty
use Rattle.st_il.specs.declared.definition.SyntaxDef.{SyntaxDef}
use Rattle.st_il.specs.declared.definition.SyntaxBody.{SyntaxBody}
use Rattle.st_il.specs.declared.definition.SyntaxBody.TheVariants as body
use Rattle.st_il.specs.declared.definition.Alternative.{Alternative}
use Rattle.st_il.specs.declared.definition.Alternative.TheVariants as alternative
use Rattle.st_type_table.specs.declared.entry.CaseDef.{CaseDef}
use Rattle.st_type_table.specs.declared.fault.Broken.{Broken}
use Rattle.st_type_table.specs.Meaning.{body_of, Means, alternatives_of}
use Rattle.st_type_table.specs.Cases.{Flatten}
use Rattle.st_type_table.specs.Leads.{names_in, joined, Leads, Ends}
use Rattle.st_type_table.specs.Keys.{KeysDiffer}

-- a condition on the definition of a syntax
pub data Condition : Type 0 where
  -- no definition of these has this name
  new_name : List SyntaxDef → List ℕ → Condition
  -- no field of these has this name
  new_field : List (List ℕ × Ty) → List ℕ → Condition
  -- the name is that of a syntax
  declared : List ℕ → Condition
  -- the first name does not lead to the second
  no_return : List ℕ → List ℕ → Condition
  -- the name is that of a variant
  variant : List ℕ → Condition
  -- the cases of these alternatives have different keys
  keys : List Alternative → Condition

-- the rule that is broken where the condition is false
abbrev pub rule_of : Condition → RuleId
rule_of (new_name before name) = B1
rule_of (new_field before name) = B1
rule_of (declared name) = B2
rule_of (no_return name target) = B4
rule_of (variant name) = B5
rule_of (keys alternatives) = Y7

-- one of these fields has this name
abbrev pub field_type : List (List ℕ × Ty) → List ℕ → Type 0
field_type [] name = ⊥
field_type (f ∷ fs) name = (name ≡ f.0) ⊎ field_type fs name

-- What the name means is a variant, and no way from it runs for ever.
pub record IsVariant (defs : List SyntaxDef) (name : List ℕ) : Type 0 where
  pub meaning : Ty
  pub alternatives : List Alternative
  pub means : Means defs (ty.Name name) meaning
  pub listed : alternatives_of defs meaning ≡ Some alternatives
  pub ends : Ends defs name

-- the condition is true of these definitions
abbrev pub Holds : List SyntaxDef → Condition → Type 0
Holds defs (new_name before name) = body_of before name ≡ None
Holds defs (new_field before name) = field_type before name → ⊥
Holds defs (declared name) = body_of defs name ≡ None → ⊥
Holds defs (no_return name target) = Leads defs name target → ⊥
Holds defs (variant name) = IsVariant defs name
Holds defs (keys alternatives) =
    (cases : List CaseDef) → Flatten defs alternatives cases → KeysDiffer cases

-- ---- the conditions on a definition, each with the number of its part

-- A condition is asked of the part of this number in a definition; where it is about one name in
-- the types of the part, the name has this number, and else the number is 0.
pub record Asked : Type 0 where
  pub part : ℕ
  pub name : ℕ
  pub condition : Condition

-- the condition on the part as a whole, or on its only name
abbrev pub asked : ℕ → Condition → Asked
asked part c = record { part = part; name = 0; condition = c }

-- the condition on the name of this number
abbrev pub asked_name : ℕ → ℕ → Condition → Asked
asked_name part number c = record { part = part; name = number; condition = c }

-- the conditions that names of a part are declared, the first of which has this number
abbrev pub all_declared : ℕ → ℕ → List (List ℕ) → List Asked
all_declared part number [] = []
all_declared part number (name ∷ names) =
    asked_name part number (declared name) ∷ all_declared part (suc number) names

-- the conditions on names of an alias, the first of which has this number: each is declared and
-- does not lead back
abbrev pub on_alias : List ℕ → ℕ → List (List ℕ) → List Asked
on_alias target number [] = []
on_alias target number (name ∷ names) =
    asked_name 0 number (declared name) ∷ asked_name 0 number (no_return name target)
    ∷ on_alias target (suc number) names

-- the conditions on what is included: it is declared, does not lead back, and is a variant
abbrev pub on_included : List ℕ → ℕ → List ℕ → List Asked
on_included target part name =
    asked part (declared name) ∷ asked part (no_return name target)
    ∷ asked part (variant name) ∷ []

-- the conditions on an alternative, which is the last of those so far
abbrev pub on_alternative : List ℕ → ℕ → List Alternative → Alternative → List Asked
on_alternative target part so_far (alternative.Case tag operands) =
    asked part (keys so_far) ∷ all_declared part 0 (joined (map names_in operands))
on_alternative target part so_far (alternative.Incl name) =
    on_included target part name ++ asked part (keys so_far) ∷ []

-- the conditions on alternatives behind others, the first of which has this number
abbrev pub on_alternatives : List ℕ → ℕ → List Alternative → List Alternative → List Asked
on_alternatives target part before [] = []
on_alternatives target part before (a ∷ as') =
    on_alternative target part (before ++ a ∷ []) a
    ++ on_alternatives target (suc part) (before ++ a ∷ []) as'

-- the conditions on the field of this number behind others
abbrev pub on_field : ℕ → List (List ℕ × Ty) → List ℕ × Ty → List Asked
on_field part before f =
    asked part (new_field before f.0) ∷ all_declared part 0 (names_in f.1)

-- the conditions on fields behind others, the first of which has this number
abbrev pub on_fields : ℕ → List (List ℕ × Ty) → List (List ℕ × Ty) → List Asked
on_fields part before [] = []
on_fields part before (f ∷ fs) =
    on_field part before f ++ on_fields (suc part) (before ++ f ∷ []) fs

-- the conditions on the body of the syntax of this name
abbrev pub on_body : List ℕ → SyntaxBody → List Asked
on_body name (body.Alias t) = on_alias name 0 (names_in t)
on_body name (body.Variant alternatives) = on_alternatives name 0 [] alternatives
on_body name (body.Fields fields) = on_fields 0 [] fields

-- the members of a list from this number up to that
abbrev pub run : {A : Type 0} → ℕ → ℕ → List A → List A
run from to xs = drop from (take to xs)

-- The conditions on the parts from this number up to that of the body of the syntax of this name.
-- An alias is one part.
abbrev pub on_parts : List ℕ → SyntaxBody → ℕ → ℕ → List Asked
on_parts name (body.Alias t) from to =
    flat_map (λ u. on_alias name 0 (names_in u)) (run from to (t ∷ []))
on_parts name (body.Variant alternatives) from to =
    on_alternatives name from (take from alternatives) (run from to alternatives)
on_parts name (body.Fields fields) from to =
    on_fields from (take from fields) (run from to fields)

-- the conditions on a definition behind these
abbrev pub conditions_on : List SyntaxDef → SyntaxDef → List Asked
conditions_on before d = asked 0 (new_name before d.name) ∷ on_body d.name d.body

-- ---- the first that is false

-- all these conditions are true
abbrev pub AllHold : List SyntaxDef → List Asked → Type 0
AllHold defs [] = Unit {0}
AllHold defs (p ∷ ps) = Holds defs p.condition × AllHold defs ps

-- what a false condition is answered with
abbrev pub broken : Asked → Broken
broken p = record { part = p.part; name = p.name; rule = rule_of p.condition }

-- the first of these conditions that is false is answered with this
abbrev pub FirstFalse : List SyntaxDef → List Asked → Broken → Type 0
FirstFalse defs [] b = ⊥
FirstFalse defs (p ∷ ps) b =
    ((Holds defs p.condition → ⊥) × (b ≡ broken p))
    ⊎ (Holds defs p.condition × FirstFalse defs ps b)

-- what was found among these conditions: nothing, or the first that is false
abbrev pub Finds : List SyntaxDef → List Asked → Option Broken → Type 0
Finds defs ps found = MatchOption found (AllHold defs ps) (FirstFalse defs ps)

-- what was found at the parts from this number up to that of the definition of this number
abbrev pub FindsAt : List SyntaxDef → ℕ → ℕ → ℕ → Option Broken → Type 0
FindsAt defs syntax from to found =
    (d : SyntaxDef) → slice_get defs syntax ≡ Some d
    → Finds defs (on_parts d.name d.body from to) found

-- all conditions on the first k definitions hold
abbrev pub SoundTo : List SyntaxDef → ℕ → Type 0
SoundTo defs k =
    (i : ℕ) → i < k → (d : SyntaxDef) → slice_get defs i ≡ Some d
    → AllHold defs (conditions_on (take i defs) d)

-- all conditions on the definitions hold
abbrev pub IsSound : List SyntaxDef → Type 0
IsSound defs = SoundTo defs (length defs)

-- the first condition that is false is one on this definition, and is answered with this
pub record FirstBreach (defs : List SyntaxDef) (syntax : ℕ) (b : Broken) : Type 0 where
  pub definition : SyntaxDef
  pub there : slice_get defs syntax ≡ Some definition
  pub before : SoundTo defs syntax
  pub first : FirstFalse defs (conditions_on (take syntax defs) definition) b

-- ---- lists that can be counted

-- a body has fewer than 2^32 alternatives or fields
abbrev pub HasFewParts : SyntaxBody → Type 0
HasFewParts (body.Alias t) = Unit {0}
HasFewParts (body.Variant alternatives) = length alternatives < 2 ^ 32
HasFewParts (body.Fields fields) = length fields < 2 ^ 32

-- each definition has fewer than 2^32 alternatives or fields
abbrev pub AllHaveFewParts : List SyntaxDef → Type 0
AllHaveFewParts defs = (i : ℕ) (d : SyntaxDef) → slice_get defs i ≡ Some d → HasFewParts d.body
