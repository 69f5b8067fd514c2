-- The places of what is false of the parts of a syntax.
use Rattle.std.specs.Prelude.{[], ◌≡◌, ℕ, zero, suc, ◌≤◌, List, ◌∷◌, length, take, flat_map, slice_get, Bool, true, false, Some}
use Rattle.std.specs.List.{AllByRecursion}
use Rattle.st_num.specs.declared.rule.RuleId.{RuleId}
use Rattle.st_num.specs.declared.rule.RuleId.TheVariants.{B2, Y7}
use Rattle.st_num.specs.declared.span.Span.{Span}
use Rattle.st_el.specs.declared.notation.Notation.{Notation, out-Notation}
use Rattle.st_el.specs.declared.notation.NotNode.{NotNode}
use Rattle.st_el.specs.declared.notation.NotNode.TheOpen.{NotNode-F}
use Rattle.st_el.specs.declared.ty.Typ.{Typ, out-Typ}
use Rattle.st_el.specs.declared.ty.TypNode.{TypNode}
use Rattle.st_el.specs.declared.ty.TypNode.TheOpen.{TypNode-F}
use Rattle.st_elab_sig.specs.Signatures.{holes_of}
use Rattle.st_elab_def.specs.declared.names.Named.{Named}
use Rattle.st_il.specs.declared.definition.Alternative.{Alternative}
use Rattle.st_elab_def.specs.DeclsOf.{type_node, not_node, alternative_of}
use Rattle.st_elab_def.specs.Phases.{names_in}

-- the place of the name of this number, or that of the part
abbrev pub name_place : List Named → ℕ → Span → Span
name_place [] number part = part
name_place (n ∷ ns) zero part = n.at
name_place (n ∷ ns) (suc number) part = name_place ns number part

-- the place in a type that is an alternative by itself
abbrev pub bare_place : Span → Typ → RuleId → Span
bare_place part t B2 = (out-Typ t).at
bare_place part t rule = part

-- the place in a case
abbrev pub case_place : Notation → ℕ → RuleId → Span
case_place n number Y7 = (out-Notation n).at
case_place n number rule = name_place (flat_map names_in (holes_of n)) number (out-Notation n).at

-- the place in an alternative: in a type that stands by itself, or in a case
abbrev pub place_at : Notation → NotNode-F NotNode Notation → ℕ → RuleId → Span
place_at n (NotNode-F.Hole t) number rule = bare_place (out-Notation n).at t rule
place_at n node number rule = case_place n number rule

-- the place of what is false of an alternative
abbrev pub alternative_place : Notation → ℕ → RuleId → Span
alternative_place n number rule = place_at n (not_node n) number rule

-- the place of what is false of one of these alternatives
abbrev pub cases_place : List Notation → ℕ → ℕ → RuleId → Span → Span
cases_place [] part number rule whole = whole
cases_place (n ∷ ns) zero number rule whole = alternative_place n number rule
cases_place (n ∷ ns) (suc part) number rule whole = cases_place ns part number rule whole

-- the place of what is false of a field
abbrev pub field_place : List ℕ × Typ → ℕ → RuleId → Span → Span
field_place f number B2 whole = name_place (names_in f.1) number whole
field_place f number rule whole = whole

-- the place of what is false of one of these fields
abbrev pub fields_place : List (List ℕ × Typ) → ℕ → ℕ → RuleId → Span → Span
fields_place [] part number rule whole = whole
fields_place (f ∷ fs) zero number rule whole = field_place f number rule whole
fields_place (f ∷ fs) (suc part) number rule whole = fields_place fs part number rule whole

-- the type is no name
abbrev pub is_nameless : TypNode-F TypNode Typ → Bool
is_nameless (TypNode-F.Name name) = false
is_nameless node = true

-- a notation of this top level is a type by itself that is no name
abbrev pub is_bare_at : NotNode-F NotNode Notation → Bool
is_bare_at (NotNode-F.Hole t) = is_nameless (type_node t)
is_bare_at node = false

-- the notation is a type by itself that is no name
abbrev pub is_bare : Notation → Bool
is_bare n = is_bare_at (not_node n)

-- The notation is one alternative.
abbrev pub IsAlternative : Notation → Type 0
IsAlternative n = (a : Alternative) × (alternative_of n ≡ a ∷ [])

-- so many of the notations are alternatives, and the next one, if there is one, is a type by
-- itself that is no name
pub record StandBeforeBare (ns : List Notation) (count : ℕ) : Type 0 where
  pub within : count ≤ length ns
  pub alternatives : AllByRecursion IsAlternative (take count ns)
  pub bare : (n : Notation) → slice_get ns count ≡ Some n → is_bare n ≡ true
