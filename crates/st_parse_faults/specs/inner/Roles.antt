-- What a token adds to the tallies, by what the parser keeps before it and behind it.
use Rattle.std.specs.Prelude.{ℕ, ◌+◌, ◌≤◌, List, [], ◌∷◌, Bool, true, false, ◌&&◌, if◌then◌else◌}
use Rattle.st_num.specs.declared.limit.TheConstants.{MOST_PARTS, MOST_SIGNS}
use Rattle.st_grammar.specs.declared.sort.Bracket.TheVariants as bracket
use Rattle.st_grammar.specs.declared.sort.Closing.TheVariants as closing
use Rattle.st_grammar.specs.declared.sort.Sort.{Sort}
use Rattle.st_grammar.specs.declared.sort.Sort.TheVariants as sorts
use Rattle.st_parse_automaton.specs.declared.part_automaton.Shape.{Shape}
use Rattle.st_parse_automaton.specs.declared.part_automaton.Shape.TheVariants.{Single, Dot, Sign, Open, Close}
use Rattle.st_parse_automaton.specs.declared.part_automaton.Part.{Part}
use Rattle.st_parse_automaton.specs.declared.part_automaton.Part.TheVariants.{Atom}
use Rattle.st_parse_automaton.specs.declared.part_automaton.Lead.TheVariants.{Left}
use Rattle.st_parse_automaton.specs.declared.part_automaton.Frame.{Frame}
use Rattle.st_parse_automaton.specs.declared.part_automaton.Frame.TheVariants.{Over, Timing}
use Rattle.st_parse_automaton.specs.declared.part_automaton.Expected.TheVariants.{Operand, Next, Label, Step}
use Rattle.st_parse_automaton.specs.declared.position.Slot.{Slot}
use Rattle.st_parse_automaton.specs.declared.position.Slot.TheVariants as slot
use Rattle.st_parse_automaton.specs.inner.PartAutomaton as parts
use Rattle.st_parse_automaton.specs.inner.DefinitionAutomaton as definitions
use Rattle.st_parse_faults.specs.declared.role.Attachment.{Attachment}
use Rattle.st_parse_faults.specs.declared.role.Attachment.TheVariants as attachment
use Rattle.st_parse_faults.specs.declared.role.TokenRole.{TokenRole}
use Rattle.st_parse_faults.specs.declared.role.TokenRole.TheVariants as role
use Rattle.st_parse_faults.specs.declared.role.Shift.{Shift}
use Rattle.st_parse_faults.specs.declared.role.Shift.TheVariants as shift_case
use Rattle.st_parse_faults.specs.declared.tally.Tally.{Tally}
use Rattle.st_parse_faults.specs.Signs.{is_turnstile}
use Rattle.st_parse_faults.specs.inner.Limits.{tally, fresh, with_one}

-- a part begins here, and nothing of it is read yet
abbrev pub none_open : parts.State → Bool
none_open (Operand, []) = true
none_open st = false

-- ---- how the token stands

-- a count behind `^` is due
abbrev pub is_timing : List Frame → Bool
is_timing (Timing ∷ fs) = true
is_timing fs = false

-- how a token stands behind `[` and no step of a path
abbrev pub head_attachment : Shape → Attachment
head_attachment (Dot t) = attachment.Other
head_attachment (Open bracket.Square t) = attachment.Other
head_attachment s = attachment.Begins

-- outside notations the part is an atom
abbrev pub is_atom : Part → Bool
is_atom Atom = true
is_atom p = false

-- a dot goes on with the name of an atom: in a notation it always does
abbrev pub dot_goes_on : Sort → Part → Bool → Bool
dot_goes_on sorts.Notation p t = true
dot_goes_on σ p t = is_atom p && t

-- the token goes on with the name of an atom
abbrev pub is_in_name : Sort → Part → Shape → Bool
is_in_name σ p (Dot t) = dot_goes_on σ p t
is_in_name σ p s = false

-- how a token stands behind a part, where it begins no next element
abbrev pub behind_attachment : Bool → Attachment
behind_attachment b = if b then attachment.Other else attachment.Behind

-- how a token stands behind a part, which begins a next element or does not
abbrev pub next_attachment : Sort → Part → Shape → Attachment
next_attachment σ p s =
    if parts.follows σ p s then attachment.Begins else behind_attachment (is_in_name σ p s)

-- how a token stands in a part, where this much of it is read
abbrev pub part_attachment : Sort → parts.State → Shape → Attachment
part_attachment base (Operand, fs) s = if is_timing fs then attachment.Other else attachment.Begins
part_attachment base (Next p, fs) s = next_attachment (parts.top base fs) p s
part_attachment base (Label, fs) s = attachment.Names
part_attachment base (Step false, fs) s = head_attachment s
part_attachment base st s = attachment.Other

-- how a token stands where this much of the definitions is read
abbrev pub attachment_of : definitions.State → Shape → Attachment
attachment_of (definitions.at p ks) s = attachment.Begins
attachment_of (definitions.inside k st ks) s = part_attachment (definitions.slot_sort k) st s

-- ---- what it adds

-- what a token that begins an operand adds to the tally
abbrev pub first_role : Shape → TokenRole
first_role (Single k) = role.Operand
first_role (Open b t) = role.Operand
first_role (Close closing.ByBar) = role.Operand
first_role (Sign m) = if is_turnstile m then role.Infix else role.Prefix
first_role s = role.Nothing

-- what a sign behind an operand adds to the tally, by the reading behind it
abbrev pub sign_role : parts.State → TokenRole
sign_role (Next p, fs) = role.Postfix
sign_role (Operand, Timing ∷ fs) = role.Postfix
sign_role (Operand, Over (Left m) σ ∷ fs) = role.Infix
sign_role st = role.Separator

-- what a token behind an operand adds to the tally, by the reading behind it
abbrev pub behind_role : Shape → parts.State → TokenRole
behind_role (Dot t) next = role.Postfix
behind_role (Open bracket.Square t) next = role.Postfix
behind_role (Sign m) next = sign_role next
behind_role s next = role.Nothing

-- what a token adds to the tally, by how it stands and the reading behind it
abbrev pub role_of : Attachment → Shape → parts.State → TokenRole
role_of attachment.Begins s next = first_role s
role_of attachment.Behind s next = behind_role s next
role_of attachment.Names s next = role.Label
role_of attachment.Other s next = role.Nothing

-- what a bar opens or closes: an operand is due behind one that opens
abbrev pub bar_shift : parts.State → Shift
bar_shift (Operand, fs) = shift_case.OpensLength
bar_shift st = shift_case.ClosesLength

-- what a token opens or closes, by the reading behind it
abbrev pub shift_of : Shape → parts.State → Shift
shift_of (Open b t) next = shift_case.Opens
shift_of (Close closing.ByBar) next = bar_shift next
shift_of (Close c) next = shift_case.Closes
shift_of s next = shift_case.Stays

-- ---- tallies

-- no number of the tally passes its limit
abbrev pub TallyKept : Tally → Type 0
TallyKept y =
    (y.parts ≤ MOST_PARTS) × (y.elements ≤ MOST_PARTS) × (y.signs ≤ MOST_SIGNS)
    × (y.row ≤ MOST_SIGNS)

-- the parts that are begun, with the next one where it is due
abbrev pub begun : Tally → ℕ
begun y = with_one y.due y.parts

-- the tally with what such a token adds
abbrev pub counted : Tally → TokenRole → Tally
counted y role.Operand = tally (begun y) (y.elements + 1) y.signs 0 false
counted y role.Prefix = tally (begun y) 0 y.signs (y.row + 1) false
counted y role.Infix = tally (begun y) 0 (y.signs + 1) 0 false
counted y role.Postfix = tally y.parts y.elements y.signs (y.row + 1) y.due
counted y role.Separator = tally y.parts 0 y.signs 0 true
counted y role.Label = tally (y.parts + 1) 0 y.signs 0 false
counted y role.Nothing = y

-- the innermost tally with what such a token adds
abbrev pub change : TokenRole → List Tally → List Tally
change d [] = []
change d (y ∷ ys) = counted y d ∷ ys

-- the tallies where a length closes: the one round it takes over its signs
abbrev pub carry : List Tally → List Tally
carry (x ∷ y ∷ ys) = tally y.parts y.elements x.signs y.row y.due ∷ ys
carry ys = []

-- the signs between two sides so far, between the innermost brackets
abbrev pub signs_here : List Tally → ℕ
signs_here [] = 0
signs_here (y ∷ ys) = y.signs

-- the tallies without the innermost
abbrev pub inner_ends : List Tally → List Tally
inner_ends [] = []
inner_ends (y ∷ ys) = ys

-- the tallies behind a token that opens or closes this
abbrev pub shift : Shift → List Tally → List Tally
shift shift_case.Opens ys = fresh 0 ∷ ys
shift shift_case.OpensLength ys = fresh (signs_here ys) ∷ ys
shift shift_case.Closes ys = inner_ends ys
shift shift_case.ClosesLength ys = carry ys
shift shift_case.Stays ys = ys

-- the tallies behind a token that goes on with a part
abbrev pub moved : Attachment → Shape → parts.State → List Tally → List Tally
moved k s next ys = shift (shift_of s next) (change (role_of k s next) ys)

-- the tallies where a part begins; for an argument of a definition the signs before it count
abbrev pub part_begins : Slot → ℕ → List Tally
part_begins (slot.Argument e t) n = fresh n ∷ []
part_begins c n = fresh 0 ∷ []

-- the first tallies where a part begins here, and else the second
abbrev pub begun_or : Bool → List Tally → List Tally → List Tally
begun_or true xs ys = xs
begun_or false xs ys = ys

-- the tallies behind a token, by how it stood and what is read behind it
abbrev pub tallies_after : Attachment → Shape → definitions.State → List Tally → List Tally
tallies_after k s (definitions.at p ks) ys = fresh 0 ∷ []
tallies_after k s (definitions.inside c st ks) ys =
    begun_or (none_open st) (part_begins c (signs_here ys)) (moved k s st ys)
