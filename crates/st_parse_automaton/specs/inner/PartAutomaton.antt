-- What the parser keeps of a part: where each token leads, and what it adds to the actions that
-- build the part. It is the reading of `st_grammar` and its emission, without their trees.
use Rattle.std.specs.Prelude.{ℕ, List, [], ◌∷◌, ◌++◌, Bool, true, false, not, ◌&&◌, Option, Some, None, nat_le, if◌then◌else◌}
use Rattle.std.specs.Option.{option_map}
use Rattle.st_num.specs.declared.mark.Mark.{Mark}
use Rattle.st_num.specs.declared.token.Token.{Token}
use Rattle.st_grammar.specs.declared.sort.Leaf.{Leaf}
use Rattle.st_grammar.specs.declared.sort.Leaf.TheVariants as leaf
use Rattle.st_grammar.specs.declared.sort.Bracket.{Bracket}
use Rattle.st_grammar.specs.declared.sort.Bracket.TheVariants as bracket
use Rattle.st_grammar.specs.declared.sort.Closing.{Closing}
use Rattle.st_grammar.specs.declared.sort.Closing.TheVariants as closing
use Rattle.st_grammar.specs.declared.sort.Sort.{Sort}
use Rattle.st_grammar.specs.declared.sort.Sort.TheVariants as sort
use Rattle.st_grammar.specs.declared.sort.Style.{Style}
use Rattle.st_grammar.specs.declared.sort.Style.TheVariants as style
use Rattle.st_num.specs.Signs.{level as level_of, prefix_level}
use Rattle.st_grammar.specs.Levels.{takes, encloses, inside, computes, is_expression, is_count, juxtaposes, tight, has_level, left_of, right_of, prefix_right, is_iteration_sign, is_type_iteration_sign, is_caret, is_comma, is_colon, is_less, is_change}
use Rattle.st_grammar.specs.Trees.{closed_by, agree}
use Rattle.st_grammar.specs.Grammar.{bracket_style, index_style, opens_length}
use Rattle.st_grammar.specs.Terminals.{Terminal}
use Rattle.st_grammar.specs.Definitions.{token_in}
use Rattle.st_grammar.specs.declared.action.Action.{Action}
use Rattle.st_grammar.specs.declared.action.Action.TheVariants as action
use Rattle.st_parse_automaton.specs.declared.part_automaton.Shape.{Shape}
use Rattle.st_parse_automaton.specs.declared.part_automaton.Shape.TheVariants.{Single, Dot, Sign, Open, Close, Other}
use Rattle.st_parse_automaton.specs.declared.part_automaton.Part.{Part}
use Rattle.st_parse_automaton.specs.declared.part_automaton.Part.TheVariants.{Function, Atom, Names, Typ, Whole}
use Rattle.st_parse_automaton.specs.declared.part_automaton.PartKind.{PartKind}
use Rattle.st_parse_automaton.specs.declared.part_automaton.PartKind.TheVariants.{Plain, Length, Arguments, Index as InIndex, Segment, Update, Below}
use Rattle.st_parse_automaton.specs.declared.part_automaton.Filling.{Filling}
use Rattle.st_parse_automaton.specs.declared.part_automaton.Filling.TheVariants.{Empty, Begun, Parts}
use Rattle.st_parse_automaton.specs.declared.part_automaton.Lead.{Lead}
use Rattle.st_parse_automaton.specs.declared.part_automaton.Lead.TheVariants.{Left, Ahead, Items}
use Rattle.st_parse_automaton.specs.declared.part_automaton.Frame.{Frame}
use Rattle.st_parse_automaton.specs.declared.part_automaton.Frame.TheVariants.{Within, Over, Timing}
use Rattle.st_parse_automaton.specs.declared.part_automaton.Expected.{Expected}
use Rattle.st_parse_automaton.specs.declared.part_automaton.Expected.TheVariants.{Operand, Next, Label, Step, Index as IndexExpected, Less}
use Rattle.st_parse_automaton.specs.inner.Shapes.{shape}

-- how far a part is read: what is expected, and what is open, the innermost first
abbrev pub State : Type 0
State = Expected × List Frame

-- what a token adds to the actions
abbrev pub Emits : Type 0
Emits = Token → List Action

-- where a token leads, and what it adds
abbrev pub Move : Type 0
Move = State × Emits

-- The token adds nothing.
abbrev pub adds_nothing : Emits
adds_nothing x = []

-- the same move behind these actions
abbrev pub acting : List Action → Option Move → Option Move
acting acts None = None
acting acts (Some m) = Some (m.0, λ x. acts ++ m.1 x)

-- where the move leads, with what the token adds behind these actions
abbrev pub leads : List Action → Token → Option Move → Option (State × List Action)
leads acts x None = None
leads acts x (Some m) = Some (m.0, acts ++ m.1 x)

-- ---- positions

-- the sort of the part that is read in this frame
abbrev pub frame_sort : Frame → Sort
frame_sort (Within k f t σ) = σ
frame_sort (Over g σ) = σ
frame_sort Timing = sort.Count

-- the sort of the part that is read innermost; with nothing open it is the base
abbrev pub top : Sort → List Frame → Sort
top base [] = base
top base (f ∷ fs) = frame_sort f

-- the least level of what stands behind such a lead
abbrev pub wanted : Lead → ℕ
wanted (Left m) = right_of m
wanted (Ahead m) = prefix_right m
wanted Items = tight

-- how loose a sign must be to close over a part behind this
abbrev pub reach : Lead → ℕ
reach (Left m) = right_of m
reach (Ahead m) = prefix_right m
reach Items = 14

-- the level of what leads to a last part: that of its sign, or of a sequence
abbrev pub lead_level : Lead → ℕ
lead_level (Left m) = level_of m
lead_level (Ahead m) = prefix_level m
lead_level Items = 14

-- the least level of a part in such a bracket
abbrev pub kind_least : PartKind → ℕ
kind_least InIndex = 13
kind_least Segment = 13
kind_least k = 1

-- the least level that is wanted in this frame
abbrev pub frame_least : Frame → ℕ
frame_least (Within k f t σ) = kind_least k
frame_least (Over g σ) = wanted g
frame_least Timing = 1

-- the least level that is wanted innermost
abbrev pub least : List Frame → ℕ
least [] = 1
least (f ∷ fs) = frame_least f

-- what closes such a bracket
abbrev pub kind_closing : PartKind → Closing
kind_closing (Plain b) = closed_by b
kind_closing Length = closing.ByBar
kind_closing Arguments = closing.ByRound
kind_closing InIndex = closing.BySquare
kind_closing Segment = closing.BySquare
kind_closing (Update m) = closing.BySquare
kind_closing Below = closing.ByRound

-- how the parts in such a bracket are set off, where it stands in a part of this sort
abbrev pub kind_style : Sort → PartKind → Style
kind_style σ (Plain b) = bracket_style b σ
kind_style σ Length = style.Lone
kind_style σ Arguments = style.Parts
kind_style σ InIndex = index_style σ
kind_style σ Segment = style.Ends
kind_style σ (Update m) = style.Lone
kind_style σ Below = style.Lone

-- the sort of the parts in such a bracket, where it stands in a part of this sort
abbrev pub kind_sort : Sort → PartKind → Sort
kind_sort σ (Plain b) = inside σ b
kind_sort σ Length = sort.Expression true
kind_sort σ Arguments = sort.Expression false
kind_sort σ InIndex = sort.Expression false
kind_sort σ Segment = sort.Expression false
kind_sort σ (Update m) = sort.Expression false
kind_sort σ Below = sort.Bound

-- what is expected where such a bracket has opened: in braces the name of a field
abbrev pub kind_expected : PartKind → Expected
kind_expected (Plain bracket.Brace) = Label
kind_expected k = Operand

-- ---- parts

-- the part is the name of a function
abbrev pub is_function : Part → Bool
is_function Function = true
is_function p = false

-- in a notation the part is an atom, which goes on behind dots
abbrev pub is_atom : Part → Bool
is_atom Atom = true
is_atom Names = true
is_atom p = false

-- the part is a name or parentheses, perhaps iterated
abbrev pub is_type : Part → Bool
is_type (Typ b) = true
is_type p = false

-- all of the part reads as a type
abbrev pub reads_type : Part → Bool
reads_type (Typ b) = b
reads_type p = false

-- what part such an operand of one token is
abbrev pub leaf_part : Leaf → Part
leaf_part leaf.Low = Typ true
leaf_part leaf.Basic = Typ true
leaf_part leaf.Variable = Names
leaf_part leaf.Atom = Atom
leaf_part leaf.Number = Whole
leaf_part leaf.Literal = Whole
leaf_part leaf.Function = Function

-- what part a bracket is that has closed, where all in it reads as types or not
abbrev pub kind_part : PartKind → Bool → Part
kind_part (Plain bracket.Round) t = Typ t
kind_part k t = Whole

-- the part with a dot behind it, which touches it or not
abbrev pub dotted : Part → Bool → Part
dotted Atom true = Atom
dotted Atom false = Names
dotted Names t = Names
dotted p t = Whole

-- the part with an iteration sign behind it
abbrev pub marked : Mark → Part → Part
marked m (Typ b) = Typ (is_type_iteration_sign m && b)
marked m p = Whole

-- a dot may stand behind the part, which it touches or not
abbrev pub may_dot : Sort → Part → Bool → Bool
may_dot (sort.Expression b) p t = true
may_dot sort.Arithmetic p t = true
may_dot sort.Notation p t = is_atom p && t
may_dot σ p t = false

-- the sign may iterate the part
abbrev pub may_iterate : Sort → Part → Mark → Bool
may_iterate (sort.Expression b) p m = is_iteration_sign m
may_iterate sort.Notation p m = is_type_iteration_sign m && is_type p
may_iterate sort.Typ p m = is_type_iteration_sign m
may_iterate σ p m = false

-- the token begins a next element of a sequence behind this part
abbrev pub follows : Sort → Part → Shape → Bool
follows σ p (Single k) = juxtaposes σ
follows σ p (Open bracket.Square t) = false
follows σ p (Open bracket.Round t) = juxtaposes σ && not (is_function p && t)
follows σ p (Open b t) = juxtaposes σ
follows σ p (Close c) = opens_length c σ
follows σ p l = false

-- ---- what closes

-- a part is read; behind `^` it is the count
abbrev pub settle : Part → List Frame → State
settle p (Timing ∷ fs) = (Next Whole, fs)
settle p fs = (Next p, fs)

-- the action of a count that has an index, or has none
abbrev pub count_act : Bool → Action
count_act true = action.Below
count_act false = action.Times

-- A part behind `^` is the count there, with an index or without.
abbrev pub settling : Bool → List Frame → List Action
settling b (Timing ∷ fs) = count_act b ∷ []
settling b fs = []

-- a level and a part, with what is open round them
abbrev pub Lowered : Type 0
Lowered = ℕ × Part × List Frame

-- what leads to a last part in this frame, where such a level closes it over the part
abbrev pub closes : Frame → ℕ → Option Lead
closes (Over g σ) n = if nat_le (reach g) n then None else Some g
closes f n = None

-- the part where its frame stays open, or what goes on behind the frame that it closes
abbrev pub lower_at : ℕ → ℕ → Part → Frame → List Frame → (Lead → Lowered) → Option Lead → Lowered
lower_at n v p f fs next None = (v, p, f ∷ fs)
lower_at n v p f fs next (Some g) = next g

-- what binds tighter than this level is closed over the part
abbrev pub lower : ℕ → ℕ → Part → List Frame → Lowered
lower n v p [] = (v, p, [])
lower n v p (f ∷ fs) = lower_at n v p f fs (λ g. lower n (lead_level g) Whole fs) (closes f n)

-- what ends what leads to a last part: a sign joins its sides or is a prefix, a sequence ends
abbrev pub lead_end : Lead → List Action
lead_end (Left m) = action.Join m ∷ []
lead_end (Ahead m) = action.Prefix m ∷ []
lead_end Items = action.Part ∷ action.EndSequence ∷ []

-- the end of what leads to a part, and the later ends behind it, where that closes
abbrev pub lead_closes : List Action → Option Lead → List Action
lead_closes later None = []
lead_closes later (Some g) = lead_end g ++ later

-- the signs and sequences that are closed over a part
abbrev pub lowering : ℕ → List Frame → List Action
lowering n [] = []
lowering n (f ∷ fs) = lead_closes (lowering n fs) (closes f n)

-- what ends a part of a bracket
abbrev pub part_end : PartKind → List Action
part_end (Plain bracket.Round) = action.Part ∷ []
part_end (Plain bracket.Brace) = action.Field ∷ []
part_end Arguments = action.Part ∷ []
part_end k = []

-- the action of a position, or of a position and how many elements where a part stands before
abbrev pub at_act : Filling → Action
at_act Parts = action.Slice
at_act f = action.At

-- the action of the same as a step of a path
abbrev pub step_act : Filling → Action
step_act Parts = action.StepSlice
step_act f = action.StepAt

-- the end of a bracket of each kind that is filled so
abbrev pub kind_end : PartKind → Filling → List Action
kind_end (Plain bracket.Round) f = action.EndParens ∷ []
kind_end (Plain bracket.Brace) f = action.EndFields ∷ []
kind_end (Plain b) f = action.Enclose b ∷ []
kind_end Length f = action.Length ∷ []
kind_end Arguments f = action.EndCall ∷ []
kind_end InIndex f = at_act f ∷ []
kind_end Segment f = step_act f ∷ []
kind_end (Update m) f = action.Change m ∷ []
kind_end Below f = []

-- The bracket holds a count with an index.
abbrev pub is_below : PartKind → Bool
is_below Below = true
is_below k = false

-- a bracket with its parts has closed: it is a step of a path, or a part that is read
abbrev pub shut : PartKind → Bool → List Frame → State
shut Segment t fs = (Step true, fs)
shut k t fs = settle (kind_part k t) fs

-- the end of a bracket, and of the count that it may be
abbrev pub shutting : PartKind → Filling → List Frame → List Action
shutting Segment f fs = kind_end Segment f
shutting k f fs = kind_end k f ++ settling (is_below k) fs

-- what a closing token makes of a part that is read, where it closes the innermost bracket
abbrev pub close : Closing → Lowered → Option Move
close c (v, p, Within k f t σ ∷ fs) =
    if agree (kind_closing k) c
    then Some (shut k (t && reads_type p) fs, λ x. part_end k ++ shutting k f fs) else None
close c q = None

-- the part that is read, where nothing is open round it
abbrev pub ended : Lowered → Option Part
ended (v, p, []) = Some p
ended q = None

-- ---- what begins

-- what is open, with a bracket that opens in a part of this sort
abbrev pub opened : PartKind → Sort → List Frame → List Frame
opened k σ fs = Within k Empty true (kind_sort σ k) ∷ fs

-- what stands before the parts of a bracket that opens there
abbrev pub opening : PartKind → Emits
opening (Plain bracket.Round) x = action.Open x.at ∷ []
opening (Plain bracket.Brace) x = action.OpenFields x.at ∷ []
opening (Plain b) x = action.Here x.at ∷ []
opening Length x = action.Here x.at ∷ []
opening Arguments x = action.Open x.at ∷ []
opening InIndex x = action.OpenPath ∷ []
opening k x = []

-- a bracket opens in a part of this sort
abbrev pub opens : PartKind → Sort → List Frame → Move
opens k σ fs = ((kind_expected k, opened k σ fs), opening k)

-- `)` closes the arguments of a function, which are none
abbrev pub no_arguments : List Frame → Option Move
no_arguments (Within Arguments Empty t σ ∷ fs) =
    Some (settle Whole fs, λ x. action.EndCall ∷ settling false fs)
no_arguments fs = None

-- what a closing token makes where an operand is due: a bar opens a length, and a parenthesis
-- closes arguments that are none
abbrev pub begin_closing : Sort → Closing → List Frame → Option Move
begin_closing base closing.ByBar fs =
    if computes (top base fs) then Some (opens Length (top base fs) fs) else None
begin_closing base closing.ByRound fs = no_arguments fs
begin_closing base c fs = None

-- the token is `(`
abbrev pub is_round : Bracket → Bool
is_round bracket.Round = true
is_round b = false

-- such a bracket opens, where it begins an operand
abbrev pub begin_plain : Sort → Bracket → List Frame → Option Move
begin_plain base b fs =
    if encloses (top base fs) b then Some (opens (Plain b) (top base fs) fs) else None

-- what a token that opens a bracket makes where an operand is due: behind `^` a parenthesis stands
-- before the name of an index
abbrev pub begin_opening : Sort → Bracket → List Frame → Option Move
begin_opening base b fs =
    if is_count (top base fs) && is_round b then Some ((IndexExpected, fs), adds_nothing)
    else begin_plain base b fs

-- a sign without a left side, where it begins an operand
abbrev pub begin_sign : Sort → Mark → List Frame → Option Move
begin_sign base m fs =
    if has_level (top base fs) (prefix_level m) && nat_le (least fs) (prefix_level m)
    then Some ((Operand, Over (Ahead m) (top base fs) ∷ fs), λ x. action.Here x.at ∷ []) else None

-- what a token makes where an operand is due
abbrev pub begin : Sort → List Frame → Shape → Option Move
begin base fs (Single k) =
    if takes (top base fs) k
    then Some (settle (leaf_part k) fs, λ x. action.Operand k x ∷ settling false fs) else None
begin base fs (Dot t) = None
begin base fs (Sign m) = begin_sign base m fs
begin base fs (Open b t) = begin_opening base b fs
begin base fs (Close c) = begin_closing base c fs
begin base fs Other = None

-- ---- what stands behind a part

-- what is open, with one more element of a sequence
abbrev pub extend : Sort → List Frame → List Frame
extend base (Over Items σ ∷ fs) = Over Items σ ∷ fs
extend base fs = Over Items (top base fs) ∷ fs

-- one more element of a sequence, or the first of one
abbrev pub extending : List Frame → List Action
extending (Over Items σ ∷ fs) = action.Part ∷ []
extending fs = action.First ∷ []

-- the part that is read in a bracket is its first one
abbrev pub is_first : Filling → Bool
is_first Parts = false
is_first f = true

-- what is expected behind a sign that sets off a next part, the first or a later one
abbrev pub next_expected : Style → Mark → Bool → Option Expected
next_expected style.Parts m b = if is_comma m then Some Operand else None
next_expected style.Fields m b = if is_comma m then Some Label else None
next_expected style.Ends m b = if b && is_colon m then Some Operand else None
next_expected y m b = None

-- a next part of such a bracket, where something is expected
abbrev pub next_part : PartKind → Option Expected → List Frame → Option Move
next_part k (Some d) fs = Some ((d, fs), λ x. part_end k)
next_part k None fs = None

-- the sign sets off a next part in the innermost bracket
abbrev pub separate : Sort → Mark → Lowered → Option Move
separate base m (v, p, Within k f t σ ∷ fs) =
    next_part k (next_expected (kind_style (top base fs) k) m (is_first f))
    (Within k Parts (t && reads_type p) σ ∷ fs)
separate base m q = None

-- The sign stands between two sides there.
abbrev pub is_joined : Sort → Mark → List Frame → Bool
is_joined base m fs = has_level (top base fs) (level_of m) && nat_le (least fs) (level_of m)

-- the sign makes what is read its left side, or else sets off a next part
abbrev pub join : Sort → Mark → Lowered → Option Move
join base m q =
    if is_joined base m q.2
    then if nat_le (left_of m) q.0
    then Some ((Operand, Over (Left m) (top base q.2) ∷ q.2), adds_nothing) else None
    else separate base m q

-- the level of the sign between two sides in such a part, or 0 where it is none
abbrev pub pull : Sort → Mark → ℕ
pull σ m = if has_level σ (level_of m) then level_of m else 0

-- a sign closes what binds tighter, and joins the part or sets it off
abbrev pub lower_sign : Sort → Mark → Part → List Frame → Option Move
lower_sign base m p fs =
    acting (lowering (pull (top base fs) m) fs)
    (join base m (lower (pull (top base fs) m) tight p fs))

-- what a sign makes behind a part: it iterates it, wants a count, joins it or sets it off
abbrev pub behind_sign : Sort → Mark → Part → List Frame → Option Move
behind_sign base m p fs =
    if may_iterate (top base fs) p m then Some ((Next (marked m p), fs), λ x. action.Mark m ∷ [])
    else if is_expression (top base fs) && is_caret m
    then Some ((Operand, Timing ∷ fs), adds_nothing)
    else lower_sign base m p fs

-- `[` behind a part; no path stands in arithmetic
abbrev pub behind_square : Sort → List Frame → Option Move
behind_square base fs =
    if is_expression (top base fs) then Some ((Step false, fs), λ x. action.OpenPath ∷ [])
    else if computes (top base fs) then Some (opens InIndex (top base fs) fs)
    else None

-- `(` behind a part begins the arguments of a function, which it touches
abbrev pub behind_round : Sort → Bool → Part → List Frame → Option Move
behind_round base t p fs =
    if is_function p && (computes (top base fs) && t) then Some (opens Arguments (top base fs) fs)
    else None

-- what a token that opens a bracket makes behind a part
abbrev pub behind_opening : Sort → Bracket → Bool → Part → List Frame → Option Move
behind_opening base bracket.Square t p fs = behind_square base fs
behind_opening base bracket.Round t p fs = behind_round base t p fs
behind_opening base b t p fs = None

-- a closing token closes all that leads to the part, and the innermost bracket
abbrev pub behind_closing : Closing → Part → List Frame → Option Move
behind_closing c p fs = acting (lowering 0 fs) (close c (lower 0 tight p fs))

-- what a token makes behind a part, where it begins no next element of a sequence
abbrev pub behind : Sort → Part → List Frame → Shape → Option Move
behind base p fs (Single k) = None
behind base p fs (Dot t) =
    if may_dot (top base fs) p t then Some ((Next (dotted p t), fs), λ x. action.Dot x ∷ []) else None
behind base p fs (Sign m) = behind_sign base m p fs
behind base p fs (Open b t) = behind_opening base b t p fs
behind base p fs (Close c) = behind_closing c p fs
behind base p fs Other = None

-- the next element of a sequence begins with the token
abbrev pub begin_next : Sort → List Frame → Shape → Option Move
begin_next base fs l = acting (extending fs) (begin base (extend base fs) l)

-- what a token makes behind a part
abbrev pub after : Sort → Part → List Frame → Shape → Option Move
after base p fs l =
    if follows (top base fs) p l then begin_next base fs l else behind base p fs l

-- ---- paths and counts

-- behind `[` and no step of a path an expression begins
abbrev pub in_index : Sort → Bool → List Frame → Shape → Option Move
in_index base true fs l = None
in_index base false fs l = begin base (opened InIndex (top base fs) fs) l

-- what a token that opens a bracket makes in a path, which has a step or not
abbrev pub path_opening : Sort → Bool → List Frame → Bracket → Bool → Option Move
path_opening base s fs bracket.Square t = Some (opens Segment (top base fs) fs)
path_opening base s fs b t = in_index base s fs (Open b t)

-- what a token makes in a path: a step, or a sign of change and the new value
abbrev pub in_path : Sort → Bool → List Frame → Shape → Option Move
in_path base s fs (Dot t) = Some ((Step true, fs), λ x. action.StepField x ∷ [])
in_path base s fs (Open b t) = path_opening base s fs b t
in_path base s fs (Sign m) =
    if s && is_change m then Some (opens (Update m) (top base fs) fs)
    else in_index base s fs (Sign m)
in_path base s fs l = in_index base s fs l

-- the token is the name of a field
abbrev pub is_label : Shape → Bool
is_label (Single leaf.Atom) = true
is_label (Single leaf.Variable) = true
is_label l = false

-- how far a bracket is filled behind the name of a field
abbrev pub named : Filling → Filling
named Parts = Parts
named f = Begun

-- the name of a field, in braces alone
abbrev pub naming : PartKind → Emits
naming (Plain bracket.Brace) x = action.Label x ∷ []
naming k x = []

-- the name of a field, and then its part is due
abbrev pub name_field : List Frame → Shape → Option Move
name_field (Within k f t σ ∷ fs) l =
    if is_label l then Some ((Operand, Within k (named f) t σ ∷ fs), naming k) else None
name_field fs l = None

-- The name of an index goes with the count that stands directly behind `^`.
abbrev pub index_label : Token → List Frame → List Action
index_label i (Timing ∷ fs) = action.Label i ∷ []
index_label i fs = []

-- behind `^ (` the name of an index
abbrev pub name_index : List Frame → Shape → Option Move
name_index fs (Single leaf.Low) = Some ((Less, fs), λ x. index_label x fs)
name_index fs l = None

-- behind `^ (` and the name of an index a `<`, and then the bound is due
abbrev pub bound_index : Sort → List Frame → Shape → Option Move
bound_index base fs (Sign m) = if is_less m then Some (opens Below (top base fs) fs) else None
bound_index base fs l = None

-- ---- the reading

-- what a token makes of a state, where the grammar allows it there: where it leads, and what it
-- adds
abbrev pub step : Sort → State → Shape → Option Move
step base (Operand, fs) l = begin base fs l
step base (Next p, fs) l = after base p fs l
step base (Label, fs) l = name_field fs l
step base (Step s, fs) l = in_path base s fs l
step base (IndexExpected, fs) l = name_index fs l
step base (Less, fs) l = bound_index base fs l

-- where a token leads
abbrev pub next : Sort → State → Shape → Option State
next base st l = option_map (λ m. m.0) (step base st l)

-- what a token adds that leads on, and else nothing
abbrev pub added : Token → Option Move → List Action
added x None = []
added x (Some m) = m.1 x

-- what a token adds to the actions
abbrev pub emits : Sort → State → Shape → Token → List Action
emits base st l x = added x (step base st l)

-- the part that is read, where it may end here
abbrev pub finish : State → Option Part
finish (Next p, fs) = ended (lower 0 tight p fs)
finish st = None

-- what the end of the part adds
abbrev pub finishing : State → List Action
finishing (Next p, fs) = lowering 0 fs
finishing st = []

-- what a token adds, and then all that those behind it add, where it leads on
abbrev pub followed : (State → List Action) → Token → Option Move → List Action
followed later x None = []
followed later x (Some m) = m.1 x ++ later m.0

-- all that the tokens of a part and its end add
abbrev pub emissions : Sort → State → List Terminal → List Action
emissions base st [] = finishing st
emissions base st (l ∷ w) =
    followed (λ later. emissions base later w) (token_in l) (step base st (shape l))
