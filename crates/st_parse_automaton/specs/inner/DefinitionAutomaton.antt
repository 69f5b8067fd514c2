-- What the parser keeps of a reading of definitions, and what each token makes of it: the reading
-- of `st_grammar` without its trees.
use Rattle.std.specs.Prelude.{List, [], ◌∷◌, ◌++◌, length, Bool, true, false, not, ◌&&◌, ◌||◌, Option, Some, None, if◌then◌else◌}
use Rattle.std.specs.Option.{option_map}
use Rattle.st_num.specs.declared.mark.Mark.{Mark}
use Rattle.st_num.specs.declared.token.Token.{Token}
use Rattle.st_grammar.specs.declared.action.Action.{Action}
use Rattle.st_grammar.specs.declared.sort.Leaf.TheVariants as leaf
use Rattle.st_grammar.specs.declared.sort.Bracket.{Bracket}
use Rattle.st_grammar.specs.declared.sort.Bracket.TheVariants as bracket
use Rattle.st_grammar.specs.declared.sort.Closing.{Closing}
use Rattle.st_grammar.specs.declared.sort.Closing.TheVariants as closing
use Rattle.st_grammar.specs.declared.sort.Sort.{Sort}
use Rattle.st_grammar.specs.declared.sort.Sort.TheVariants as sort
use Rattle.st_grammar.specs.declared.keyword.Keyword.{Keyword}
use Rattle.st_grammar.specs.declared.keyword.Keyword.TheVariants as key
use Rattle.st_grammar.specs.Levels.{is_iteration_sign, is_caret, is_comma, is_colon}
use Rattle.st_grammar.specs.Trees.{closed_by, agree}
use Rattle.st_grammar.specs.Definitions.{is_slash, is_minus, is_equal, is_dots}
use Rattle.st_parse_automaton.specs.declared.part_automaton.Shape.{Shape}
use Rattle.st_parse_automaton.specs.declared.part_automaton.Shape.TheVariants.{Single, Sign, Open, Close}
use Rattle.st_parse_automaton.specs.declared.part_automaton.Part.{Part}
use Rattle.st_parse_automaton.specs.declared.part_automaton.Expected.TheVariants.{Operand}
use Rattle.st_parse_automaton.specs.declared.position.TokenClass.{TokenClass}
use Rattle.st_parse_automaton.specs.declared.position.Host.{Host}
use Rattle.st_parse_automaton.specs.declared.position.Host.TheVariants as host
use Rattle.st_parse_automaton.specs.declared.position.CaseAt.{CaseAt}
use Rattle.st_parse_automaton.specs.declared.position.CaseAt.TheVariants as case
use Rattle.st_parse_automaton.specs.declared.position.Slot.{Slot}
use Rattle.st_parse_automaton.specs.declared.position.Slot.TheVariants as slot
use Rattle.st_parse_automaton.specs.declared.position.IterationState.{IterationState}
use Rattle.st_parse_automaton.specs.declared.position.IterationState.TheVariants as iterations
use Rattle.st_parse_automaton.specs.declared.position.Position.{Position}
use Rattle.st_parse_automaton.specs.declared.position.Position.TheVariants as position
use Rattle.st_parse_automaton.specs.declared.position.Advance.{Advance}
use Rattle.st_parse_automaton.specs.declared.position.Advance.TheVariants as advance_case
use Rattle.st_parse_automaton.specs.inner.PartAutomaton as parts

-- how far definitions are read: at a position between parts or in a part, and the brackets that
-- are open there, the innermost first
pub data State : Type 0 where
  at : Position → List Bracket → State
  inside : Slot → parts.State → List Bracket → State

-- ---- tests

-- such a token is a sign of this kind
abbrev pub shape_signed : (Mark → Bool) → Shape → Bool
shape_signed p (Sign m) = p m
shape_signed p s = false

-- the token is a sign of this kind
abbrev pub signed : (Mark → Bool) → TokenClass → Bool
signed p l = shape_signed p l.shape

-- such a token is a name that begins with a lower-case letter
abbrev pub shape_low : Shape → Bool
shape_low (Single leaf.Low) = true
shape_low s = false

-- the token is a name that begins with a lower-case letter
abbrev pub is_low : TokenClass → Bool
is_low l = shape_low l.shape

-- such a token is a name right behind a dollar sign
abbrev pub shape_fun : Shape → Bool
shape_fun (Single leaf.Function) = true
shape_fun s = false

-- the token is a name right behind a dollar sign
abbrev pub is_fun : TokenClass → Bool
is_fun l = shape_fun l.shape

-- the token is the name of a field
abbrev pub is_label : TokenClass → Bool
is_label l = parts.is_label l.shape

-- the token is the name of a relation
abbrev pub names_relation : TokenClass → Bool
names_relation l = l.mix || is_label l

-- the token is a name of any kind
abbrev pub is_name : TokenClass → Bool
is_name l = is_low l || names_relation l

-- such a token is this closing token
abbrev pub shape_closes : Closing → Shape → Bool
shape_closes c (Close d) = agree d c
shape_closes c s = false

-- the token is a bar
abbrev pub is_bar : TokenClass → Bool
is_bar l = shape_closes closing.ByBar l.shape

-- the token is `)`
abbrev pub closes_round : TokenClass → Bool
closes_round l = shape_closes closing.ByRound l.shape

-- the token is `}`
abbrev pub closes_brace : TokenClass → Bool
closes_brace l = shape_closes closing.ByBrace l.shape

-- such a token is `(`
abbrev pub shape_round : Shape → Bool
shape_round (Open bracket.Round t) = true
shape_round s = false

-- the token is `(`
abbrev pub opens_round : TokenClass → Bool
opens_round l = shape_round l.shape

-- such a token is `{`
abbrev pub shape_brace : Shape → Bool
shape_brace (Open bracket.Brace t) = true
shape_brace s = false

-- the token is `{`
abbrev pub opens_brace : TokenClass → Bool
opens_brace l = shape_brace l.shape

-- whether a piece of a name is due behind the token, where it goes on with the name
abbrev pub id_step : Bool → TokenClass → Option Bool
id_step true l = if l.touching && l.piece then Some false else None
id_step false l =
    if l.touching && signed is_minus l then Some true
    else if l.touching && l.dot then Some false
    else None

-- what is still to be closed behind the token, the innermost first
abbrev pub balance : List Bracket → Shape → Option (List Bracket)
balance ks (Open k t) = Some (k ∷ ks)
balance ks (Close closing.ByBar) = Some ks
balance [] (Close c) = None
balance (k ∷ ks) (Close c) = if agree (closed_by k) c then Some ks else None
balance ks s = Some ks

-- ---- positions

-- the sort of the part that is read for this
abbrev pub slot_sort : Slot → Sort
slot_sort slot.Field = sort.Typ
slot_sort (slot.Case c) = sort.Notation
slot_sort slot.Var = sort.Typ
slot_sort slot.Notation = sort.Notation
slot_sort slot.Fun = sort.Typ
slot_sort (slot.Argument e t) = sort.Expression false
slot_sort slot.Rule = sort.Expression false
slot_sort slot.Condition = sort.Expression false
slot_sort slot.Count = sort.Count

-- a `)` stands last behind a condition, which wants an iteration
abbrev pub wants_iteration : IterationState → Bool
wants_iteration iterations.Wanted = true
wants_iteration m = false

-- a `)` stands behind a condition, perhaps with iterations
abbrev pub has_closed : IterationState → Bool
has_closed iterations.None = false
has_closed m = true

-- no bracket is open
abbrev pub is_empty : List Bracket → Bool
is_empty [] = true
is_empty ks = false

-- definitions may end behind this, with its hints
abbrev pub host_whole : Host → Bool
host_whole host.Case = true
host_whole host.Var = true
host_whole host.Notation = true
host_whole host.Fun = true
host_whole h = false

-- Definitions may end at the position.
abbrev pub whole : Position → List Bracket → Bool
whole position.Between ks = true
whole (position.Hinted h b) ks = host_whole h
whole position.Premised ks = true
whole (position.Iterated m) ks = is_empty ks && not (wants_iteration m)
whole p ks = false

-- a part begins that is read for this
abbrev pub start_of : Slot → List Bracket → State
start_of s ks = inside s (Operand, []) ks

-- the state, where this holds
abbrev pub when : Bool → State → Option State
when b st = if b then Some st else None

-- ---- steps

-- such a word begins a next definition, whose name is due
abbrev pub begin_def : Keyword → List Bracket → Option State
begin_def key.SyntaxWord ks = Some (at position.SyntaxName ks)
begin_def key.RelationWord ks = Some (at position.RelationName ks)
begin_def key.RuleWord ks = Some (at position.RuleName ks)
begin_def key.VarWord ks = Some (at position.VarName ks)
begin_def key.DefWord ks = Some (at position.FunName ks)
begin_def k ks = None

-- what a token makes where an alternative may begin, and where it begins no notation
abbrev pub enter_case : CaseAt → TokenClass → List Bracket → Option State
enter_case case.Start l ks =
    if opens_brace l then Some (at (position.FieldName true) ks)
    else if signed is_dots l then Some (at position.Dotted ks)
    else when (is_bar l) (at (position.Entering (slot.Case case.Led)) ks)
enter_case case.Barred l ks = when (signed is_dots l) (at position.Between ks)
enter_case c l ks = None

-- what a token makes where a part may begin, and where it begins none
abbrev pub enter_other : Slot → TokenClass → List Bracket → Option State
enter_other (slot.Case c) l ks = enter_case c l ks
enter_other (slot.Argument true t) l ks = when (closes_round l) (at (position.ArgumentsClosed t) ks)
enter_other s l ks = None

-- behind `{` or a comma the name of a field, or `}` where there is no field
abbrev pub field_step : Bool → TokenClass → List Bracket → Option State
field_step true l ks =
    if is_label l then Some (start_of slot.Field ks)
    else when (closes_brace l) (at position.Between ks)
field_step false l ks = when (is_label l) (start_of slot.Field ks)

-- what a token makes behind hints, or where they may stand
abbrev pub host_step : Host → Bool → TokenClass → List Bracket → Option State
host_step host.Syntax b l ks =
    if b && signed is_slash l then Some (at (position.SyntaxId true) ks)
    else when (signed is_equal l) (at (position.Entering (slot.Case case.Start)) ks)
host_step host.Field b l ks =
    if signed is_comma l then Some (at (position.FieldName false) ks)
    else when (closes_brace l) (at position.Between ks)
host_step host.Case b l ks = when (is_bar l) (at (position.Entering (slot.Case case.Barred)) ks)
host_step host.Relation b l ks = when (signed is_colon l) (start_of slot.Notation ks)
host_step h b l ks = None

-- `hint` begins a hint, and another token goes on behind the hints
abbrev pub hint_or : Keyword → Host → Bool → TokenClass → List Bracket → Option State
hint_or key.HintWord h b l ks = Some (at (position.HintOpen h) ks)
hint_or k h b l ks = host_step h b l ks

-- in a hint: a token that stays balanced goes on with it, and a further `)` ends it
abbrev pub hint_step : Host → List Bracket → TokenClass → Option (List Bracket) → Option State
hint_step h ks l (Some js) = Some (at (position.HintWords h) js)
hint_step h [] l None = when (closes_round l) (at (position.Hinted h false) [])
hint_step h ks l None = None

-- a token goes on with a name, or else, where the name is whole, does what stands last
abbrev pub id_goes : Option Bool → Bool → (Bool → State) → Option State → Option State
id_goes (Some e) d next o = Some (next e)
id_goes None true next o = None
id_goes None false next o = o

-- `:` behind the name of a rule, whose conclusion is due
abbrev pub colon_step : TokenClass → List Bracket → Option State
colon_step l ks = when (signed is_colon l) (start_of slot.Rule ks)

-- behind the arguments: `:`, where they are types, and the type of the result is due,
-- or `=` and the result is due
abbrev pub result_step : Bool → TokenClass → List Bracket → Option State
result_step b l ks =
    if signed is_colon l && b then Some (start_of slot.Fun ks)
    else when (signed is_equal l) (start_of slot.Rule ks)

-- behind `--` and each `(`: one more `(`, or the name of a relation
abbrev pub premise_step : TokenClass → List Bracket → Option State
premise_step l ks =
    if opens_round l then Some (at position.PremiseOpen (bracket.Round ∷ ks))
    else when (names_relation l) (at position.GoalColon ks)

-- behind `--` and each `(`: `if`, `otherwise`, one more `(`, or the name of a relation
abbrev pub premise_word : Keyword → TokenClass → List Bracket → Option State
premise_word key.IfWord l ks = Some (start_of slot.Condition ks)
premise_word key.OtherwiseWord l [] = Some (at position.Premised [])
premise_word k l ks = premise_step l ks

-- `--` begins a next premise
abbrev pub next_premise : Keyword → List Bracket → Option State
next_premise key.Dashes ks = Some (at position.PremiseOpen ks)
next_premise k ks = None

-- the brackets without the innermost
abbrev pub tail : List Bracket → List Bracket
tail [] = []
tail (k ∷ ks) = ks

-- behind a condition: `)`, an iteration, or the `--` of a next premise
abbrev pub iterate : IterationState → TokenClass → List Bracket → Option State
iterate m l ks =
    if closes_round l && (not (is_empty ks) && not (wants_iteration m))
    then Some (at (position.Iterated iterations.Wanted) (tail ks))
    else if signed is_iteration_sign l && has_closed m
    then Some (at (position.Iterated iterations.Complete) ks)
    else if signed is_caret l && has_closed m then Some (start_of slot.Count ks)
    else if is_empty ks && not (wants_iteration m) then next_premise l.keyword ks
    else None

-- what a token makes at a position where a name, or one sign, leads on to a next position
abbrev pub own_name : Position → TokenClass → List Bracket → Option State
own_name position.SyntaxName l ks = when (is_low l) (at (position.Hinted host.Syntax true) ks)
own_name position.VarName l ks = when (is_low l || is_label l) (at position.VarColon ks)
own_name position.RelationName l ks =
    when (names_relation l) (at (position.Hinted host.Relation false) ks)
own_name position.RuleName l ks = when (names_relation l) (at position.RuleColon ks)
own_name position.FunName l ks = when (is_fun l) (at position.FunNamed ks)
own_name (position.HintOpen h) l ks = when (opens_round l) (at (position.HintName h) ks)
own_name (position.HintName h) l ks = when (is_name l) (at (position.HintWords h) ks)
own_name position.Dotted l ks = when (is_bar l) (at (position.Entering (slot.Case case.Led)) ks)
own_name p l ks = None

-- what a token makes at a position, where it goes on with what stands before
abbrev pub own : Position → TokenClass → List Bracket → Option State
own position.Between l ks = None
own position.SyntaxName l ks = when (is_low l) (at (position.Hinted host.Syntax true) ks)
own position.VarName l ks = when (is_low l || is_label l) (at position.VarColon ks)
own position.VarColon l ks = when (signed is_colon l) (start_of slot.Var ks)
own position.RelationName l ks =
    when (names_relation l) (at (position.Hinted host.Relation false) ks)
own position.RuleName l ks = when (names_relation l) (at position.RuleColon ks)
own position.RuleColon l ks =
    if signed is_slash l then Some (at (position.RuleId true) ks) else colon_step l ks
own position.FunName l ks = when (is_fun l) (at position.FunNamed ks)
own position.FunNamed l ks =
    if opens_round l && l.touching then Some (at (position.Entering (slot.Argument true true)) ks)
    else result_step true l ks
own (position.Argued t) l ks =
    if signed is_comma l then Some (start_of (slot.Argument false t) ks)
    else when (closes_round l) (at (position.ArgumentsClosed t) ks)
own (position.ArgumentsClosed t) l ks = result_step t l ks
own (position.SyntaxId d) l ks =
    id_goes (id_step d l) d (λ e. at (position.SyntaxId e) ks)
    (hint_or l.keyword host.Syntax false l ks)
own (position.RuleId d) l ks =
    id_goes (id_step d l) d (λ e. at (position.RuleId e) ks) (colon_step l ks)
own (position.Hinted h b) l ks = hint_or l.keyword h b l ks
own (position.HintOpen h) l ks = when (opens_round l) (at (position.HintName h) ks)
own (position.HintName h) l ks = when (is_name l) (at (position.HintWords h) ks)
own (position.HintWords h) l ks = hint_step h ks l (balance ks l.shape)
own (position.Entering s) l ks = enter_other s l ks
own position.Dotted l ks = when (is_bar l) (at (position.Entering (slot.Case case.Led)) ks)
own (position.FieldName b) l ks = field_step b l ks
own position.Premised l ks = next_premise l.keyword ks
own position.PremiseOpen l ks = premise_word l.keyword l ks
own position.GoalColon l ks = when (signed is_colon l) (start_of slot.Condition ks)
own (position.Iterated m) l ks = iterate m l ks

-- the first of two states, or the second where there is no first
abbrev pub first_of_two : Option State → Option State → Option State
first_of_two (Some st) o = Some st
first_of_two None o = o

-- where definitions may end, such a word begins a next one
abbrev pub turn : Bool → Keyword → List Bracket → Option State
turn b k ks = if b then begin_def k ks else None

-- what a token makes at a position where it begins no part: it goes on, or begins a next
-- definition behind whole ones
abbrev pub position_step : Position → TokenClass → List Bracket → Option State
position_step p l ks = first_of_two (own p l ks) (turn (whole p ks) l.keyword ks)

-- the position behind a part that is read for this slot
abbrev pub filled : Slot → Part → Position
filled slot.Field p = position.Hinted host.Field false
filled (slot.Case c) p = position.Hinted host.Case false
filled slot.Var p = position.Hinted host.Var false
filled slot.Notation p = position.Hinted host.Notation false
filled slot.Fun p = position.Hinted host.Fun false
filled (slot.Argument e t) p = position.Argued (t && parts.reads_type p)
filled slot.Rule p = position.Premised
filled slot.Condition p = position.Iterated iterations.None
filled slot.Count p = position.Iterated iterations.Complete

-- how a token stands, where it leads, and what it adds to the actions of a part
abbrev pub Taken : Type 0
Taken = Advance × State × parts.Emits

-- a token that stands so, where it leads on
abbrev pub stands : Advance → parts.Emits → Option State → Option Taken
stands a e None = None
stands a e (Some next) = Some (a, next, e)

-- a part takes the token, or else something other does
abbrev pub taken : Slot → List Bracket → Option parts.Move → Option Taken → Option Taken
taken s ks (Some m) o = Some (advance_case.On s, inside s m.0 ks, m.1)
taken s ks None o = o

-- the part that is due at the position
abbrev pub entering : Position → Option Slot
entering (position.Entering s) = Some s
entering p = None

-- what a token makes at a position: the part that is due there begins with it, or it stands there
abbrev pub at_position : Option Slot → Position → TokenClass → List Bracket → Option Taken
at_position (Some s) p l ks =
    taken s ks (parts.step (slot_sort s) (Operand, []) l.shape)
    (stands (advance_case.At p) parts.adds_nothing (position_step p l ks))
at_position None p l ks =
    stands (advance_case.At p) parts.adds_nothing (position_step p l ks)

-- what a token makes behind a part that ends before it
abbrev pub behind_part : Slot → TokenClass → List Bracket → List Action → Option Part
    → Option Taken
behind_part s l ks ends None = None
behind_part s l ks ends (Some p) =
    stands (advance_case.Behind s (length ks) (filled s p)) (λ x. ends)
    (position_step (filled s p) l ks)

-- what a token makes of a state, where the grammar allows it there
abbrev pub advance : State → TokenClass → Option Taken
advance (at p ks) l = at_position (entering p) p l ks
advance (inside s st ks) l =
    taken s ks (parts.step (slot_sort s) st l.shape)
    (behind_part s l ks (parts.finishing st) (parts.finish st))

-- the same with the actions that this token adds
abbrev pub advanced : Token → Option Taken → Option (Advance × State × List Action)
advanced x None = None
advanced x (Some t) = Some (t.0, t.1, t.2 x)

-- where a token leads
abbrev pub step : State → TokenClass → Option State
step st l = option_map (λ t. t.1) (advance st l)

-- definitions may end behind a part that is read for this, where it may end itself
abbrev pub part_ends : Slot → List Bracket → Option Part → Bool
part_ends s ks None = false
part_ends s ks (Some p) = whole (filled s p) ks

-- Definitions may end in this state.
abbrev pub may_end : State → Bool
may_end (at p ks) = whole p ks
may_end (inside s st ks) = part_ends s ks (parts.finish st)
