-- How the tokens of definitions are read: the positions between tokens, and the parts that are read
-- in them.
use Rattle.std.specs.Prelude.{List, [], ◌∷◌, ◌++◌, length, Bool, true, false, not, ◌&&◌, ◌||◌, ◌==◌, Option, Some, None, option_and_then, if◌then◌else◌}
use Rattle.st_grammar.specs.declared.keyword.Keyword.{Keyword}
use Rattle.st_grammar.specs.declared.keyword.Keyword.TheVariants.{SyntaxWord as syntax_word, RelationWord as relation_word, RuleWord as rule_word, VarWord as var_word, DefWord as def_word, HintWord as hint_word, IfWord as if_word, OtherwiseWord as otherwise_word, Dashes as dashes}
use Rattle.st_grammar.specs.declared.sort.Leaf.TheVariants.{Low as low, Basic as basic}
use Rattle.st_grammar.specs.declared.sort.Bracket.{Bracket}
use Rattle.st_grammar.specs.declared.sort.Bracket.TheVariants.{Round as round}
use Rattle.st_grammar.specs.declared.sort.Sort.{Sort}
use Rattle.st_grammar.specs.declared.sort.Sort.TheVariants.{Expression as expression, Notation as notation, Typ as typ, Count as count}
use Rattle.st_grammar.specs.Terminals.{Terminal, sign}
use Rattle.st_grammar.specs.Levels.{is_iteration_sign, is_type_iteration_sign, is_caret, is_comma, is_colon}
use Rattle.st_grammar.specs.Trees.{Tree, operand, post, times, bracket, led, Trees, none, more, plain}
use Rattle.st_grammar.specs.Grammar.{is_label}
use Rattle.st_grammar.specs.Reading as part
use Rattle.st_grammar.specs.Definitions.{keyword, touches, signed, is_slash, is_equal, is_dots, is_bar, opens_round, closes_round, opens_brace, closes_brace, is_low, is_fun, names_relation, is_name, id_step, balance_step, hint, Hints, no_hints, more_hints, Members, no_members, member, Body, fields, cases, Iterations, no_iterations, closed, marked, counted, closings, has_closed, wants_iteration, default, given, Premises, no_premises, more_premises, Args, no_args, args, syntax_def, var_def, relation_def, rule_def, fun_def, clause_def, Defs, no_defs, more_defs}

-- ---- what stands before a position

-- a syntax up to its `=`
pub data Head : Type 0 where
  -- the definitions before, `syntax`, its name, that of its fragment, hints and `=`
  syntax_head : Defs → Terminal → Terminal → List Terminal → Hints → Terminal → Head

-- a rule or a clause up to its conclusion or result
pub data Rule : Type 0 where
  -- the definitions before, `rule`, the name of its relation, its own and `:`
  rule_head : Defs → Terminal → Terminal → List Terminal → Terminal → Rule
  -- the definitions before, `def`, the name of a function, its arguments and `=`
  clause_head : Defs → Terminal → Terminal → Args → Terminal → Rule

-- what hints stand behind
pub data Host : Type 0 where
  -- the name of a syntax, with that of its fragment
  of_syntax : Defs → Terminal → Terminal → List Terminal → Host
  -- the type of a field
  of_field : Head → Terminal → Members → List Terminal → Tree → Host
  -- the notation of an alternative
  of_case : Head → Members → List Terminal → Tree → Host
  -- the type of a variable
  of_var : Defs → Terminal → Terminal → Terminal → Tree → Host
  -- the name of a relation
  of_relation : Defs → Terminal → Terminal → Host
  -- the notation of a relation
  of_notation : Defs → Terminal → Terminal → Hints → Terminal → Tree → Host
  -- the type of the result of a function
  of_fun : Defs → Terminal → Terminal → Args → Terminal → Tree → Host

-- what a part is read for
pub data Slot : Type 0 where
  -- the type of a field
  field_slot : Head → Terminal → Members → List Terminal → Slot
  -- the notation of an alternative
  case_slot : Head → Members → List Terminal → Slot
  -- the type of a variable
  var_slot : Defs → Terminal → Terminal → Terminal → Slot
  -- the notation of a relation
  notation_slot : Defs → Terminal → Terminal → Hints → Terminal → Slot
  -- the type of the result of a function
  fun_slot : Defs → Terminal → Terminal → Args → Terminal → Slot
  -- an argument of a function
  arg_slot : Defs → Terminal → Terminal → Terminal → Trees → List Terminal → Slot
  -- the conclusion of a rule, or the result of a clause
  rule_slot : Rule → Slot
  -- the condition of a premise
  cond_slot : Rule → Tree → Premises → Terminal → List Terminal → List Terminal → Slot
  -- the count behind `^` behind a condition
  count_slot : Rule → Tree → Premises → Terminal → List Terminal → List Terminal → Tree → Iterations
      → Terminal → Slot

-- the sort of the part that is read for this
abbrev pub slot_sort : Slot → Sort
slot_sort (field_slot h o ms pre) = typ
slot_sort (case_slot h ms pre) = notation
slot_sort (var_slot ds w x c) = typ
slot_sort (notation_slot ds w r hs c) = notation
slot_sort (fun_slot ds w f a c) = typ
slot_sort (arg_slot ds w f o ts pre) = expression false
slot_sort (rule_slot r) = expression false
slot_sort (cond_slot r t ps d os ls) = expression false
slot_sort (count_slot r t ps d os ls u i l) = count

-- a position between two tokens of definitions, with all that is read before it
pub data Position : Type 0 where
  -- behind whole definitions
  between : Defs → Position
  -- behind `syntax`: its name is due
  syntax_name : Defs → Terminal → Position
  -- behind `var`: its name is due
  var_name : Defs → Terminal → Position
  -- behind the name of a variable: `:` is due
  var_colon : Defs → Terminal → Terminal → Position
  -- behind `relation`: its name is due
  relation_name : Defs → Terminal → Position
  -- behind `rule`: the name of its relation is due
  rule_name : Defs → Terminal → Position
  -- behind the name of a relation in a rule: `/` and the name of the rule, or `:`, is due
  rule_colon : Defs → Terminal → Terminal → Position
  -- behind `def`: the name of a function is due
  fun_name : Defs → Terminal → Position
  -- behind the name of a function
  fun_named : Defs → Terminal → Terminal → Position
  -- behind an argument, and behind the arguments
  argued : Defs → Terminal → Terminal → Terminal → Trees → Position
  args_closed : Defs → Terminal → Terminal → Terminal → Trees → Terminal → Position
  -- in the name of a fragment or a rule, and whether a piece is due
  syntax_id : Defs → Terminal → Terminal → List Terminal → Bool → Position
  rule_id : Defs → Terminal → Terminal → List Terminal → Bool → Position
  -- where hints may stand, and in a hint
  hinted : Host → Hints → Position
  hint_open : Host → Hints → Terminal → Position
  hint_name : Host → Hints → Terminal → Terminal → Position
  hint_words : Host → Hints → Terminal → Terminal → Terminal → List Terminal → List Bracket
      → Position
  -- where a part or something else may stand
  entering : Slot → Position
  -- behind the dots before the alternatives
  dotted : Head → Terminal → Position
  -- the name of a field is due, behind `{` or a comma
  field_name : Head → Terminal → Members → List Terminal → Position
  -- behind the premises so far
  premised : Rule → Tree → Premises → Position
  -- behind `--` and each `(`
  premise_open : Rule → Tree → Premises → Terminal → List Terminal → Position
  -- behind the name of a relation in a premise: `:` is due
  goal_colon : Rule → Tree → Premises → Terminal → List Terminal → Terminal → Position
  -- behind a condition and its iterations so far
  iterated : Rule → Tree → Premises → Terminal → List Terminal → List Terminal → Tree
      → Iterations → Position

-- how far the tokens of definitions are read
pub data State : Type 0 where
  -- at a position between parts
  at : Position → State
  -- in a part, which is read for this
  inside : Slot → part.State → State

-- ---- what is whole

-- the definitions with the syntax that this head and body make
abbrev pub syntax_whole : Head → Body → Defs
syntax_whole (syntax_head ds w x ls hs e) b = more_defs ds (syntax_def w x ls hs e b)

-- the definitions with the rule or clause of this head, this conclusion or result, and these
-- premises
abbrev pub rule_whole : Rule → Tree → Premises → Defs
rule_whole (rule_head ds w r ls c) t ps = more_defs ds (rule_def w r ls c t ps)
rule_whole (clause_head ds w f a e) t ps = more_defs ds (clause_def w f a e t ps)

-- the definitions that end behind these hints, where they may
abbrev pub host_whole : Host → Hints → Option Defs
host_whole (of_syntax ds w x ls) hs = None
host_whole (of_field h o ms pre t) hs = None
host_whole (of_case h ms pre t) hs = Some (syntax_whole h (cases (member ms pre t hs) []))
host_whole (of_var ds w x c t) hs = Some (more_defs ds (var_def w x c t hs))
host_whole (of_relation ds w r) hs = None
host_whole (of_notation ds w r hs c t) ks = Some (more_defs ds (relation_def w r hs c t ks))
host_whole (of_fun ds w f a c t) hs = Some (more_defs ds (fun_def w f a c t hs))

-- Each `(` before the condition is closed behind it, and each `)` has an iteration.
abbrev pub is_whole : List Terminal → Iterations → Bool
is_whole os i = closings i == length os && not (wants_iteration i)

-- the definitions, where they may end at the position
abbrev pub whole : Position → Option Defs
whole (between ds) = Some ds
whole (hinted h hs) = host_whole h hs
whole (premised r t ps) = Some (rule_whole r t ps)
whole (iterated r t ps d os ls u i) =
    if is_whole os i then Some (rule_whole r t (more_premises ps (given d os ls u i))) else None
whole p = None

-- ---- steps

-- such a word begins a next definition, whose name is due
abbrev pub begin_def : Defs → Terminal → Keyword → Option State
begin_def ds l syntax_word = Some (at (syntax_name ds l))
begin_def ds l relation_word = Some (at (relation_name ds l))
begin_def ds l rule_word = Some (at (rule_name ds l))
begin_def ds l var_word = Some (at (var_name ds l))
begin_def ds l def_word = Some (at (fun_name ds l))
begin_def ds l k = None

-- a part begins that is read for this
abbrev pub begun : Slot → State
begun s = inside s (part.start (slot_sort s))

-- the state, where this holds
abbrev pub when : Bool → State → Option State
when b st = if b then Some st else None

-- a part begins with this token, or else something other does
abbrev pub enter : Slot → Option part.State → Option State → Option State
enter s (Some st) o = Some (inside s st)
enter s None o = o

-- what a token makes where an alternative may begin, and where it begins no notation
abbrev pub enter_case : Head → Members → List Terminal → Terminal → Option State
enter_case h no_members [] l =
    if opens_brace l then Some (at (field_name h l no_members []))
    else if signed is_dots l then Some (at (dotted h l))
    else when (is_bar l) (at (entering (case_slot h no_members (l ∷ []))))
enter_case h no_members (b ∷ ls) l = None
enter_case h (member ms q t hs) (b ∷ []) l =
    when (signed is_dots l) (at (between (syntax_whole h (cases (member ms q t hs) (b ∷ l ∷ [])))))
enter_case h (member ms q t hs) ls l = None

-- what a token makes where a part may begin, and where it begins none
abbrev pub enter_other : Slot → Terminal → Option State
enter_other (case_slot h ms pre) l = enter_case h ms pre l
enter_other (arg_slot ds w f o none []) l = when (closes_round l) (at (args_closed ds w f o none l))
enter_other s l = None

-- behind `{` or a comma the name of a field, or `}` where there is no field
abbrev pub field_step : Head → Terminal → Members → List Terminal → Terminal → Option State
field_step h o no_members pre l =
    if is_label l then Some (begun (field_slot h o no_members (pre ++ l ∷ [])))
    else when (closes_brace l) (at (between (syntax_whole h (fields o no_members l))))
field_step h o ms pre l = when (is_label l) (begun (field_slot h o ms (pre ++ l ∷ [])))

-- what a token makes behind hints, or where they may stand
abbrev pub host_step : Host → Hints → Terminal → Option State
host_step (of_syntax ds w x []) no_hints l =
    if signed is_slash l then Some (at (syntax_id ds w x (l ∷ []) true))
    else
    when (signed is_equal l)
    (at (entering (case_slot (syntax_head ds w x [] no_hints l) no_members [])))
host_step (of_syntax ds w x ls) hs l =
    when (signed is_equal l) (at (entering (case_slot (syntax_head ds w x ls hs l) no_members [])))
host_step (of_field h o ms pre t) hs l =
    if signed is_comma l then Some (at (field_name h o (member ms pre t hs) (l ∷ [])))
    else when (closes_brace l) (at (between (syntax_whole h (fields o (member ms pre t hs) l))))
host_step (of_case h ms pre t) hs l =
    when (is_bar l) (at (entering (case_slot h (member ms pre t hs) (l ∷ []))))
host_step (of_relation ds w r) hs l = when (signed is_colon l) (begun (notation_slot ds w r hs l))
host_step h hs l = None

-- `hint` begins a hint, and another token goes on behind the hints
abbrev pub hint_or : Keyword → Host → Hints → Terminal → Option State
hint_or hint_word h hs l = Some (at (hint_open h hs l))
hint_or k h hs l = host_step h hs l

-- in a hint: a token that stays balanced goes on with it, and a further `)` ends it
abbrev pub hint_step : Host → Hints → Terminal → Terminal → Terminal → List Terminal → List Bracket
    → Terminal → Option (List Bracket) → Option State
hint_step h hs w o n ws cs l (Some ds) = Some (at (hint_words h hs w o n (ws ++ l ∷ []) ds))
hint_step h hs w o n ws [] l None =
    when (closes_round l) (at (hinted h (more_hints hs (hint w o n ws l))))
hint_step h hs w o n ws cs l None = None

-- a token goes on with a name, or else, where the name is whole, does what stands last
abbrev pub id_goes : Option Bool → Bool → (Bool → State) → Option State → Option State
id_goes (Some e) d next o = Some (next e)
id_goes None true next o = None
id_goes None false next o = o

-- `:` behind the name of a rule, whose conclusion is due
abbrev pub colon_step : Defs → Terminal → Terminal → List Terminal → Terminal → Option State
colon_step ds w r ls l = when (signed is_colon l) (begun (rule_slot (rule_head ds w r ls l)))

-- a tree of an expression that is a type
abbrev mutual
  -- the tree reads as a type
  pub reads_type : Tree → Bool
  reads_type (operand low x) = true
  reads_type (operand basic x) = true
  reads_type (operand k x) = false
  reads_type (post t (sign m x)) = is_type_iteration_sign m && reads_type t
  reads_type (post t l) = false
  reads_type (times t m x c) = false
  reads_type (bracket (plain round o) ts c) = reads_types ts
  reads_type (bracket h ts c) = false
  reads_type (led g t) = false

  -- each of these trees reads as a type
  pub reads_types : Trees → Bool
  reads_types none = true
  reads_types (more ts pre t) = reads_types ts && reads_type t

-- behind the arguments: `:`, where they are types, and the type of the result is due,
-- or `=` and the result is due
abbrev pub result_step : Defs → Terminal → Terminal → Args → Bool → Terminal → Option State
result_step ds w f a b l =
    if signed is_colon l && b then Some (begun (fun_slot ds w f a l))
    else when (signed is_equal l) (begun (rule_slot (clause_head ds w f a l)))

-- behind `--` and each `(`: one more `(`, or the name of a relation
abbrev pub premise_step : Rule → Tree → Premises → Terminal → List Terminal → Terminal
    → Option State
premise_step r t ps d os l =
    if opens_round l then Some (at (premise_open r t ps d (os ++ l ∷ [])))
    else when (names_relation l) (at (goal_colon r t ps d os l))

-- behind `--` and each `(`: `if`, `otherwise`, one more `(`, or the name of a relation
abbrev pub premise_word : Keyword → Rule → Tree → Premises → Terminal → List Terminal → Terminal
    → Option State
premise_word if_word r t ps d os l = Some (begun (cond_slot r t ps d os (l ∷ [])))
premise_word otherwise_word r t ps d [] l =
    Some (at (premised r t (more_premises ps (default d l))))
premise_word k r t ps d os l = premise_step r t ps d os l

-- `--` begins a next premise
abbrev pub next_premise : Keyword → Rule → Tree → Premises → Terminal → Option State
next_premise dashes r t ps l = Some (at (premise_open r t ps l []))
next_premise k r t ps l = None

-- one more `)` may stand behind the condition
abbrev pub may_close : List Terminal → Iterations → Bool
may_close os i = not (closings i == length os) && not (wants_iteration i)

-- behind a condition: `)`, an iteration, or the `--` of a next premise
abbrev pub iterate : Rule → Tree → Premises → Terminal → List Terminal → List Terminal → Tree
    → Iterations → Terminal → Option State
iterate r t ps d os ls u i l =
    if closes_round l && may_close os i then Some (at (iterated r t ps d os ls u (closed i l)))
    else if signed is_iteration_sign l && has_closed i
    then Some (at (iterated r t ps d os ls u (marked i l)))
    else if signed is_caret l && has_closed i then Some (begun (count_slot r t ps d os ls u i l))
    else if is_whole os i then next_premise (keyword l) r t (more_premises ps (given d os ls u i)) l
    else None

-- what a token makes at a position, where it goes on with what stands before
abbrev pub own : Position → Terminal → Option State
own (between ds) l = None
own (syntax_name ds w) l = when (is_low l) (at (hinted (of_syntax ds w l []) no_hints))
own (var_name ds w) l = when (is_low l || is_label l) (at (var_colon ds w l))
own (var_colon ds w x) l = when (signed is_colon l) (begun (var_slot ds w x l))
own (relation_name ds w) l = when (names_relation l) (at (hinted (of_relation ds w l) no_hints))
own (rule_name ds w) l = when (names_relation l) (at (rule_colon ds w l))
own (rule_colon ds w r) l =
    if signed is_slash l then Some (at (rule_id ds w r (l ∷ []) true)) else colon_step ds w r [] l
own (fun_name ds w) l = when (is_fun l) (at (fun_named ds w l))
own (fun_named ds w f) l =
    if opens_round l && touches l then Some (at (entering (arg_slot ds w f l none [])))
    else result_step ds w f no_args true l
own (argued ds w f o ts) l =
    if signed is_comma l then Some (begun (arg_slot ds w f o ts (l ∷ [])))
    else when (closes_round l) (at (args_closed ds w f o ts l))
own (args_closed ds w f o ts c) l = result_step ds w f (args o ts c) (reads_types ts) l
own (syntax_id ds w x ls d) l =
    id_goes (id_step d l) d (λ e. at (syntax_id ds w x (ls ++ l ∷ []) e))
    (hint_or (keyword l) (of_syntax ds w x ls) no_hints l)
own (rule_id ds w r ls d) l =
    id_goes (id_step d l) d (λ e. at (rule_id ds w r (ls ++ l ∷ []) e)) (colon_step ds w r ls l)
own (hinted h hs) l = hint_or (keyword l) h hs l
own (hint_open h hs w) l = when (opens_round l) (at (hint_name h hs w l))
own (hint_name h hs w o) l = when (is_name l) (at (hint_words h hs w o l [] []))
own (hint_words h hs w o n ws cs) l = hint_step h hs w o n ws cs l (balance_step cs l)
own (entering s) l = enter s (part.step (part.start (slot_sort s)) l) (enter_other s l)
own (dotted h d) l = when (is_bar l) (at (entering (case_slot h no_members (d ∷ l ∷ []))))
own (field_name h o ms pre) l = field_step h o ms pre l
own (premised r t ps) l = next_premise (keyword l) r t ps l
own (premise_open r t ps d os) l = premise_word (keyword l) r t ps d os l
own (goal_colon r t ps d os n) l =
    when (signed is_colon l) (begun (cond_slot r t ps d os (n ∷ l ∷ [])))
own (iterated r t ps d os ls u i) l = iterate r t ps d os ls u i l

-- the first of two states, or the second where there is no first
abbrev pub first_of_two : Option State → Option State → Option State
first_of_two (Some st) o = Some st
first_of_two None o = o

-- what a token makes at a position: it goes on, or begins a next definition behind whole ones
abbrev pub position_step : Position → Terminal → Option State
position_step p l =
    first_of_two (own p l) (option_and_then (λ ds. begin_def ds l (keyword l)) (whole p))

-- the position behind a part that is read for this slot
abbrev pub filled : Slot → Tree → Position
filled (field_slot h o ms pre) t = hinted (of_field h o ms pre t) no_hints
filled (case_slot h ms pre) t = hinted (of_case h ms pre t) no_hints
filled (var_slot ds w x c) t = hinted (of_var ds w x c t) no_hints
filled (notation_slot ds w r hs c) t = hinted (of_notation ds w r hs c t) no_hints
filled (fun_slot ds w f a c) t = hinted (of_fun ds w f a c t) no_hints
filled (arg_slot ds w f o ts pre) t = argued ds w f o (more ts pre t)
filled (rule_slot r) t = premised r t no_premises
filled (cond_slot r t ps d os ls) u = iterated r t ps d os ls u no_iterations
filled (count_slot r t ps d os ls u i l) c = iterated r t ps d os ls u (counted i l c)

-- what a token makes in a part: the part takes it, or else it stands behind the part
abbrev pub taken : Slot → part.State → Terminal → Option part.State → Option State
taken s st l (Some next) = Some (inside s next)
taken s st l None = option_and_then (λ t. position_step (filled s t) l) (part.finish st)

-- what a token makes of a state, where the grammar allows it there
abbrev pub step : State → Terminal → Option State
step (at p) l = position_step p l
step (inside s st) l = taken s st l (part.step st l)

-- the definitions that are read, where they may end here
abbrev pub finish : State → Option Defs
finish (at p) = whole p
finish (inside s st) = option_and_then (λ t. whole (filled s t)) (part.finish st)

-- what tokens make of a state, one after another
abbrev pub reading : State → List Terminal → Option State
reading st [] = Some st
reading st (l ∷ w) = option_and_then (λ next. reading next w) (step st l)

-- the definitions that tokens make, read from a state up to their end
abbrev pub reads : State → List Terminal → Option Defs
reads st w = option_and_then finish (reading st w)

-- nothing is read yet
abbrev pub start : State
start = at (between no_defs)
