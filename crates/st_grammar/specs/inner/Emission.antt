-- The actions that a parser emits while it reads a part, one token after another: together they
-- are the actions of the tree. Each case says what it needs of the innermost frame; no case needs
-- a tree.
use Rattle.std.specs.Prelude.{ℕ, List, [], ◌∷◌, ◌++◌, ◌&&◌, Option, Some, None, nat_le, if◌then◌else◌}
use Rattle.st_num.specs.declared.mark.Mark.{Mark}
use Rattle.st_num.specs.declared.token.Token.{Token}
use Rattle.st_grammar.specs.declared.sort.Leaf.TheVariants.{Low as low}
use Rattle.st_grammar.specs.declared.sort.Bracket.{Bracket}
use Rattle.st_grammar.specs.declared.sort.Bracket.TheVariants.{Round as round, Square as square}
use Rattle.st_grammar.specs.declared.sort.Closing.{Closing}
use Rattle.st_grammar.specs.declared.sort.Closing.TheVariants.{ByRound as by_round, ByBar as by_bar}
use Rattle.st_grammar.specs.Terminals.{Terminal, leaf, dot, sign, opening, closing}
use Rattle.st_num.specs.Signs.{level as level_of}
use Rattle.st_grammar.specs.Levels.{is_expression, is_count, has_level, is_caret, is_change}
use Rattle.st_grammar.specs.Trees.{Tree, operand, bracket, items, Trees, none, more, Heading, plain, length, arguments, index, segment, below, Path, head}
use Rattle.st_grammar.specs.Grammar.{follows, may_post, has_step}
use Rattle.st_grammar.specs.Reading.{Frames, bottom, within, over, timing, State, want, got, naming, pathed, indexing, comparing, sort, least, reach, lower, extend, pull, step}
use Rattle.st_grammar.specs.Definitions.{token_in}
use Rattle.st_grammar.specs.declared.action.Action.{Action}
use Rattle.st_grammar.specs.declared.action.Action.TheVariants as action
use Rattle.st_grammar.specs.inner.Actions.{post_acts, count_act, label_acts, item_act, end_acts, closing_acts, inner_acts, acts, lead_acts, opening_acts, path_acts, each_acts, part_acts, field_acts}

-- ---- what is read so far

-- The name of an index goes with the count that stands directly behind `^`.
abbrev pub index_label : Token → Frames → List Action
index_label i (timing t m x fs) = action.Label i ∷ []
index_label i fs = []

-- what stands before the parts of a bracket
abbrev pub heading_acts : Heading → Frames → List Action
heading_acts (below o i m x) fs = index_label i fs
heading_acts h fs = opening_acts h

-- the actions of what is open
abbrev pub frames_acts : Frames → List Action
frames_acts (bottom σ) = []
frames_acts (within h ts pre fs) =
    frames_acts fs
    ++ (heading_acts h fs
    ++ inner_acts h (each_acts ts) (part_acts ts) (field_acts ts ++ label_acts pre))
frames_acts (over g fs) = frames_acts fs ++ lead_acts g
frames_acts (timing t m x fs) = frames_acts fs ++ acts t

-- the actions of what is read so far
abbrev pub state_acts : State → List Action
state_acts (want fs) = frames_acts fs
state_acts (got t fs) = frames_acts fs ++ acts t
state_acts (naming h ts pre fs) =
    frames_acts fs
    ++ (heading_acts h fs ++ inner_acts h (each_acts ts) (part_acts ts) (field_acts ts))
state_acts (pathed p fs) = frames_acts fs ++ path_acts p
state_acts (indexing o fs) = frames_acts fs
state_acts (comparing o i fs) = frames_acts fs ++ index_label i fs

-- ---- what closes

-- A part behind `^` is the count there, with an index or without: whether `^` is innermost.
abbrev pub settling : Tree → Frames → List Action
settling c (timing t m x fs) = count_act c ∷ []
settling c fs = []

-- the signs and sequences that are closed over a part: the sign of each lead
abbrev pub lowering : ℕ → Frames → List Action
lowering n (over g fs) = if nat_le (reach g) n then [] else end_acts g ++ lowering n fs
lowering n fs = []

-- what ends a part of a bracket: the sort of bracket
abbrev pub part_end : Heading → List Action
part_end h = inner_acts h [] (action.Part ∷ []) (action.Field ∷ [])

-- A bracket closes behind its last part: the sort of bracket, the sign of a change, whether one
-- part stands before the last one, and for the count whether `^` is innermost below.
abbrev pub shutting : Heading → Trees → Token → Frames → List Action
shutting (segment p o) ts x fs = closing_acts (segment p o) ts
shutting h ts x fs = closing_acts h ts ++ settling (bracket h ts x) fs

-- the actions of a bracket that closes behind this part, if one is innermost
abbrev pub closed : Token → Tree × Frames → List Action
closed x (t, within h ts pre fs) = part_end h ++ shutting h (more ts pre t) x fs
closed x p = []

-- ---- what begins

-- A call without arguments ends.
abbrev pub no_arguments_end : Token → Frames → List Action
no_arguments_end x (within (arguments f o) ts pre fs) =
    action.EndCall ∷ settling (bracket (arguments f o) none x) fs
no_arguments_end x fs = []

-- a closing sign where an operand is due: a bar begins a length, `)` ends a call without arguments
abbrev pub beginning_closing : Closing → Token → Frames → List Action
beginning_closing by_bar x fs = opening_acts (length x)
beginning_closing by_round x fs = no_arguments_end x fs
beginning_closing c x fs = []

-- A parenthesis behind `^` opens before the name of an index.
abbrev pub beginning_opening : Bracket → Token → Frames → List Action
beginning_opening round x fs = if is_count (sort fs) then [] else opening_acts (plain round x)
beginning_opening k x fs = opening_acts (plain k x)

-- An operand begins with this token.
abbrev pub beginning : Frames → Terminal → List Action
beginning fs (leaf k x) = action.Operand k x ∷ settling (operand k x) fs
beginning fs (sign m x) = action.Here x.at ∷ []
beginning fs (opening k x) = beginning_opening k x fs
beginning fs (closing c x) = beginning_closing c x fs
beginning fs l = []

-- ---- what stands behind a part

-- one more element of a sequence: whether a sequence is innermost
abbrev pub extending : Frames → List Action
extending (over (items ts) fs) = item_act ts ∷ []
extending fs = action.First ∷ []

-- the action that ends a part of the innermost bracket, where a sign sets off the next part
abbrev pub separating : Frames → List Action
separating (within h ts pre fs) = part_end h
separating fs = []

-- A sign between two sides acts behind its right side.
abbrev pub joining : Mark → Frames → List Action
joining m fs =
    if has_level (sort fs) (level_of m) && nat_le (least fs) (level_of m) then [] else separating fs

-- a sign behind a part: it iterates the part, or closes what binds tighter and joins sides or
-- sets off parts
abbrev pub behind_sign_acts : Mark → Token → Tree → Frames → List Action
behind_sign_acts m x t fs =
    if may_post (sort fs) t (sign m x) then post_acts (sign m x)
    else if is_expression (sort fs) && is_caret m then []
    else lowering (pull (sort fs) m) fs ++ joining m (lower (pull (sort fs) m) t fs).1

-- a bracket that opens behind a part: a path behind `[`, and arguments behind `(`
abbrev pub behind_opening_acts : Bracket → Token → List Action
behind_opening_acts square x = action.OpenPath ∷ []
behind_opening_acts k x = action.Open x.at ∷ []

-- a token behind a part that goes on with it or ends it
abbrev pub behind_acts : Tree → Frames → Terminal → List Action
behind_acts t fs (dot x) = post_acts (dot x)
behind_acts t fs (sign m x) = behind_sign_acts m x t fs
behind_acts t fs (opening k x) = behind_opening_acts k x
behind_acts t fs (closing c x) = lowering 0 fs ++ closed x (lower 0 t fs)
behind_acts t fs l = []

-- a token behind a part: the next element of a sequence, or what goes on with the part
abbrev pub after_acts : Tree → Frames → Terminal → List Action
after_acts t fs l =
    if follows (sort fs) t l then extending fs ++ beginning (extend t fs) l else behind_acts t fs l

-- ---- paths, names and counts

-- A position begins with this token, where a path has no step.
abbrev pub index_acts_in : Path → Frames → Terminal → List Action
index_acts_in (head t o) fs l = beginning (within (index t o) none [] fs) l
index_acts_in p fs l = []

-- A position in a path and a change act where their bracket closes.
abbrev pub path_step_acts : Path → Frames → Terminal → List Action
path_step_acts p fs (dot x) = action.StepField x ∷ []
path_step_acts p fs (opening square x) = []
path_step_acts p fs (sign m x) =
    if has_step p && is_change m then [] else index_acts_in p fs (sign m x)
path_step_acts p fs l = index_acts_in p fs l

-- the name of a field, in braces alone
abbrev pub name_acts : Heading → Terminal → List Action
name_acts h l = inner_acts h [] [] (action.Label (token_in l) ∷ [])

-- the action of the name of an index in a count
abbrev pub name_index_acts : Frames → Terminal → List Action
name_index_acts fs (leaf low i) = index_label i fs
name_index_acts fs l = []

-- ---- the reading

-- what this token adds to the actions
abbrev pub emitted : State → Terminal → List Action
emitted (want fs) l = beginning fs l
emitted (got t fs) l = after_acts t fs l
emitted (naming h ts pre fs) l = name_acts h l
emitted (pathed p fs) l = path_step_acts p fs l
emitted (indexing o fs) l = name_index_acts fs l
emitted (comparing o i fs) l = []

-- what the end of the tokens adds
abbrev pub finishing : State → List Action
finishing (got t fs) = lowering 0 fs
finishing st = []

-- the actions from the next state on, where there is one
abbrev pub on_next : (State → List Action) → Option State → List Action
on_next f None = []
on_next f (Some next) = f next

-- all that the tokens and their end add
abbrev pub emissions : State → List Terminal → List Action
emissions st [] = finishing st
emissions st (l ∷ w) = emitted st l ++ on_next (λ next. emissions next w) (step st l)
