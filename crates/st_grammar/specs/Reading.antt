-- How the tokens of a tree are read, one after another: what is open, and what each token makes
-- of it.
use Rattle.std.specs.Prelude.{ℕ, List, [], ◌∷◌, ◌++◌, ◌&&◌, Option, Some, None, option_and_then, nat_le, if◌then◌else◌}
use Rattle.st_num.specs.declared.mark.Mark.{Mark}
use Rattle.st_num.specs.declared.token.Token.{Token}
use Rattle.st_grammar.specs.declared.sort.Style.{Style}
use Rattle.st_grammar.specs.declared.sort.Style.TheVariants.{Parts as parts, Fields as fields, Ends as ends}
use Rattle.st_grammar.specs.declared.sort.Leaf.TheVariants.{Low as low, Function as function}
use Rattle.st_grammar.specs.declared.sort.Bracket.{Bracket}
use Rattle.st_grammar.specs.declared.sort.Bracket.TheVariants.{Round as round, Square as square, Brace as brace}
use Rattle.st_grammar.specs.declared.sort.Closing.{Closing}
use Rattle.st_grammar.specs.declared.sort.Closing.TheVariants.{ByRound as by_round, ByBar as by_bar}
use Rattle.st_grammar.specs.declared.sort.Sort.{Sort}
use Rattle.st_grammar.specs.declared.sort.Sort.TheVariants.{Count as count}
use Rattle.st_grammar.specs.Terminals.{Terminal, leaf, dot, sign, opening, closing, other}
use Rattle.st_num.specs.Signs.{level as level_of, prefix_level}
use Rattle.st_grammar.specs.Levels.{takes, encloses, computes, is_expression, is_count, has_level, left_of, right_of, prefix_right, is_caret, is_comma, is_colon, is_less, is_change}
use Rattle.st_grammar.specs.Trees.{Tree, operand, post, times, bracket, led, Lead, left, ahead, items, Trees, none, more, Heading, plain, length, arguments, index, segment, update, below, Path, head, field, part, closes, agree}
use Rattle.st_grammar.specs.Grammar.{style, sort_in, least_in, is_label, follows, may_post, level, wanted, has_step}

-- what is open, the innermost first
pub data Frames : Type 0 where
  -- a part of this sort, with nothing open
  bottom : Sort → Frames
  -- a bracket, the parts before the one that is read now, and what sets that one off
  within : Heading → Trees → List Terminal → Frames → Frames
  -- what leads to a last part
  over : Lead → Frames → Frames
  -- a tree and `^`
  timing : Tree → Mark → Token → Frames → Frames

-- how far the tokens of a part are read
pub data State : Type 0 where
  -- an operand is due
  want : Frames → State
  -- this part is read, which binds tightest
  got : Tree → Frames → State
  -- the name of a field is due
  naming : Heading → Trees → List Terminal → Frames → State
  -- a path is read, or only the `[` before one
  pathed : Path → Frames → State
  -- behind `^ (` a name is due
  indexing : Token → Frames → State
  -- behind `^ ( i` a `<` is due
  comparing : Token → Token → Frames → State

-- the sort of the part that is read innermost
abbrev pub sort : Frames → Sort
sort (bottom σ) = σ
sort (within h ts pre fs) = sort_in (sort fs) h
sort (over g fs) = sort fs
sort (timing t m x fs) = count

-- the least level that is wanted innermost
abbrev pub least : Frames → ℕ
least (bottom σ) = 1
least (within h ts pre fs) = least_in h
least (over g fs) = wanted g
least (timing t m x fs) = 1

-- a part is read; behind `^` it is the count
abbrev pub settle : Tree → Frames → State
settle c (timing t m x fs) = got (times t m x c) fs
settle t fs = got t fs

-- ---- what closes

-- how loose a sign must be to close over a part behind this
abbrev pub reach : Lead → ℕ
reach (left l m x) = right_of m
reach (ahead m x) = prefix_right m
reach (items ts) = 14

-- what binds tighter than this level is closed over the part
abbrev pub lower : ℕ → Tree → Frames → Tree × Frames
lower n t (over g fs) = if nat_le (reach g) n then (t, over g fs) else lower n (led g t) fs
lower n t fs = (t, fs)

-- a bracket with its parts has closed: it is a step of a path, or a part that is read
abbrev pub shut : Heading → Trees → Token → Frames → State
shut (segment p o) ts x fs = pathed (part p o ts x) fs
shut h ts x fs = settle (bracket h ts x) fs

-- what a closing token makes of a part that is read, where it closes the innermost bracket
abbrev pub close : Closing → Token → Tree × Frames → Option State
close c x (t, within h ts pre fs) =
    if agree (closes h) c then Some (shut h (more ts pre t) x fs) else None
close c x p = None

-- the part that is read, where nothing is open round it
abbrev pub ended : Tree × Frames → Option Tree
ended (t, bottom σ) = Some t
ended p = None

-- ---- what begins

-- a bracket has opened: in braces the name of a field is due, else a part
abbrev pub opened : Bracket → Token → Frames → State
opened brace x fs = naming (plain brace x) none [] fs
opened k x fs = want (within (plain k x) none [] fs)

-- `)` closes the arguments of a function, which are none
abbrev pub no_arguments : Token → Frames → Option State
no_arguments x (within (arguments f o) none [] fs) =
    Some (settle (bracket (arguments f o) none x) fs)
no_arguments x fs = None

-- what a closing token makes where an operand is due: a bar opens a length, and a parenthesis
-- closes arguments that are none
abbrev pub begin_closing : Closing → Token → Frames → Option State
begin_closing by_bar x fs =
    if computes (sort fs) then Some (want (within (length x) none [] fs)) else None
begin_closing by_round x fs = no_arguments x fs
begin_closing c x fs = None

-- what `(` makes where an operand is due
abbrev pub begin_round : Token → Frames → Option State
begin_round x fs =
    if is_count (sort fs) then Some (indexing x fs)
    else if encloses (sort fs) round then Some (want (within (plain round x) none [] fs))
    else None

-- what a token that opens a bracket makes where an operand is due
abbrev pub begin_opening : Bracket → Token → Frames → Option State
begin_opening round x fs = begin_round x fs
begin_opening k x fs = if encloses (sort fs) k then Some (opened k x fs) else None

-- what a token makes where an operand is due
abbrev pub begin : Frames → Terminal → Option State
begin fs (leaf k x) = if takes (sort fs) k then Some (settle (operand k x) fs) else None
begin fs (dot x) = None
begin fs (sign m x) =
    if has_level (sort fs) (prefix_level m) && nat_le (least fs) (prefix_level m)
    then Some (want (over (ahead m x) fs)) else None
begin fs (opening k x) = begin_opening k x fs
begin fs (closing c x) = begin_closing c x fs
begin fs (other x) = None

-- ---- what stands behind a part

-- what is open, with this part as one more element of a sequence
abbrev pub extend : Tree → Frames → Frames
extend t (over (items ts) fs) = over (items (more ts [] t)) fs
extend t fs = over (items (more none [] t)) fs

-- a sign sets off a next part of a bracket, where the style allows it
abbrev pub next_part : Style → Mark → Token → Heading → Trees → Trees → Frames → Option State
next_part parts m x h before ts fs =
    if is_comma m then Some (want (within h ts (sign m x ∷ []) fs)) else None
next_part fields m x h before ts fs =
    if is_comma m then Some (naming h ts (sign m x ∷ []) fs) else None
next_part ends m x h none ts fs =
    if is_colon m then Some (want (within h ts (sign m x ∷ []) fs)) else None
next_part y m x h before ts fs = None

-- the sign sets off a next part in the innermost bracket
abbrev pub separate : Mark → Token → Tree × Frames → Option State
separate m x (t, within h ts pre fs) = next_part (style (sort fs) h) m x h ts (more ts pre t) fs
separate m x p = None

-- the sign makes what is read its left side, or else sets off a next part
abbrev pub join : Mark → Token → Tree × Frames → Option State
join m x p =
    if has_level (sort p.1) (level_of m) && nat_le (least p.1) (level_of m)
    then if nat_le (left_of m) (level p.0) then Some (want (over (left p.0 m x) p.1)) else None
    else separate m x p

-- the level of the sign between two sides in such a part, or 0 where it is none
abbrev pub pull : Sort → Mark → ℕ
pull σ m = if has_level σ (level_of m) then level_of m else 0

-- what a sign makes behind a part: it iterates it, wants a count, joins it or sets it off
abbrev pub behind_sign : Mark → Token → Tree → Frames → Option State
behind_sign m x t fs =
    if may_post (sort fs) t (sign m x) then Some (got (post t (sign m x)) fs)
    else if is_expression (sort fs) && is_caret m then Some (want (timing t m x fs))
    else join m x (lower (pull (sort fs) m) t fs)

-- `[` behind a part; no path stands in arithmetic
abbrev pub behind_square : Token → Tree → Frames → Option State
behind_square x t fs =
    if is_expression (sort fs) then Some (pathed (head t x) fs)
    else if computes (sort fs) then Some (want (within (index t x) none [] fs))
    else None

-- `(` behind a part begins the arguments of a function, which it touches
abbrev pub behind_round : Token → Tree → Frames → Option State
behind_round x (operand function f) fs =
    if computes (sort fs) && x.touching then Some (want (within (arguments f x) none [] fs))
    else None
behind_round x t fs = None

-- what a token that opens a bracket makes behind a part
abbrev pub behind_opening : Bracket → Token → Tree → Frames → Option State
behind_opening square x t fs = behind_square x t fs
behind_opening round x t fs = behind_round x t fs
behind_opening k x t fs = None

-- what a token makes behind a part, where it begins no next element of a sequence
abbrev pub behind : Tree → Frames → Terminal → Option State
behind t fs (leaf k x) = None
behind t fs (dot x) = if may_post (sort fs) t (dot x) then Some (got (post t (dot x)) fs) else None
behind t fs (sign m x) = behind_sign m x t fs
behind t fs (opening k x) = behind_opening k x t fs
behind t fs (closing c x) = close c x (lower 0 t fs)
behind t fs (other x) = None

-- what a token makes behind a part
abbrev pub after : Tree → Frames → Terminal → Option State
after t fs l = if follows (sort fs) t l then begin (extend t fs) l else behind t fs l

-- ---- paths and counts

-- behind `[` and no step of a path an expression begins
abbrev pub in_index : Path → Frames → Terminal → Option State
in_index (head t o) fs l = begin (within (index t o) none [] fs) l
in_index p fs l = None

-- what a token makes in a path: a step, or a sign of change and the new value
abbrev pub in_path : Path → Frames → Terminal → Option State
in_path p fs (dot x) = Some (pathed (field p x) fs)
in_path p fs (opening square x) = Some (want (within (segment p x) none [] fs))
in_path p fs (sign m x) =
    if has_step p && is_change m then Some (want (within (update p m x) none [] fs))
    else in_index p fs (sign m x)
in_path p fs l = in_index p fs l

-- the name of a field, and then its part is due
abbrev pub name_field : Heading → Trees → List Terminal → Frames → Terminal → Option State
name_field h ts pre fs l = if is_label l then Some (want (within h ts (pre ++ l ∷ []) fs)) else None

-- behind `^ (` the name of an index
abbrev pub name_index : Token → Frames → Terminal → Option State
name_index o fs (leaf low i) = Some (comparing o i fs)
name_index o fs l = None

-- behind `^ (` and the name of an index a `<`, and then the bound is due
abbrev pub bound_index : Token → Token → Frames → Terminal → Option State
bound_index o i fs (sign m x) =
    if is_less m then Some (want (within (below o i m x) none [] fs)) else None
bound_index o i fs l = None

-- ---- the reading

-- what a token makes of a state, where the grammar allows it there
abbrev pub step : State → Terminal → Option State
step (want fs) l = begin fs l
step (got t fs) l = after t fs l
step (naming h ts pre fs) l = name_field h ts pre fs l
step (pathed p fs) l = in_path p fs l
step (indexing o fs) l = name_index o fs l
step (comparing o i fs) l = bound_index o i fs l

-- the tree that is read, where the part may end here
abbrev pub finish : State → Option Tree
finish (got t fs) = ended (lower 0 t fs)
finish st = None

-- what tokens make of a state, one after another
abbrev pub reading : State → List Terminal → Option State
reading st [] = Some st
reading st (l ∷ w) = option_and_then (λ next. reading next w) (step st l)

-- the tree that tokens make, read from a state up to their end
abbrev pub reads : State → List Terminal → Option Tree
reads st w = option_and_then finish (reading st w)

-- a part of this sort, of which nothing is read yet
abbrev pub start : Sort → State
start σ = want (bottom σ)
