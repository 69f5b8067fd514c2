-- What each action makes of the parts on the stack of the code, the innermost first.
use Rattle.std.specs.Prelude.{◌≡◌, ℕ, ◌+◌, List, [], ◌∷◌, ◌++◌, length, take, drop, reverse, Bool, true, false, ◌&&◌, Option, Some, None, option_and_then, if◌then◌else◌}
use Rattle.std.specs.Option.{option_map}
use Rattle.st_num.specs.declared.span.Span.{Span}
use Rattle.st_num.specs.declared.token.Token.{Token}
use Rattle.st_grammar.specs.declared.sort.Leaf.{Leaf}
use Rattle.st_grammar.specs.declared.sort.Leaf.TheVariants as leaf
use Rattle.st_el.specs.declared.expression.Exp.{Exp}
use Rattle.st_el.specs.declared.expression.Node.TheVariants as node
use Rattle.st_el.specs.declared.expression.Count.TheVariants as count
use Rattle.st_el.specs.declared.expression.Seg.{Seg}
use Rattle.st_el.specs.declared.expression.Seg.TheVariants as seg
use Rattle.st_grammar.specs.declared.action.Action.{Action}
use Rattle.st_grammar.specs.declared.action.Action.TheVariants as action
use Rattle.st_parse_builder.specs.declared.built.Built.{Built}
use Rattle.st_parse_builder.specs.declared.piece.Piece.{Piece}
use Rattle.st_parse_builder.specs.declared.piece.Piece.TheVariants.{Done, Parts, Fields, Path, Label, Here}
use Rattle.st_parse_builder.specs.Names.{name_of, leaf_node}
use Rattle.st_parse_builder.specs.Meaning.{exp, place, opened, is_atom, joined, prefixed, dotted, iterated, mark_count, in_parens, enclosed, changed}
use Rattle.st_parse_builder.specs.Heights.{height}
use Rattle.st_parse_builder.specs.Variables.{Occurrence, occurrences, without}
use Rattle.st_parse_builder.specs.inner.Building as pieces
use Rattle.st_parse_builder.specs.inner.PieceHeights.{piece_height}
use Rattle.st_parse_builder.specs.inner.PieceVariables.{stack_variables}
use Rattle.st_parse_builder.specs.inner.Parts.{built, over, raised, both, read_tree, read_known, Makes}

-- the parts that are built so far
abbrev pub Stack : Type 0
Stack = List (Built Piece)

-- the parts that stand for these pieces, of which the first has so many variables before it
abbrev pub entries : ℕ → List Piece → Stack
entries before [] = []
entries before (p ∷ s) =
    built (before + length (stack_variables s)) (piece_height p) p ∷ entries before s

-- ---- what is on top

-- the finished expression that a piece is
abbrev pub done_in : Piece → Option Exp
done_in (Done e) = Some e
done_in p = None

-- the parts so far that a piece holds, and where they begin
abbrev pub parts_in : Piece → Option (Span × List Exp)
parts_in (Parts at es) = Some (at, es)
parts_in p = None

-- the fields so far that a piece holds, and where they begin
abbrev pub fields_in : Piece → Option (Span × List (List ℕ × Exp))
fields_in (Fields at fs) = Some (at, fs)
fields_in p = None

-- the steps so far of a path
abbrev pub path_in : Piece → Option (List Seg)
path_in (Path ps) = Some ps
path_in p = None

-- the name of a field or an index
abbrev pub label_in : Piece → Option (List ℕ)
label_in (Label name) = Some name
label_in p = None

-- the place where a part begins
abbrev pub place_in : Piece → Option Span
place_in (Here at) = Some at
place_in p = None

-- the finished expression on top, and what is below
abbrev pub top_done : Stack → Option (Built Exp × Stack)
top_done [] = None
top_done (p ∷ s) = option_map (λ q. (q, s)) (read_tree done_in p.tree p.height p.from)

-- the parts on top, and what is below
abbrev pub top_parts : Stack → Option (Built (Span × List Exp) × Stack)
top_parts [] = None
top_parts (p ∷ s) = option_map (λ q. (q, s)) (read_tree parts_in p.tree p.height p.from)

-- the fields on top, and what is below
abbrev pub top_fields : Stack → Option (Built (Span × List (List ℕ × Exp)) × Stack)
top_fields [] = None
top_fields (p ∷ s) = option_map (λ q. (q, s)) (read_tree fields_in p.tree p.height p.from)

-- the path on top, and what is below
abbrev pub top_path : Stack → Option (Built (List Seg) × Stack)
top_path [] = None
top_path (p ∷ s) = option_map (λ q. (q, s)) (read_tree path_in p.tree p.height p.from)

-- the name on top, and what is below
abbrev pub top_label : Stack → Option (List ℕ × Stack)
top_label [] = None
top_label (p ∷ s) = option_map (λ a. (a, s)) (read_known label_in p.tree)

-- the place on top, and what is below
abbrev pub top_place : Stack → Option (Span × Stack)
top_place [] = None
top_place (p ∷ s) = option_map (λ a. (a, s)) (read_known place_in p.tree)

-- the two finished expressions on top
abbrev pub top_pair : Stack → Option (Built (Exp × Exp) × Stack)
top_pair s =
    option_and_then (λ r. option_and_then (λ l. Some (both l.0 r.0, l.1)) (top_done r.1))
    (top_done s)

-- It is a path without a step.
abbrev pub starts : Option (List Seg) → Bool
starts (Some []) = true
starts o = false

-- what a position is in: the part below a path without a step
abbrev pub top_whole : Stack → Option (Built Exp × Stack)
top_whole s =
    option_and_then (λ p. if starts p.0.tree then top_done p.1 else None) (top_path s)

-- what an action makes of the finished expression on top, where there is one
abbrev pub with_done : Stack → (Built Exp → Stack → Option Stack) → Option Stack
with_done s f = option_and_then (λ t. f t.0 t.1) (top_done s)

-- what an action makes of the parts on top, where there are such
abbrev pub with_parts : Stack → (Built (Span × List Exp) → Stack → Option Stack) → Option Stack
with_parts s f = option_and_then (λ t. f t.0 t.1) (top_parts s)

-- what an action makes of the fields on top, where there are such
abbrev pub with_fields : Stack
    → (Built (Span × List (List ℕ × Exp)) → Stack → Option Stack) → Option Stack
with_fields s f = option_and_then (λ t. f t.0 t.1) (top_fields s)

-- what an action makes of the path on top, where there is one
abbrev pub with_path : Stack → (Built (List Seg) → Stack → Option Stack) → Option Stack
with_path s f = option_and_then (λ t. f t.0 t.1) (top_path s)

-- what an action makes of the two finished expressions on top, where there are two
abbrev pub with_pair : Stack → (Built (Exp × Exp) → Stack → Option Stack) → Option Stack
with_pair s f = option_and_then (λ t. f t.0 t.1) (top_pair s)

-- what an action makes of the part that a position is in, where it is on top
abbrev pub with_whole : Stack → (Built Exp → Stack → Option Stack) → Option Stack
with_whole s f = option_and_then (λ t. f t.0 t.1) (top_whole s)

-- what an action makes of the name on top, where there is one
abbrev pub with_label : Stack → (List ℕ → Stack → Option Stack) → Option Stack
with_label s f = option_and_then (λ t. f t.0 t.1) (top_label s)

-- what an action makes of the place on top, where there is one
abbrev pub with_place : Stack → (Span → Stack → Option Stack) → Option Stack
with_place s f = option_and_then (λ t. f t.0 t.1) (top_place s)

-- ---- what is made

-- the stack with one more part
abbrev pub put : Built Piece → Stack → Option Stack
put p s = Some (p ∷ s)

-- a piece with no expression in it, before which so many variables are seen
abbrev pub begun : ℕ → Piece → Built Piece
begun seen p = record { tree = Some p; height = 0; from = seen }

-- a piece of one token, before which so many variables are seen
abbrev pub operand : ℕ → Leaf → Token → Built Piece
operand seen k x =
    record { tree = Some (Done (exp x.at (leaf_node k x.kind))); height = 1; from = seen }

-- The dot that the token is goes on with the name of an atom.
abbrev pub goes_on : Token → Option Exp → Bool
goes_on x None = false
goes_on x (Some e) = x.touching && is_atom (opened e)

-- a part with a dot behind it: an atom stays as high as it is
abbrev pub behind : Token → Built Exp → Built Exp
behind x p = if goes_on x p.tree then p else raised p

-- A function alone becomes its call with these arguments, and begins there.
abbrev pub call_of : Exp → ℕ → Built (Span × List Exp) → Option (Built Piece)
call_of e from p =
    option_map
    (λ name. over (λ x. Done (exp (place e) (node.Call name x.1)))
    (raised (record { tree = p.tree; height = p.height; from = from })))
    (pieces.call_name (opened e))

-- the call of the part on top, where that is known
abbrev pub called : Built (Span × List Exp) → Built Exp → Stack → Option Stack
called p f s =
    option_and_then (λ e. option_map (λ c. c ∷ s) (call_of e f.from p)) f.tree

-- ---- actions

-- the stack behind an action, where so many variables are seen before it, and none where the
-- action does not fit what is on top
abbrev pub applied : ℕ → Action → Stack → Option Stack
applied seen (action.Operand k x) s = put (operand seen k x) s
applied seen (action.Dot x) s = with_done s (λ p. put (over (λ e. Done (dotted e x)) (behind x p)))
applied seen (action.Mark m) s =
    with_done s (λ p. put (over (λ e. Done (iterated e (mark_count m))) (raised p)))
applied seen action.Times s =
    with_pair s (λ p. put (over (λ x. Done (iterated x.0 (count.Times x.1))) (raised p)))
applied seen action.Below s =
    with_done s (λ c s. with_label s (λ i s. with_done s
    (λ e. put (over (λ x. Done (iterated x.0 (count.Below i x.1))) (raised (both e c))))))
applied seen (action.Label x) s = put (begun seen (Label (name_of x.kind))) s
applied seen (action.Here at) s = put (begun seen (Here at)) s
applied seen (action.Prefix m) s =
    with_done s (λ p s. with_place s (λ at. put (over (λ e. Done (prefixed m at e)) (raised p))))
applied seen (action.Enclose k) s =
    with_done s (λ p s. with_place s
    (λ at. put (over (λ e. Done (exp at (enclosed k e))) (raised p))))
applied seen action.Length s =
    with_done s (λ p s. with_place s
    (λ at. put (over (λ e. Done (exp at (node.Len e))) (raised p))))
applied seen (action.Join m) s =
    with_pair s (λ p. put (over (λ x. Done (joined x.0 m x.1)) (raised p)))
applied seen (action.Open at) s = put (begun seen (Parts at [])) s
applied seen action.First s = with_done s (λ p. put (over (λ e. Parts (place e) (e ∷ [])) p))
applied seen action.Part s =
    with_done s (λ p s. with_parts s
    (λ q. put (over (λ x. Parts x.0.0 (x.0.1 ++ x.1 ∷ [])) (both q p))))
applied seen action.EndParens s =
    with_parts s (λ p. put (over (λ x. Done (exp x.0 (in_parens x.1))) (raised p)))
applied seen action.EndCall s = with_parts s (λ p s. with_done s (called p))
applied seen action.EndSequence s =
    with_parts s (λ p. put (over (λ x. Done (exp x.0 (node.Seq x.1))) (raised p)))
applied seen (action.OpenFields at) s = put (begun seen (Fields at [])) s
applied seen action.Field s =
    with_done s (λ p s. with_label s (λ name s. with_fields s
    (λ q. put (over (λ x. Fields x.0.0 (x.0.1 ++ (name, x.1) ∷ [])) (both q p)))))
applied seen action.EndFields s =
    with_fields s (λ p. put (over (λ x. Done (exp x.0 (node.Fields x.1))) (raised p)))
applied seen action.OpenPath s = put (begun seen (Path [])) s
applied seen (action.StepField x) s =
    with_path s (λ p. put (over (λ ps. Path (ps ++ seg.Field (name_of x.kind) ∷ [])) p))
applied seen action.StepAt s =
    with_done s (λ p s. with_path s
    (λ q. put (over (λ x. Path (x.0 ++ seg.At x.1 ∷ [])) (both q p))))
applied seen action.StepSlice s =
    with_pair s (λ p s. with_path s
    (λ q. put (over (λ x. Path (x.0 ++ seg.Slice x.1.0 x.1.1 ∷ [])) (both q p))))
applied seen action.At s =
    with_done s (λ p s. with_whole s
    (λ q. put (over (λ x. Done (exp (place x.0) (node.At x.0 x.1))) (raised (both q p)))))
applied seen action.Slice s =
    with_pair s (λ p s. with_whole s
    (λ q. put (over (λ x. Done (exp (place x.0) (node.Slice x.0 x.1.0 x.1.1)))
    (raised (both q p)))))
applied seen (action.Change m) s =
    with_done s (λ p s. with_path s (λ q s. with_done s
    (λ r. put (over (λ x. Done (changed m x.0 x.1.0 x.1.1)) (raised (both r (both q p)))))))

-- what an action that begins no piece makes of a stack, of which the code has the top last
abbrev pub Forms : Action → Stack → Stack → Option (Built Piece) → Type 0
Forms a old new made = Makes (applied 0 a (reverse old)) (reverse new) made

-- ---- the variables that are seen

-- the token of an operand, where it is a variable
abbrev pub named : Leaf → Token → List Token
named leaf.Low x = x ∷ []
named leaf.Basic x = x ∷ []
named leaf.Variable x = x ∷ []
named k x = []

-- Between the first of these places and the second, this name is no variable.
abbrev pub left_out : ℕ → ℕ → List ℕ → List Occurrence → List Occurrence
left_out from to name seen =
    (take from (take to seen) ++ without (name ∷ []) (drop from (take to seen))) ++ drop to seen

-- The index of the count on top is no variable of the part below.
abbrev pub index_left : Stack → List Occurrence → Option (List Occurrence)
index_left s seen =
    option_and_then
    (λ c. option_and_then
    (λ i. option_and_then (λ e. Some (left_out e.0.from c.0.from i.0 seen)) (top_done i.1))
    (top_label c.1))
    (top_done s)

-- what is seen behind an action
abbrev pub noted : Action → Stack → List Occurrence → Option (List Occurrence)
noted (action.Operand k x) s seen = Some (seen ++ occurrences (named k x))
noted action.Below s seen = index_left s seen
noted a s seen = Some seen

-- ---- what stands on the stack of the code

-- The stack of the code, which has the top last, stands for these pieces, and their variables are
-- seen behind those before.
abbrev pub Stands : List Occurrence → List Piece → Stack → List Token → Type 0
Stands before s stack seen =
    (reverse stack ≡ entries (length before) s)
    × (occurrences seen ≡ before ++ stack_variables s)

-- a part, where nothing is below it
abbrev pub alone : {A : Type 0} → Built A → Stack → Option (Built A)
alone p [] = Some p
alone p (q ∷ s) = None

-- the one expression on the stack
abbrev pub the_exp : Stack → Option (Built Exp)
the_exp s = option_and_then (λ t. alone t.0 t.1) (top_done s)

-- what is built of an expression, before whose variables so many are seen
abbrev pub exp_part : ℕ → Exp → Built Exp
exp_part from e = built from (height e) e
