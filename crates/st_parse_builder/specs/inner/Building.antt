-- What each action makes of the pieces on the stack, the innermost first.
use Rattle.std.specs.Prelude.{ℕ, List, [], ◌∷◌, ◌++◌, Option, Some, None, option_and_then}
use Rattle.st_num.specs.declared.span.Span.{Span}
use Rattle.st_el.specs.declared.expression.Exp.{Exp}
use Rattle.st_el.specs.declared.expression.Node.{Node}
use Rattle.st_el.specs.declared.expression.Node.TheVariants as node
use Rattle.st_el.specs.declared.expression.Count.{Count}
use Rattle.st_el.specs.declared.expression.Count.TheOpen.{Node-F}
use Rattle.st_el.specs.declared.expression.Count.TheVariants as count
use Rattle.st_el.specs.declared.expression.Seg.{Seg}
use Rattle.st_el.specs.declared.expression.Seg.TheVariants as seg
use Rattle.st_grammar.specs.declared.action.Action.{Action}
use Rattle.st_grammar.specs.declared.action.Action.TheVariants as action
use Rattle.st_parse_builder.specs.declared.piece.Piece.{Piece}
use Rattle.st_parse_builder.specs.declared.piece.Piece.TheVariants.{Done, Parts, Fields, Path, Label, Here}
use Rattle.st_parse_builder.specs.Names.{name_of, leaf_node}
use Rattle.st_parse_builder.specs.Meaning.{exp, place, opened, joined, prefixed, dotted, iterated, mark_count, in_parens, enclosed, changed}

-- the pieces that are built so far
abbrev pub Stack : Type 0
Stack = List Piece

-- ---- what is on top

-- a finished part, and what is below it
abbrev pub top_done : Stack → Option (Exp × Stack)
top_done (Done e ∷ s) = Some (e, s)
top_done s = None

-- parts so far with the place where they begin, and what is below them
abbrev pub top_parts : Stack → Option (Span × List Exp × Stack)
top_parts (Parts at es ∷ s) = Some (at, es, s)
top_parts s = None

-- fields so far with the place where they begin, and what is below them
abbrev pub top_fields : Stack → Option (Span × List (List ℕ × Exp) × Stack)
top_fields (Fields at fs ∷ s) = Some (at, fs, s)
top_fields s = None

-- the steps of a path so far, and what is below them
abbrev pub top_path : Stack → Option (List Seg × Stack)
top_path (Path ps ∷ s) = Some (ps, s)
top_path s = None

-- two finished parts
abbrev pub top_pair : Stack → Option (Exp × Exp × Stack)
top_pair (Done r ∷ Done l ∷ s) = Some (l, r, s)
top_pair s = None

-- what a position is in: a part with a path that has no step
abbrev pub top_whole : Stack → Option (Exp × Stack)
top_whole (Path [] ∷ Done e ∷ s) = Some (e, s)
top_whole s = None

-- the name of a field or an index, and what is below it
abbrev pub top_label : Stack → Option (List ℕ × Stack)
top_label (Label name ∷ s) = Some (name, s)
top_label s = None

-- where a part begins whose sign or bracket is read, and what is below
abbrev pub top_place : Stack → Option (Span × Stack)
top_place (Here at ∷ s) = Some (at, s)
top_place s = None

-- what an action makes of the finished part on top, where there is one
abbrev pub with_done : Stack → (Exp → Stack → Option Stack) → Option Stack
with_done s f = option_and_then (λ t. f t.0 t.1) (top_done s)

-- what an action makes of the parts on top, where there are such
abbrev pub with_parts : Stack → (Span → List Exp → Stack → Option Stack) → Option Stack
with_parts s f = option_and_then (λ t. f t.0 t.1 t.2) (top_parts s)

-- what an action makes of the fields on top, where there are such
abbrev pub with_fields : Stack → (Span → List (List ℕ × Exp) → Stack → Option Stack) → Option Stack
with_fields s f = option_and_then (λ t. f t.0 t.1 t.2) (top_fields s)

-- what an action makes of the path on top, where there is one
abbrev pub with_path : Stack → (List Seg → Stack → Option Stack) → Option Stack
with_path s f = option_and_then (λ t. f t.0 t.1) (top_path s)

-- what an action makes of the two finished parts on top, where there are two
abbrev pub with_pair : Stack → (Exp → Exp → Stack → Option Stack) → Option Stack
with_pair s f = option_and_then (λ t. f t.0 t.1 t.2) (top_pair s)

-- what an action makes of the part that a position is in, where it is on top
abbrev pub with_whole : Stack → (Exp → Stack → Option Stack) → Option Stack
with_whole s f = option_and_then (λ t. f t.0 t.1) (top_whole s)

-- what an action makes of the name on top, where there is one
abbrev pub with_label : Stack → (List ℕ → Stack → Option Stack) → Option Stack
with_label s f = option_and_then (λ t. f t.0 t.1) (top_label s)

-- what an action makes of the place on top, where there is one
abbrev pub with_place : Stack → (Span → Stack → Option Stack) → Option Stack
with_place s f = option_and_then (λ t. f t.0 t.1) (top_place s)

-- the stack with one more piece
abbrev pub put : Piece → Stack → Option Stack
put p s = Some (p ∷ s)

-- ---- actions

-- the name of a function alone, which takes arguments
abbrev pub call_name : Node-F Count Node Seg Exp → Option (List ℕ)
call_name (Node-F.Call name []) = Some name
call_name n = None

-- A function alone becomes its call with these arguments.
abbrev pub called : Exp → List Exp → Stack → Option Stack
called e es s =
    option_and_then (λ name. put (Done (exp (place e) (node.Call name es))) s)
    (call_name (opened e))

-- the stack behind an action, and none where the action does not fit what is on top
abbrev pub applied : Action → Stack → Option Stack
applied (action.Operand k x) s = put (Done (exp x.at (leaf_node k x.kind))) s
applied (action.Dot x) s = with_done s (λ e. put (Done (dotted e x)))
applied (action.Mark m) s = with_done s (λ e. put (Done (iterated e (mark_count m))))
applied action.Times s = with_pair s (λ e c. put (Done (iterated e (count.Times c))))
applied action.Below s =
    with_done s (λ c s. with_label s (λ i s. with_done s
    (λ e. put (Done (iterated e (count.Below i c))))))
applied (action.Label x) s = put (Label (name_of x.kind)) s
applied (action.Here at) s = put (Here at) s
applied (action.Prefix m) s =
    with_done s (λ e s. with_place s (λ at. put (Done (prefixed m at e))))
applied (action.Enclose k) s =
    with_done s (λ e s. with_place s (λ at. put (Done (exp at (enclosed k e)))))
applied action.Length s =
    with_done s (λ e s. with_place s (λ at. put (Done (exp at (node.Len e)))))
applied (action.Join m) s = with_pair s (λ l r. put (Done (joined l m r)))
applied (action.Open at) s = put (Parts at []) s
applied action.First s = with_done s (λ e. put (Parts (place e) (e ∷ [])))
applied action.Part s =
    with_done s (λ e s. with_parts s (λ at es. put (Parts at (es ++ e ∷ []))))
applied action.EndParens s = with_parts s (λ at es. put (Done (exp at (in_parens es))))
applied action.EndCall s = with_parts s (λ at es s. with_done s (λ f. called f es))
applied action.EndSequence s = with_parts s (λ at es. put (Done (exp at (node.Seq es))))
applied (action.OpenFields at) s = put (Fields at []) s
applied action.Field s =
    with_done s (λ e s. with_label s (λ name s. with_fields s
    (λ at fs. put (Fields at (fs ++ (name, e) ∷ [])))))
applied action.EndFields s = with_fields s (λ at fs. put (Done (exp at (node.Fields fs))))
applied action.OpenPath s = put (Path []) s
applied (action.StepField x) s =
    with_path s (λ ps. put (Path (ps ++ seg.Field (name_of x.kind) ∷ [])))
applied action.StepAt s =
    with_done s (λ i s. with_path s (λ ps. put (Path (ps ++ seg.At i ∷ []))))
applied action.StepSlice s =
    with_pair s (λ i j s. with_path s (λ ps. put (Path (ps ++ seg.Slice i j ∷ []))))
applied action.At s =
    with_done s (λ i s. with_whole s (λ e. put (Done (exp (place e) (node.At e i)))))
applied action.Slice s =
    with_pair s (λ i j s. with_whole s (λ e. put (Done (exp (place e) (node.Slice e i j)))))
applied (action.Change m) s =
    with_done s (λ new s. with_path s (λ ps s. with_done s
    (λ e. put (Done (changed m e ps new)))))

-- the actions one after another
abbrev pub run : List Action → Stack → Option Stack
run [] s = Some s
run (a ∷ later) s = option_and_then (run later) (applied a s)
