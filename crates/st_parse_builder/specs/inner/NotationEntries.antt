-- What each action makes of the parts of types and notations on the stack of the code, the
-- innermost first.
use Rattle.std.specs.Prelude.{ℕ, List, [], ◌∷◌, ◌++◌, map, reverse, Bool, true, false, Option, Some, None, option_and_then, if◌then◌else◌}
use Rattle.std.specs.Option.{option_map}
use Rattle.st_num.specs.declared.span.Span.{Span}
use Rattle.st_el.specs.declared.ty.Typ.{Typ}
use Rattle.st_el.specs.declared.notation.Notation.{Notation}
use Rattle.st_el.specs.declared.notation.NotNode.TheVariants as not_node
use Rattle.st_grammar.specs.declared.action.Action.{Action}
use Rattle.st_grammar.specs.declared.action.Action.TheVariants as action
use Rattle.st_parse_builder.specs.declared.built.Built.{Built}
use Rattle.st_parse_builder.specs.declared.notation_piece.NotationPiece.{NotationPiece}
use Rattle.st_parse_builder.specs.declared.notation_piece.NotationPiece.TheVariants.{Hole as a_type, Whole as whole, Types as types, Elements as elements, From as from_place}
use Rattle.st_parse_builder.specs.Notations.{marked, typ_in_parens, notation_at, notation_place, hole, atom_on, tick, notation_joined}
use Rattle.st_parse_builder.specs.Heights.{typ_height, notation_height}
use Rattle.st_parse_builder.specs.inner.PieceHeights.{notation_piece_height, open_height}
use Rattle.st_parse_builder.specs.inner.NotationBuilding.{operand_piece}
use Rattle.st_parse_builder.specs.inner.Parts.{capped, above, kept, built, untold, over, raised, both, read_tree, read_known, Makes}

-- the parts that are built so far
abbrev pub Stack : Type 0
Stack = List (Built NotationPiece)

-- the parts that stand for these pieces
abbrev pub entries : List NotationPiece → Stack
entries s = map (λ p. built 0 (notation_piece_height p) p) s

-- ---- what is on top

-- the type that a piece is, and where it begins
abbrev pub type_in : NotationPiece → Option (Span × Typ)
type_in (a_type at t) = Some (at, t)
type_in p = None

-- the notation that a piece is, which is no type alone
abbrev pub whole_in : NotationPiece → Option Notation
whole_in (whole n) = Some n
whole_in p = None

-- the types so far that a piece holds, and where they begin
abbrev pub types_in : NotationPiece → Option (Span × List Typ)
types_in (types at ts) = Some (at, ts)
types_in p = None

-- the elements so far that a piece holds, and where they begin
abbrev pub elements_in : NotationPiece → Option (Span × List Notation)
elements_in (elements at ns) = Some (at, ns)
elements_in p = None

-- the place where a part begins
abbrev pub place_in : NotationPiece → Option Span
place_in (from_place at) = Some at
place_in p = None

-- a part with this piece as a notation: a type is one higher as one
abbrev pub as_notation : Option NotationPiece → ℕ → ℕ → Option (Built Notation)
as_notation None height from = Some (record { tree = None; height = height; from = from })
as_notation (Some (a_type at t)) height from =
    Some (over {A = Span × Typ} (λ x. hole x.0 x.1)
    (raised (record { tree = Some (at, t); height = height; from = from })))
as_notation (Some (whole n)) height from =
    Some (record { tree = Some n; height = height; from = from })
as_notation p height from = None

-- the part on top as a notation
abbrev pub top_notation : Stack → Option (Built Notation × Stack)
top_notation [] = None
top_notation (p ∷ s) = option_map (λ q. (q, s)) (as_notation p.tree p.height p.from)

-- the type on top, and what is below
abbrev pub top_type : Stack → Option (Built (Span × Typ) × Stack)
top_type [] = None
top_type (p ∷ s) = option_map (λ q. (q, s)) (read_tree type_in p.tree p.height p.from)

-- the notation on top that is no type alone, and what is below
abbrev pub top_whole : Stack → Option (Built Notation × Stack)
top_whole [] = None
top_whole (p ∷ s) = option_map (λ q. (q, s)) (read_tree whole_in p.tree p.height p.from)

-- the types on top, and what is below
abbrev pub top_types : Stack → Option (Built (Span × List Typ) × Stack)
top_types [] = None
top_types (p ∷ s) = option_map (λ q. (q, s)) (read_tree types_in p.tree p.height p.from)

-- the elements on top, and what is below
abbrev pub top_elements : Stack → Option (Built (Span × List Notation) × Stack)
top_elements [] = None
top_elements (p ∷ s) = option_map (λ q. (q, s)) (read_tree elements_in p.tree p.height p.from)

-- the place on top, and what is below
abbrev pub top_place : Stack → Option (Span × Stack)
top_place [] = None
top_place (p ∷ s) = option_map (λ a. (a, s)) (read_known place_in p.tree)

-- what an action makes of the part on top as a notation, where there is one
abbrev pub with_notation : Stack → (Built Notation → Stack → Option Stack) → Option Stack
with_notation s f = option_and_then (λ t. f t.0 t.1) (top_notation s)

-- what an action makes of the type on top, where there is one
abbrev pub with_type : Stack → (Built (Span × Typ) → Stack → Option Stack) → Option Stack
with_type s f = option_and_then (λ t. f t.0 t.1) (top_type s)

-- what an action makes of the notation on top that is no type alone, where there is one
abbrev pub with_whole : Stack → (Built Notation → Stack → Option Stack) → Option Stack
with_whole s f = option_and_then (λ t. f t.0 t.1) (top_whole s)

-- what an action makes of the types on top, where there are such
abbrev pub with_types : Stack → (Built (Span × List Typ) → Stack → Option Stack) → Option Stack
with_types s f = option_and_then (λ t. f t.0 t.1) (top_types s)

-- what an action makes of the elements on top, where there are such
abbrev pub with_elements : Stack
    → (Built (Span × List Notation) → Stack → Option Stack) → Option Stack
with_elements s f = option_and_then (λ t. f t.0 t.1) (top_elements s)

-- what an action makes of the place on top, where there is one
abbrev pub with_place : Stack → (Span → Stack → Option Stack) → Option Stack
with_place s f = option_and_then (λ t. f t.0 t.1) (top_place s)

-- ---- what is made

-- the stack with one more part
abbrev pub put : Built NotationPiece → Stack → Option Stack
put p s = Some (p ∷ s)

-- a piece with no type or notation in it
abbrev pub begun : NotationPiece → Built NotationPiece
begun p = record { tree = Some p; height = 0; from = 0 }

-- types with one more
abbrev pub more_types : Span → Built (List Typ) → Built (Span × Typ) → Built NotationPiece
more_types at before t = over (λ x. types at (x.0 ++ x.1.1 ∷ [])) (both before t)

-- elements with one more
abbrev pub more_elements : Span → Built (List Notation) → Built Notation → Built NotationPiece
more_elements at before n = over (λ x. elements at (x.0 ++ x.1 ∷ [])) (both before n)

-- the part on top behind those below, which are these; what is too high stays so
abbrev pub part_behind : Option NotationPiece → Built NotationPiece → Built NotationPiece
    → Option (Built NotationPiece)
part_behind None q p = Some (untold 0)
part_behind (Some (types at ts)) q p =
    option_map (more_types at (record { tree = Some ts; height = q.height; from = q.from }))
    (read_tree type_in p.tree p.height p.from)
part_behind (Some (elements at ns)) q p =
    option_map (more_elements at (record { tree = Some ns; height = q.height; from = q.from }))
    (as_notation p.tree p.height p.from)
part_behind o q p = None

-- the part on top behind those below it
abbrev pub put_part : Stack → Option Stack
put_part (p ∷ q ∷ s) = option_map (λ r. r ∷ s) (part_behind q.tree q p)
put_part s = None

-- There is one type.
abbrev pub is_one : Option (Span × List Typ) → Bool
is_one (Some (at, t ∷ [])) = true
is_one o = false

-- types in parentheses: one alone is as high as it is without them
abbrev pub enclosed_types : Built (Span × List Typ) → Built (Span × List Typ)
enclosed_types p = if is_one p.tree then p else raised p

-- ---- actions

-- the stack behind an action, and none where the action does not fit what is on top
abbrev pub applied : Action → Stack → Option Stack
applied (action.Operand k x) s =
    put (record { tree = Some (operand_piece k x); height = 1; from = 0 }) s
applied (action.Dot x) s = with_whole s (λ p. put (over (λ n. whole (atom_on n x)) p))
applied (action.Mark m) s =
    with_type s (λ p. put (over (λ x. a_type x.0 (marked x.0 m x.1)) (raised p)))
applied (action.Here at) s = put (begun (from_place at)) s
applied (action.Prefix m) s =
    with_notation s (λ p s. with_place s
    (λ at. put (over (λ n. whole (notation_joined (notation_at at (not_node.Seq [])) m n))
    (raised p))))
applied (action.Enclose k) s =
    with_notation s (λ p s. with_place s
    (λ at. put (over (λ n. whole (notation_at at (not_node.Bracket (tick k) n))) (raised p))))
applied (action.Join m) s =
    with_notation s (λ r s. with_notation s
    (λ l. put (over (λ x. whole (notation_joined x.0 m x.1)) (raised (both l r)))))
applied (action.Open at) s = put (begun (types at [])) s
applied action.First s =
    with_notation s (λ p. put (over (λ n. elements (notation_place n) (n ∷ [])) p))
applied action.Part s = put_part s
applied action.EndParens s =
    with_types s (λ p. put (over (λ x. a_type x.0 (typ_in_parens x.0 x.1)) (enclosed_types p)))
applied action.EndSequence s =
    with_elements s (λ p. put (over (λ x. whole (notation_at x.0 (not_node.Seq x.1))) (raised p)))
applied a s = None

-- what an action makes of a stack, of which the code has the top last
abbrev pub Forms : Action → Stack → Stack → Option (Built NotationPiece) → Type 0
Forms a old new made = Makes (applied a (reverse old)) (reverse new) made

-- ---- what is built

-- the one part on the stack
abbrev pub the_part : Stack → Option (Built NotationPiece)
the_part (p ∷ []) = Some p
the_part s = None

-- the type that a part is
abbrev pub typ_in : Built NotationPiece → Option (Built Typ)
typ_in p = option_map (over (λ x. x.1)) (read_tree type_in p.tree p.height p.from)

-- a part with this piece as a notation: a type alone is kept where it may be an alias
abbrev pub open_notation : Option NotationPiece → ℕ → ℕ → Option (Built Notation)
open_notation (Some (a_type at t)) height from =
    Some (record { tree = Some (hole at t); height = above height; from = from })
open_notation p height from = as_notation p height from

-- the notation that a part is
abbrev pub notation_in : Built NotationPiece → Option (Built Notation)
notation_in p = open_notation p.tree p.height p.from

-- what is built of a type
abbrev pub typ_part : Typ → Built Typ
typ_part t = built 0 (typ_height t) t

-- What is built of a notation: a type alone has a tree where it may be an alias.
abbrev pub notation_part : Notation → Built Notation
notation_part n =
    record { tree = kept (open_height n) (Some n); height = capped (notation_height n); from = 0 }
