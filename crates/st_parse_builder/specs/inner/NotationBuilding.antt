-- What each action makes of the pieces of types and notations on the stack, the innermost first.
use Rattle.std.specs.Prelude.{List, [], ◌∷◌, ◌++◌, Option, Some, None, option_and_then, if◌then◌else◌}
use Rattle.st_num.specs.declared.span.Span.{Span}
use Rattle.st_num.specs.declared.token.Token.{Token}
use Rattle.st_grammar.specs.declared.sort.Leaf.{Leaf}
use Rattle.st_grammar.specs.declared.sort.Leaf.TheVariants as leaf
use Rattle.st_grammar.specs.Trees.{Tree}
use Rattle.st_grammar.specs.Grammar.{is_type}
use Rattle.st_el.specs.declared.ty.Typ.{Typ}
use Rattle.st_el.specs.declared.notation.Notation.{Notation}
use Rattle.st_el.specs.declared.notation.NotNode.TheVariants as not_node
use Rattle.st_grammar.specs.declared.action.Action.{Action}
use Rattle.st_grammar.specs.declared.action.Action.TheVariants as action
use Rattle.st_parse_builder.specs.declared.notation_piece.NotationPiece.{NotationPiece}
use Rattle.st_parse_builder.specs.declared.notation_piece.NotationPiece.TheVariants.{Hole as a_type, Whole as whole, Types as types, Elements as elements, From as from_place}
use Rattle.st_parse_builder.specs.Notations.{typ_at, typ_leaf, typ_start, marked, typ_in_parens, typ_meaning, notation_at, notation_place, hole, notation_leaf, atom_on, tick, notation_joined, notation_meaning}

-- the pieces that are built so far
abbrev pub Stack : Type 0
Stack = List NotationPiece

-- the piece of one token: a type, or an atom
abbrev pub operand_piece : Leaf → Token → NotationPiece
operand_piece leaf.Low x = a_type x.at (typ_at x.at (typ_leaf x.kind))
operand_piece leaf.Basic x = a_type x.at (typ_at x.at (typ_leaf x.kind))
operand_piece k x = whole (notation_leaf k x)

-- the stack with one more piece
abbrev pub put : NotationPiece → Stack → Option Stack
put p s = Some (p ∷ s)

-- ---- what is on top

-- the part on top as a notation
abbrev pub top_notation : Stack → Option (Notation × Stack)
top_notation (a_type at t ∷ s) = Some (hole at t, s)
top_notation (whole n ∷ s) = Some (n, s)
top_notation s = None

-- the type on top with where it begins, and what is below it
abbrev pub top_type : Stack → Option (Span × Typ × Stack)
top_type (a_type at t ∷ s) = Some (at, t, s)
top_type s = None

-- the notation on top that is no type alone, and what is below it
abbrev pub top_whole : Stack → Option (Notation × Stack)
top_whole (whole n ∷ s) = Some (n, s)
top_whole s = None

-- where a part begins whose sign or bracket is read, and what is below
abbrev pub top_place : Stack → Option (Span × Stack)
top_place (from_place at ∷ s) = Some (at, s)
top_place s = None

-- what an action makes of the part on top as a notation, where there is one
abbrev pub with_notation : Stack → (Notation → Stack → Option Stack) → Option Stack
with_notation s f = option_and_then (λ t. f t.0 t.1) (top_notation s)

-- what an action makes of the type on top, where there is one
abbrev pub with_type : Stack → (Span → Typ → Stack → Option Stack) → Option Stack
with_type s f = option_and_then (λ t. f t.0 t.1 t.2) (top_type s)

-- what an action makes of the notation on top that is no type alone, where there is one
abbrev pub with_whole : Stack → (Notation → Stack → Option Stack) → Option Stack
with_whole s f = option_and_then (λ t. f t.0 t.1) (top_whole s)

-- what an action makes of the place on top, where there is one
abbrev pub with_place : Stack → (Span → Stack → Option Stack) → Option Stack
with_place s f = option_and_then (λ t. f t.0 t.1) (top_place s)

-- ---- actions

-- one more type in parentheses, or one more element of a sequence
abbrev pub put_part : NotationPiece → Stack → Option Stack
put_part (a_type from t) (types at ts ∷ s) = put (types at (ts ++ t ∷ [])) s
put_part (a_type from t) (elements at ns ∷ s) = put (elements at (ns ++ hole from t ∷ [])) s
put_part (whole n) (elements at ns ∷ s) = put (elements at (ns ++ n ∷ [])) s
put_part p s = None

-- the stack behind an action, and none where the action does not fit what is on top
abbrev pub applied : Action → Stack → Option Stack
applied (action.Operand k x) s = put (operand_piece k x) s
applied (action.Dot x) s = with_whole s (λ n. put (whole (atom_on n x)))
applied (action.Mark m) s = with_type s (λ at t. put (a_type at (marked at m t)))
applied (action.Here at) s = put (from_place at) s
applied (action.Prefix m) s =
    with_notation s (λ n s. with_place s
    (λ at. put (whole (notation_joined (notation_at at (not_node.Seq [])) m n))))
applied (action.Enclose k) s =
    with_notation s (λ n s. with_place s
    (λ at. put (whole (notation_at at (not_node.Bracket (tick k) n)))))
applied (action.Join m) s =
    with_notation s (λ r s. with_notation s (λ l. put (whole (notation_joined l m r))))
applied (action.Open at) s = put (types at []) s
applied action.First s = with_notation s (λ n. put (elements (notation_place n) (n ∷ [])))
applied action.Part (p ∷ s) = put_part p s
applied action.EndParens (types at ts ∷ s) = put (a_type at (typ_in_parens at ts)) s
applied action.EndSequence (elements at ns ∷ s) =
    put (whole (notation_at at (not_node.Seq ns))) s
applied a s = None

-- the actions one after another
abbrev pub run : List Action → Stack → Option Stack
run [] s = Some s
run (a ∷ later) s = option_and_then (run later) (applied a s)

-- the one type on the stack
abbrev pub the_typ : Stack → Option Typ
the_typ (a_type at t ∷ []) = Some t
the_typ s = None

-- the one part on the stack, as a notation
abbrev pub the_notation : Stack → Option Notation
the_notation (a_type at t ∷ []) = Some (hole at t)
the_notation (whole n ∷ []) = Some n
the_notation s = None

-- the type that actions build
abbrev pub typ_built : List Action → Option Typ
typ_built actions = option_and_then the_typ (run actions [])

-- the notation that actions build
abbrev pub notation_built : List Action → Option Notation
notation_built actions = option_and_then the_notation (run actions [])

-- the piece that a tree is built as
abbrev pub piece_of : Tree → NotationPiece
piece_of t =
    if is_type t then a_type (typ_start t) (typ_meaning t) else whole (notation_meaning t)
