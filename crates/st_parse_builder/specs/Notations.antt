-- The types and notations that trees of the grammar mean.
use Rattle.std.specs.Prelude.{ℕ, List, [], ◌∷◌, ◌++◌}
use Rattle.st_num.specs.declared.mark.Mark.{Mark}
use Rattle.st_num.specs.declared.mark.Mark.TheVariants as mark
use Rattle.st_num.specs.declared.span.Span.{Span}
use Rattle.st_num.specs.declared.token.Token.{Token}
use Rattle.st_num.specs.declared.token.TokenKind.{TokenKind}
use Rattle.st_num.specs.declared.token.TokenKind.TheVariants as kind
use Rattle.st_num.specs.declared.word.Word.TheVariants as word
use Rattle.st_grammar.specs.declared.sort.Leaf.{Leaf}
use Rattle.st_grammar.specs.declared.sort.Leaf.TheVariants.{Low as low, Basic as basic}
use Rattle.st_grammar.specs.declared.sort.Bracket.{Bracket}
use Rattle.st_grammar.specs.declared.sort.Bracket.TheVariants.{Round as round, TickRound as tick_round, TickSquare as tick_square}
use Rattle.st_grammar.specs.Terminals.{Terminal, dot, sign}
use Rattle.st_grammar.specs.Trees.{Tree, operand, post, times, bracket, led, Lead, left, ahead, items, Trees, none, more, Heading, plain}
use Rattle.st_el.specs.declared.ty.Typ.{Typ, roll-Typ}
use Rattle.st_el.specs.declared.ty.TypNode.{TypNode}
use Rattle.st_el.specs.declared.ty.TypNode.TheVariants as typ_node
use Rattle.st_el.specs.declared.notation.Notation.{Notation, out-Notation, roll-Notation}
use Rattle.st_el.specs.declared.notation.NotNode.{NotNode, out-NotNode, roll-NotNode}
use Rattle.st_el.specs.declared.notation.NotNode.TheOpen.{NotNode-F}
use Rattle.st_el.specs.declared.notation.NotNode.TheVariants as not_node
use Rattle.st_el.specs.Plain.{nowhere}
use Rattle.st_parse_builder.specs.Names.{name_of}

-- ---- types

-- the type with this node that begins there
abbrev pub typ_at : Span → TypNode → Typ
typ_at at n = roll-Typ (record { at = at; node = n })

-- what stands for a type that the grammar does not allow
abbrev pub no_typ : Typ
no_typ = typ_at nowhere (typ_node.Name [])

-- the type of one token: one of the four basic types, or a name
abbrev pub typ_leaf : TokenKind → TypNode
typ_leaf (kind.Reserved word.Bool) = typ_node.Bool
typ_leaf (kind.Reserved word.Nat) = typ_node.Nat
typ_leaf (kind.Reserved word.Int) = typ_node.Int
typ_leaf (kind.Reserved word.Text) = typ_node.Text
typ_leaf k = typ_node.Name (name_of k)

-- `?` behind a type makes it optional, and any other iteration sign makes it a list.
abbrev pub marked_node : Mark → Typ → TypNode
marked_node mark.Question t = typ_node.Quest t
marked_node m t = typ_node.Star t

-- a type with an iteration sign behind it, which begins there
abbrev pub marked : Span → Mark → Typ → Typ
marked at m t = typ_at at (marked_node m t)

-- the same for a token of the grammar, which is such a sign or is not allowed there
abbrev pub marked_by : Span → Terminal → Typ → Typ
marked_by at (sign m x) t = marked at m t
marked_by at l t = no_typ

-- where the text of a type begins, which is with the parentheses round it
abbrev pub typ_start : Tree → Span
typ_start (operand k x) = x.at
typ_start (post t l) = typ_start t
typ_start (bracket (plain k o) ts c) = o.at
typ_start t = nowhere

-- Parentheses round one type alone mean that type, at its own place.
abbrev pub typ_in_parens : Span → List Typ → Typ
typ_in_parens at (t ∷ []) = t
typ_in_parens at ts = typ_at at (typ_node.Tuple ts)

abbrev mutual
  -- the type that a tree means
  pub typ_meaning : Tree → Typ
  typ_meaning (operand k x) = typ_at x.at (typ_leaf x.kind)
  typ_meaning (post t l) = marked_by (typ_start t) l (typ_meaning t)
  typ_meaning (bracket (plain round o) ts c) = typ_in_parens o.at (typ_meanings ts)
  typ_meaning t = no_typ

  -- the types that parts of a tree mean, in the order of the text
  pub typ_meanings : Trees → List Typ
  typ_meanings none = []
  typ_meanings (more ts pre t) = typ_meanings ts ++ typ_meaning t ∷ []

-- ---- notations

-- the notation with this node that begins there
abbrev pub notation_at : Span → NotNode → Notation
notation_at at n = roll-Notation (record { at = at; node = n })

-- where a notation begins
abbrev pub notation_place : Notation → Span
notation_place n = (out-Notation n).at

-- what stands for a notation that the grammar does not allow
abbrev pub no_notation : Notation
no_notation = notation_at nowhere (not_node.Seq [])

-- a type as a part of a notation that begins there, where an operand of that type goes
abbrev pub hole : Span → Typ → Notation
hole at t = notation_at at (not_node.Hole t)

-- In a notation a name without a lower-case letter is an atom, declared by `var` or not.
abbrev pub notation_leaf : Leaf → Token → Notation
notation_leaf low x = hole x.at (typ_at x.at (typ_leaf x.kind))
notation_leaf basic x = hole x.at (typ_at x.at (typ_leaf x.kind))
notation_leaf k x = notation_at x.at (not_node.Atom (name_of x.kind))

-- An atom goes on with the name behind a dot, and nothing else does.
abbrev pub spelled_on : NotNode-F NotNode Notation → List ℕ → NotNode
spelled_on (NotNode-F.Atom name) behind = not_node.Atom (name ++ 46 ∷ behind)
spelled_on n behind = roll-NotNode n

-- a notation with a dot and its name behind it, placed where the notation begins
abbrev pub atom_on : Notation → Token → Notation
atom_on n x =
    notation_at (notation_place n) (spelled_on (out-NotNode (out-Notation n).node) (name_of x.kind))

-- The iteration signs behind a type, whose start and meaning come first, are part of it.
abbrev pub notation_posted : Span → Typ → Notation → Terminal → Notation
notation_posted at t n (sign m x) = hole at (marked at m t)
notation_posted at t n (dot x) = atom_on n x
notation_posted at t n l = no_notation

-- the sign that names backquoted brackets, which is the opening one
abbrev pub tick : Bracket → Mark
tick tick_round = mark.TickParen
tick tick_square = mark.TickBracket
tick k = mark.TickBrace

-- the one notation that a bracket holds
abbrev pub only_notation : List Notation → Notation
only_notation (n ∷ []) = n
only_notation ns = no_notation

-- a bracket in a notation: parentheses are a type, and backquoted ones hold one notation
abbrev pub notation_bracketed : Heading → List Typ → List Notation → Notation
notation_bracketed (plain round o) ts ns = hole o.at (typ_in_parens o.at ts)
notation_bracketed (plain k o) ts ns =
    notation_at o.at (not_node.Bracket (tick k) (only_notation ns))
notation_bracketed h ts ns = no_notation

-- A sign between two sides begins with its left side, and where that is absent with the sign.
abbrev pub notation_joined : Notation → Mark → Notation → Notation
notation_joined l m r = notation_at (notation_place l) (not_node.Infix l m r)

-- where several notations begin, which is with the first
abbrev pub notation_first : List Notation → Span
notation_first [] = nowhere
notation_first (n ∷ ns) = notation_place n

-- notations side by side, placed where the first begins
abbrev pub notation_sequence : List Notation → Notation
notation_sequence ns = notation_at (notation_first ns) (not_node.Seq ns)

abbrev mutual
  -- the notation that a tree means
  pub notation_meaning : Tree → Notation
  notation_meaning (operand k x) = notation_leaf k x
  notation_meaning (post t l) =
      notation_posted (typ_start t) (typ_meaning t) (notation_meaning t) l
  notation_meaning (bracket h ts c) = notation_bracketed h (typ_meanings ts) (notation_meanings ts)
  notation_meaning (led g t) = notation_led g (notation_meaning t)
  notation_meaning (times t m x c) = no_notation

  -- the notation of a tree whose last part means this, behind what leads to it
  pub notation_led : Lead → Notation → Notation
  notation_led (left l m x) n = notation_joined (notation_meaning l) m n
  notation_led (ahead m x) n = notation_joined (notation_at x.at (not_node.Seq [])) m n
  notation_led (items ts) n = notation_sequence (notation_meanings ts ++ n ∷ [])

  -- the notations that parts of a tree mean, in the order of the text
  pub notation_meanings : Trees → List Notation
  notation_meanings none = []
  notation_meanings (more ts pre t) = notation_meanings ts ++ notation_meaning t ∷ []
