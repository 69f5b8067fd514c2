-- Trees that keep each token, and their tokens. Each tree has its production in front: of it the
-- trees of all sorts are told, and `Grammar.antt` says which of them a sort allows.
use Rattle.std.specs.Prelude.{List, [], ◌∷◌, ◌++◌, Bool, true, false}
use Rattle.st_num.specs.declared.mark.Mark.{Mark}
use Rattle.st_num.specs.declared.token.Token.{Token}
use Rattle.st_grammar.specs.declared.sort.Leaf.{Leaf}
use Rattle.st_grammar.specs.declared.sort.Leaf.TheVariants.{Low as low, Function as function}
use Rattle.st_grammar.specs.declared.sort.Bracket.{Bracket}
use Rattle.st_grammar.specs.declared.sort.Bracket.TheVariants.{Round as round, Square as square, Brace as brace, TickRound as tick_round, TickSquare as tick_square, TickBrace as tick_brace, Dollar as dollar}
use Rattle.st_grammar.specs.declared.sort.Closing.{Closing}
use Rattle.st_grammar.specs.declared.sort.Closing.TheVariants.{ByRound as by_round, BySquare as by_square, ByBrace as by_brace, ByBar as by_bar}
use Rattle.st_grammar.specs.Terminals.{Terminal, leaf, dot, sign, opening, closing}

mutual
  -- a part, or a piece of one, with each of its tokens
  pub data Tree : Type 0 where
    -- tree ::= name | number | text | function
    -- a token that stands alone
    operand : Leaf → Token → Tree
    -- tree ::= tree (`*` | `+` | `?`) | tree `.NAME`
    -- an iteration sign or a dot behind a tree
    post : Tree → Terminal → Tree
    -- tree ::= tree `^` tree
    -- `^` behind a tree, and its count
    times : Tree → Mark → Token → Tree → Tree
    -- tree ::= heading trees closing
    -- what opens, the parts, and what closes
    bracket : Heading → Trees → Token → Tree
    -- tree ::= lead tree
    -- a last part behind what leads to it
    led : Lead → Tree → Tree

  -- what leads to a last part: a left side and its sign, a sign without one, or elements
  pub data Lead : Type 0 where
    -- lead ::= tree sign
    -- a left side and its sign
    left : Tree → Mark → Token → Lead
    -- lead ::= sign
    -- a sign that has no left side
    ahead : Mark → Token → Lead
    -- lead ::= trees
    -- the elements of a sequence before the last one
    items : Trees → Lead

  -- parts in a row, each with the tokens before it that set it off
  pub data Trees : Type 0 where
    -- trees ::=
    none : Trees
    -- trees ::= trees token* tree
    more : Trees → List Terminal → Tree → Trees

  -- what stands before the parts that a bracket holds
  pub data Heading : Type 0 where
    -- heading ::= `(` | `[` | `{` | the same backquoted | `$(`
    plain : Bracket → Token → Heading
    -- heading ::= `|`
    -- the bar of a length
    length : Token → Heading
    -- heading ::= function `(`
    -- a function and `(`
    arguments : Token → Token → Heading
    -- heading ::= tree `[`
    -- a tree and `[`
    index : Tree → Token → Heading
    -- heading ::= path `[`
    -- a path and `[`
    segment : Path → Token → Heading
    -- heading ::= path (`=` | `=++`)
    -- a path with its sign, `=` or `=++`
    update : Path → Mark → Token → Heading
    -- heading ::= `(` name `<`
    -- `(`, a name and `<`, in a count
    below : Token → Token → Mark → Token → Heading

  -- a tree, `[` and the steps behind it
  pub data Path : Type 0 where
    -- path ::= tree `[`
    head : Tree → Token → Path
    -- path ::= path `.NAME`
    field : Path → Token → Path
    -- path ::= path `[` trees `]`
    part : Path → Token → Trees → Token → Path

-- what closes such a bracket
abbrev pub closed_by : Bracket → Closing
closed_by round = by_round
closed_by square = by_square
closed_by brace = by_brace
closed_by tick_round = by_round
closed_by tick_square = by_square
closed_by tick_brace = by_brace
closed_by dollar = by_round

-- what closes the bracket before whose parts this stands
abbrev pub closes : Heading → Closing
closes (plain k o) = closed_by k
closes (length o) = by_bar
closes (arguments f o) = by_round
closes (index t o) = by_square
closes (segment p o) = by_square
closes (update p m x) = by_square
closes (below o i m x) = by_round

-- these two are the same closing token
abbrev pub agree : Closing → Closing → Bool
agree by_round by_round = true
agree by_square by_square = true
agree by_brace by_brace = true
agree by_bar by_bar = true
agree c d = false

-- the tokens of a tree
abbrev mutual
  -- all tokens of a tree, in their order
  pub text : Tree → List Terminal
  text (operand k x) = leaf k x ∷ []
  text (post t l) = text t ++ l ∷ []
  text (times t m x c) = text t ++ (sign m x ∷ text c)
  text (bracket h ts c) = heading_text h ++ (texts ts ++ closing (closes h) c ∷ [])
  text (led g t) = lead_text g ++ text t

  -- the tokens before a last part
  pub lead_text : Lead → List Terminal
  lead_text (left l m x) = text l ++ sign m x ∷ []
  lead_text (ahead m x) = sign m x ∷ []
  lead_text (items ts) = texts ts

  -- the tokens of parts, with those that set them off
  pub texts : Trees → List Terminal
  texts none = []
  texts (more ts pre t) = texts ts ++ (pre ++ text t)

  -- the tokens before the parts that a bracket holds
  pub heading_text : Heading → List Terminal
  heading_text (plain k o) = opening k o ∷ []
  heading_text (length o) = closing by_bar o ∷ []
  heading_text (arguments f o) = leaf function f ∷ opening round o ∷ []
  heading_text (index t o) = text t ++ opening square o ∷ []
  heading_text (segment p o) = path_text p ++ opening square o ∷ []
  heading_text (update p m x) = path_text p ++ sign m x ∷ []
  heading_text (below o i m x) = opening round o ∷ leaf low i ∷ sign m x ∷ []

  -- the tokens of a path: those of its tree, `[` and those of its steps
  pub path_text : Path → List Terminal
  path_text (head t o) = text t ++ opening square o ∷ []
  path_text (field p x) = path_text p ++ dot x ∷ []
  path_text (part p o ts c) =
      path_text p ++ (opening square o ∷ (texts ts ++ closing by_square c ∷ []))
