-- The source tree that a tree of the grammar means, where it stands for an expression.
use Rattle.std.specs.Prelude.{ℕ, List, [], ◌∷◌, ◌++◌, Bool, true, false, ◌&&◌, if◌then◌else◌}
use Rattle.st_num.specs.declared.mark.Mark.{Mark}
use Rattle.st_num.specs.declared.mark.Mark.TheVariants as mark
use Rattle.st_num.specs.declared.span.Span.{Span}
use Rattle.st_num.specs.declared.token.Token.{Token}
use Rattle.st_grammar.specs.declared.sort.Bracket.{Bracket}
use Rattle.st_grammar.specs.declared.sort.Bracket.TheVariants.{Round as round, Brace as brace, TickRound as tick_round, TickSquare as tick_square, TickBrace as tick_brace}
use Rattle.st_grammar.specs.Terminals.{Terminal, dot, sign}
use Rattle.st_num.specs.Signs.{is_notation}
use Rattle.st_grammar.specs.Trees.{Tree, operand, post, times, bracket, led, Lead, left, ahead, items, Trees, none, more, Heading, plain, length, arguments, index, segment, update, below, Path, head, field, part}
use Rattle.st_grammar.specs.Definitions.{token_in, is_minus}
use Rattle.st_el.specs.declared.expression.Exp.{Exp, out-Exp, roll-Exp}
use Rattle.st_el.specs.declared.expression.Node.{Node, out-Node}
use Rattle.st_el.specs.declared.expression.Node.TheVariants as node
use Rattle.st_el.specs.declared.expression.Count.{Count}
use Rattle.st_el.specs.declared.expression.Count.TheOpen.{Node-F}
use Rattle.st_el.specs.declared.expression.Count.TheVariants as count
use Rattle.st_el.specs.declared.expression.Seg.{Seg}
use Rattle.st_el.specs.declared.expression.Seg.TheVariants as seg
use Rattle.st_el.specs.Plain.{nowhere}
use Rattle.st_parse_builder.specs.Names.{name_of, leaf_node}

-- ---- places

-- the expression with this node that begins there
abbrev pub exp : Span → Node → Exp
exp at n = roll-Exp (record { at = at; node = n })

-- where an expression begins
abbrev pub place : Exp → Span
place e = (out-Exp e).at

-- Where several parts begin: with the first of them.
abbrev pub first_place : List Exp → Span
first_place [] = nowhere
first_place (e ∷ es) = place e

-- what stands for a part that the grammar does not allow
abbrev pub nothing : Exp
nothing = exp nowhere node.Eps

-- ---- signs

-- A sign of the notation stands between two sides of it; any other is an operator.
abbrev pub joined_node : Exp → Mark → Exp → Node
joined_node l m r = if is_notation m then node.Infix l m r else node.Binary l m r

-- two sides with a sign between them, placed where the left one begins
abbrev pub joined : Exp → Mark → Exp → Exp
joined l m r = exp (place l) (joined_node l m r)

-- the sign of negation, `~`
abbrev pub is_tilde : Mark → Bool
is_tilde mark.Tilde = true
is_tilde m = false

-- A prefix sign, or a sign of the notation whose left side is absent. That side has the place of
-- the sign.
abbrev pub prefixed_node : Mark → Span → Exp → Node
prefixed_node m at e =
    if is_tilde m then node.Not e
    else if is_minus m then node.Neg e
    else node.Infix (exp at (node.Seq [])) m e

-- what such a sign with this expression behind it means, placed at the sign
abbrev pub prefixed : Mark → Span → Exp → Exp
prefixed m at e = exp at (prefixed_node m at e)

-- ---- postfixes

-- The expression is an atom.
abbrev pub is_atom : Node-F Count Node Seg Exp → Bool
is_atom (Node-F.Atom name) = true
is_atom n = false

-- the name of an atom, and empty for anything else
abbrev pub atom_name : Node-F Count Node Seg Exp → List ℕ
atom_name (Node-F.Atom name) = name
atom_name n = []

-- the node of an expression, one level unfolded, so that its kind can be asked
abbrev pub opened : Exp → Node-F Count Node Seg Exp
opened e = out-Node (out-Exp e).node

-- A dot that touches an atom goes on with its name. Any other dot is a field.
abbrev pub dotted_node : Exp → Bool → List ℕ → Node
dotted_node e touching behind =
    if touching && is_atom (opened e) then node.Atom (atom_name (opened e) ++ 46 ∷ behind)
    else node.Dot e behind

-- an expression with a dot and its name behind it, placed where the expression begins
abbrev pub dotted : Exp → Token → Exp
dotted e x = exp (place e) (dotted_node e x.touching (name_of x.kind))

-- an expression that is repeated so often, placed where the expression begins
abbrev pub iterated : Exp → Count → Exp
iterated e c = exp (place e) (node.Iter e c)

-- the iteration sign `*`
abbrev pub is_star : Mark → Bool
is_star mark.Star = true
is_star m = false

-- the iteration sign `+`
abbrev pub is_plus : Mark → Bool
is_plus mark.Plus = true
is_plus m = false

-- how often an iteration sign repeats: `*` any number, `+` at least once, `?` at most once
abbrev pub mark_count : Mark → Count
mark_count m = if is_star m then count.Star else if is_plus m then count.Plus else count.Quest

-- an expression with a dot or an iteration sign behind it
abbrev pub posted : Exp → Terminal → Exp
posted e (dot x) = dotted e x
posted e (sign m x) = iterated e (mark_count m)
posted e l = e

-- the count that a tree behind `^` is, with its meaning
abbrev pub count_of : Tree → Exp → Count
count_of (bracket (below o i m x) ts c) e = count.Below (name_of i.kind) e
count_of t e = count.Times e

-- ---- brackets

-- the one part that a bracket holds, where it holds one
abbrev pub only : List Exp → Exp
only (e ∷ []) = e
only es = nothing

-- One part is in parentheses, several are a tuple.
abbrev pub in_parens : List Exp → Node
in_parens (e ∷ []) = node.Paren e
in_parens es = node.Tuple es

-- one part in a bracket: backquoted ones are named by their opening sign, `$( )` is arithmetic
abbrev pub enclosed : Bracket → Exp → Node
enclosed tick_round e = node.Bracket mark.TickParen e
enclosed tick_square e = node.Bracket mark.TickBracket e
enclosed tick_brace e = node.Bracket mark.TickBrace e
enclosed k e = node.Arith e

-- the name that the last of the tokens before a field spells
abbrev pub label : List Terminal → List ℕ
label [] = []
label (l ∷ []) = name_of (token_in l).kind
label (k ∷ ls) = label ls

-- a step of a path: one position, or a position and how many elements
abbrev pub step_at : List Exp → Seg
step_at (i ∷ []) = seg.At i
step_at (i ∷ j ∷ []) = seg.Slice i j
step_at es = seg.Field []

-- an expression at one position, or its elements from a position on
abbrev pub indexed_node : Exp → List Exp → Node
indexed_node e (i ∷ []) = node.At e i
indexed_node e (i ∷ j ∷ []) = node.Slice e i j
indexed_node e es = node.Eps

-- an expression with such positions behind it in brackets, placed where it begins
abbrev pub indexed : Exp → List Exp → Exp
indexed e es = exp (place e) (indexed_node e es)

-- `=++` extends, `=` replaces
abbrev pub is_extension : Mark → Bool
is_extension mark.ExtendBy = true
is_extension m = false

-- an expression whose value at a path is extended or replaced by a new one
abbrev pub changed_node : Mark → Exp → List Seg → Exp → Node
changed_node m e path new =
    if is_extension m then node.Extend e path new else node.Update e path new

-- the same, placed where the expression that is changed begins
abbrev pub changed : Mark → Exp → List Seg → Exp → Exp
changed m e path new = exp (place e) (changed_node m e path new)

-- ---- trees

-- expressions side by side, placed where the first begins
abbrev pub sequence : List Exp → Exp
sequence es = exp (first_place es) (node.Seq es)

abbrev mutual
  -- the expression that a tree means
  pub meaning : Tree → Exp
  meaning (operand k x) = exp x.at (leaf_node k x.kind)
  meaning (post t l) = posted (meaning t) l
  meaning (times t m x c) = iterated (meaning t) (count_of c (meaning c))
  meaning (bracket h ts c) = bracketed h (meanings ts) (field_meanings ts)
  meaning (led g t) = led_by g (meaning t)

  -- the expression that a tree means whose last part means this, behind what leads to it
  pub led_by : Lead → Exp → Exp
  led_by (left l m x) e = joined (meaning l) m e
  led_by (ahead m x) e = prefixed m x.at e
  led_by (items ts) e = sequence (meanings ts ++ e ∷ [])

  -- the expressions that parts of a tree mean, in the order of the text
  pub meanings : Trees → List Exp
  meanings none = []
  meanings (more ts pre t) = meanings ts ++ meaning t ∷ []

  -- the fields that parts of a record mean, each with its name
  pub field_meanings : Trees → List (List ℕ × Exp)
  field_meanings none = []
  field_meanings (more ts pre t) = field_meanings ts ++ (label pre, meaning t) ∷ []

  -- A bracket with these parts, or these fields. A count behind an index is the tree between `<`
  -- and `)`.
  pub bracketed : Heading → List Exp → List (List ℕ × Exp) → Exp
  bracketed (plain round o) es fs = exp o.at (in_parens es)
  bracketed (plain brace o) es fs = exp o.at (node.Fields fs)
  bracketed (plain k o) es fs = exp o.at (enclosed k (only es))
  bracketed (length o) es fs = exp o.at (node.Len (only es))
  bracketed (arguments f o) es fs = exp f.at (node.Call (name_of f.kind) es)
  bracketed (index t o) es fs = indexed (meaning t) es
  bracketed (segment p o) es fs = nothing
  bracketed (update p m x) es fs = changed m (base p) (steps p) (only es)
  bracketed (below o i m x) es fs = only es

  -- the expression that a path goes into
  pub base : Path → Exp
  base (head t o) = meaning t
  base (field p x) = base p
  base (part p o ts c) = base p

  -- the steps of a path, in the order of the text
  pub steps : Path → List Seg
  steps (head t o) = []
  steps (field p x) = steps p ++ seg.Field (name_of x.kind) ∷ []
  steps (part p o ts c) = steps p ++ step_at (meanings ts) ∷ []
