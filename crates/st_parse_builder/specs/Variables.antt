-- The variables that occur in a part, a premise or a definition, in the order of the text.
use Rattle.std.specs.Prelude.{ℕ, List, [], ◌∷◌, ◌++◌, map, filter, flat_map, not}
use Rattle.st_num.specs.declared.span.Span.{Span}
use Rattle.st_num.specs.declared.token.Token.{Token}
use Rattle.st_el.specs.declared.expression.Exp.{Exp, Exp-F, fold-Exp}
use Rattle.st_el.specs.declared.expression.Count.{Count, fold-Count}
use Rattle.st_el.specs.declared.expression.Count.TheOpen.{Count-F, Node-F, Seg-F}
use Rattle.st_el.specs.declared.expression.Seg.{Seg, fold-Seg}
use Rattle.st_el.specs.declared.definition.Prem.{Prem, fold-Prem}
use Rattle.st_el.specs.declared.definition.PremNode.TheOpen.{PremNode-F}
use Rattle.st_el.specs.declared.definition.Def.{Def}
use Rattle.st_el.specs.declared.definition.DefNode.{DefNode}
use Rattle.st_el.specs.declared.definition.DefNode.TheVariants as def
use Rattle.st_parse_builder.specs.Names.{name_of}
use Rattle.st_num.specs.Names.{is_among}

-- a name that stands in the text, and where it stands
abbrev pub Occurrence : Type 0
Occurrence = List ℕ × Span

-- the name that a token stands for, and where it stands
abbrev pub occurrence : Token → Occurrence
occurrence x = (name_of x.kind, x.at)

-- those of several tokens, in a row
abbrev pub occurrences : List Token → List Occurrence
occurrences tokens = map occurrence tokens

-- what occurs with a name that is none of these
abbrev pub without : List (List ℕ) → List Occurrence → List Occurrence
without names occurring = filter (λ o. not (is_among o.0 names)) occurring

-- ---- expressions

-- what occurs in a part
abbrev pub Seen : Type 0
Seen = List Occurrence

-- how often an iteration goes: its index, and the variables of its count
pub record Times : Type 0 where
  pub index : List (List ℕ)
  pub count : Seen

-- what occurs in an iteration: in its body without its index, and behind that in its count
abbrev pub iterated : Seen → Times → Seen
iterated body times = without times.index body ++ times.count

-- what occurs in several parts, one part behind the other
abbrev pub in_all : List Seen → Seen
in_all parts = flat_map (λ part. part) parts

-- what a count says: its expression gives variables, `i < n` an index too, and a sign nothing
abbrev pub times_at : Count-F Times (Span → Seen) Seen Seen → Times
times_at (Count-F.Times e) = record { index = []; count = e }
times_at (Count-F.Below name e) = record { index = name ∷ []; count = e }
times_at c = record { index = []; count = [] }

-- what occurs in the positions of a step of a path
abbrev pub seg_variables_at : Seg-F Times (Span → Seen) Seen Seen → Seen
seg_variables_at (Seg-F.Field name) = []
seg_variables_at (Seg-F.Seg::At e) = e
seg_variables_at (Seg-F.Seg::Slice e f) = e ++ f

-- A name alone is a variable. Everything else has those of its parts, from left to right.
abbrev pub node_variables_at : Node-F Times (Span → Seen) Seen Seen → Span → Seen
node_variables_at (Node-F.Name name) at = (name, at) ∷ []
node_variables_at (Node-F.Seq es) at = in_all es
node_variables_at (Node-F.Infix l m r) at = l ++ r
node_variables_at (Node-F.Binary l m r) at = l ++ r
node_variables_at (Node-F.Not e) at = e
node_variables_at (Node-F.Neg e) at = e
node_variables_at (Node-F.Arith e) at = e
node_variables_at (Node-F.Paren e) at = e
node_variables_at (Node-F.Bracket m e) at = e
node_variables_at (Node-F.Tuple es) at = in_all es
node_variables_at (Node-F.Fields fs) at = flat_map (λ f. f.1) fs
node_variables_at (Node-F.Dot e name) at = e
node_variables_at (Node-F.Node::At e f) at = e ++ f
node_variables_at (Node-F.Node::Slice e f g) at = e ++ f ++ g
node_variables_at (Node-F.Update e path f) at = e ++ in_all path ++ f
node_variables_at (Node-F.Extend e path f) at = e ++ in_all path ++ f
node_variables_at (Node-F.Len e) at = e
node_variables_at (Node-F.Call name es) at = in_all es
node_variables_at (Node-F.Iter e c) at = iterated e c
node_variables_at n at = []

-- what occurs in an expression, which is told where it begins
abbrev pub exp_variables_at : Exp-F Times (Span → Seen) Seen Seen → Seen
exp_variables_at e = e.node e.at

-- the variables that occur in an expression
abbrev pub variables : Exp → Seen
variables =
    fold-Exp Times (Span → Seen) Seen Seen
    times_at node_variables_at seg_variables_at exp_variables_at

-- the variables that occur in a step of a path
abbrev pub seg_variables : Seg → Seen
seg_variables =
    fold-Seg Times (Span → Seen) Seen Seen
    times_at node_variables_at seg_variables_at exp_variables_at

-- the index of a count, and the variables that occur in it
abbrev pub times : Count → Times
times =
    fold-Count Times (Span → Seen) Seen Seen
    times_at node_variables_at seg_variables_at exp_variables_at

-- ---- premises and definitions

-- the variables of what a premise asks, and of an iteration of one those of its count too
abbrev pub prem_node_variables_at : PremNode-F Seen Seen → Seen
prem_node_variables_at (PremNode-F.If e) = variables e
prem_node_variables_at (PremNode-F.Goal name e) = variables e
prem_node_variables_at PremNode-F.Otherwise = []
prem_node_variables_at (PremNode-F.Each p c) = iterated p (times c)

-- the variables that occur in a premise
abbrev pub prem_variables : Prem → Seen
prem_variables =
    fold-Prem Seen Seen prem_node_variables_at (λ p. p.node)

-- Only rules and clauses have variables.
abbrev pub def_node_variables : DefNode → Seen
def_node_variables (def.Rule relation name e ps) = variables e ++ flat_map prem_variables ps
def_node_variables (def.Clause name args e ps) =
    flat_map variables args ++ variables e ++ flat_map prem_variables ps
def_node_variables d = []

-- the variables that occur in a definition
abbrev pub def_variables : Def → Seen
def_variables d = def_node_variables d.node
