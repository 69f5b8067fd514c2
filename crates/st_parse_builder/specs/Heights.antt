-- The height of a tree: each expression, type, notation and premise in it adds 1.
use Rattle.std.specs.Prelude.{ℕ, ◌+◌, max, List, [], ◌∷◌, map}
use Rattle.st_el.specs.declared.expression.Exp.{Exp, Exp-F, fold-Exp}
use Rattle.st_el.specs.declared.expression.Count.TheOpen.{Count-F, Node-F, Seg-F}
use Rattle.st_el.specs.declared.expression.Seg.{Seg, fold-Seg}
use Rattle.st_el.specs.declared.ty.Typ.{Typ, Typ-F, fold-Typ}
use Rattle.st_el.specs.declared.ty.TypNode.TheOpen.{TypNode-F}
use Rattle.st_el.specs.declared.notation.Notation.{Notation, Notation-F, fold-Notation}
use Rattle.st_el.specs.declared.notation.NotNode.TheOpen.{NotNode-F}

-- the largest of these heights, and 0 where there is none
abbrev pub highest : List ℕ → ℕ
highest [] = 0
highest (h ∷ hs) = max h (highest hs)

-- the height of the expression in a count, and 0 for a count that is a sign
abbrev pub height_count_at : Count-F ℕ ℕ ℕ ℕ → ℕ
height_count_at (Count-F.Times e) = e
height_count_at (Count-F.Below name e) = e
height_count_at c = 0

-- the height of the highest expression in a step of a path
abbrev pub height_seg_at : Seg-F ℕ ℕ ℕ ℕ → ℕ
height_seg_at (Seg-F.Field name) = 0
height_seg_at (Seg-F.Seg::At e) = e
height_seg_at (Seg-F.Seg::Slice e f) = max e f

-- the height of the highest part of an expression
abbrev pub height_node_at : Node-F ℕ ℕ ℕ ℕ → ℕ
height_node_at (Node-F.Seq es) = highest es
height_node_at (Node-F.Infix l m r) = max l r
height_node_at (Node-F.Binary l m r) = max l r
height_node_at (Node-F.Not e) = e
height_node_at (Node-F.Neg e) = e
height_node_at (Node-F.Arith e) = e
height_node_at (Node-F.Paren e) = e
height_node_at (Node-F.Bracket m e) = e
height_node_at (Node-F.Tuple es) = highest es
height_node_at (Node-F.Fields fs) = highest (map (λ f. f.1) fs)
height_node_at (Node-F.Dot e name) = e
height_node_at (Node-F.Node::At e f) = max e f
height_node_at (Node-F.Node::Slice e f g) = max e (max f g)
height_node_at (Node-F.Update e path f) = max e (max (highest path) f)
height_node_at (Node-F.Extend e path f) = max e (max (highest path) f)
height_node_at (Node-F.Len e) = e
height_node_at (Node-F.Call name es) = highest es
height_node_at (Node-F.Iter e c) = max e c
height_node_at n = 0

-- An expression is one higher than the highest part of it.
abbrev pub height_exp_at : Exp-F ℕ ℕ ℕ ℕ → ℕ
height_exp_at e = e.node + 1

-- the height of an expression
abbrev pub height : Exp → ℕ
height = fold-Exp ℕ ℕ ℕ ℕ height_count_at height_node_at height_seg_at height_exp_at

-- the height of a step of a path
abbrev pub seg_height : Seg → ℕ
seg_height = fold-Seg ℕ ℕ ℕ ℕ height_count_at height_node_at height_seg_at height_exp_at

-- ---- types and notations

-- the height of the highest part of a type
abbrev pub height_typ_node_at : TypNode-F ℕ ℕ → ℕ
height_typ_node_at (TypNode-F.Star t) = t
height_typ_node_at (TypNode-F.Quest t) = t
height_typ_node_at (TypNode-F.Tuple ts) = highest ts
height_typ_node_at n = 0

-- A type is one higher than the highest part of it.
abbrev pub height_typ_at : Typ-F ℕ ℕ → ℕ
height_typ_at t = t.node + 1

-- the height of a type
abbrev pub typ_height : Typ → ℕ
typ_height = fold-Typ ℕ ℕ height_typ_node_at height_typ_at

-- A type in a notation is a node of each.
abbrev pub height_not_node_at : NotNode-F ℕ ℕ → ℕ
height_not_node_at (NotNode-F.Hole t) = typ_height t
height_not_node_at (NotNode-F.Seq ns) = highest ns
height_not_node_at (NotNode-F.Infix l m r) = max l r
height_not_node_at (NotNode-F.Bracket m n) = n
height_not_node_at (NotNode-F.Atom name) = 0

-- A notation is one higher than the highest part of it.
abbrev pub height_notation_at : Notation-F ℕ ℕ → ℕ
height_notation_at n = n.node + 1

-- the height of a notation
abbrev pub notation_height : Notation → ℕ
notation_height = fold-Notation ℕ ℕ height_not_node_at height_notation_at
