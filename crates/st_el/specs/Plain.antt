-- Plain trees: what is left of a source without its layout, its parentheses and its hints.
use Rattle.st_num.specs.declared.span.Span.{Span}
use Rattle.st_el.specs.declared.expression.Exp.{Exp, Exp-F, out-Exp, roll-Exp, fold-Exp}
use Rattle.st_el.specs.declared.expression.Node.{Node, roll-Node, fold-Node}
use Rattle.st_el.specs.declared.expression.Count.{Count, roll-Count, fold-Count}
use Rattle.st_el.specs.declared.expression.Count.TheOpen.{Node-F}
use Rattle.st_el.specs.declared.expression.Seg.{Seg, roll-Seg, fold-Seg}
use Rattle.st_el.specs.declared.ty.Typ.{Typ, Typ-F, roll-Typ, fold-Typ}
use Rattle.st_el.specs.declared.ty.TypNode.{TypNode, roll-TypNode, fold-TypNode}
use Rattle.st_el.specs.declared.notation.Notation.{Notation, Notation-F, roll-Notation, fold-Notation}
use Rattle.st_el.specs.declared.notation.NotNode.{NotNode, roll-NotNode, fold-NotNode}
use Rattle.st_el.specs.declared.notation.NotNode.TheOpen.{NotNode-F}
use Rattle.st_el.specs.declared.definition.Prem.{Prem, Prem-F, roll-Prem, fold-Prem}
use Rattle.st_el.specs.declared.definition.PremNode.{PremNode, roll-PremNode, fold-PremNode}
use Rattle.st_el.specs.declared.definition.PremNode.TheOpen.{PremNode-F}

-- the place of what stands in no text
abbrev pub nowhere : Span
nowhere = record { file = 0; line = 0; column = 0 }

-- an expression of plain parts, without its place
abbrev pub plain_exp_at : Exp-F Count Node Seg Exp → Exp
plain_exp_at e = roll-Exp (record { at = nowhere; node = e.node })

-- parentheses and `$( )` of a plain expression are what the expression is; the rest is kept
abbrev pub plain_node_at : Node-F Count Node Seg Exp → Node
plain_node_at (Node-F.Arith e) = (out-Exp e).node
plain_node_at (Node-F.Paren e) = (out-Exp e).node
plain_node_at n = roll-Node n

-- an expression without its places, its parentheses and its `$( )`
abbrev pub plain_exp : Exp → Exp
plain_exp = fold-Exp Count Node Seg Exp roll-Count plain_node_at roll-Seg plain_exp_at

-- what an expression is, without its places, its parentheses and its `$( )`
abbrev pub plain_node : Node → Node
plain_node = fold-Node Count Node Seg Exp roll-Count plain_node_at roll-Seg plain_exp_at

-- how often an iteration goes, with its expression made plain
abbrev pub plain_count : Count → Count
plain_count = fold-Count Count Node Seg Exp roll-Count plain_node_at roll-Seg plain_exp_at

-- a step of a path, with its expressions made plain
abbrev pub plain_seg : Seg → Seg
plain_seg = fold-Seg Count Node Seg Exp roll-Count plain_node_at roll-Seg plain_exp_at

-- a type of plain parts, without its place
abbrev pub plain_typ_at : Typ-F TypNode Typ → Typ
plain_typ_at typ = roll-Typ (record { at = nowhere; node = typ.node })

-- a type without its places
abbrev pub plain_typ : Typ → Typ
plain_typ = fold-Typ TypNode Typ roll-TypNode plain_typ_at

-- what a type is, without the places of its parts
abbrev pub plain_typ_node : TypNode → TypNode
plain_typ_node = fold-TypNode TypNode Typ roll-TypNode plain_typ_at

-- what a notation of plain parts is, with the type of a hole made plain
abbrev pub plain_not_node_at : NotNode-F NotNode Notation → NotNode
plain_not_node_at (NotNode-F.Hole typ) = roll-NotNode (NotNode-F.Hole (plain_typ typ))
plain_not_node_at node = roll-NotNode node

-- a notation of plain parts, without its place
abbrev pub plain_notation_at : Notation-F NotNode Notation → Notation
plain_notation_at notation = roll-Notation (record { at = nowhere; node = notation.node })

-- a notation without its places
abbrev pub plain_notation : Notation → Notation
plain_notation = fold-Notation NotNode Notation plain_not_node_at plain_notation_at

-- what a notation is, without the places of its parts
abbrev pub plain_not_node : NotNode → NotNode
plain_not_node = fold-NotNode NotNode Notation plain_not_node_at plain_notation_at

-- what a premise of plain parts is, with its expressions made plain
abbrev pub plain_prem_node_at : PremNode-F PremNode Prem → PremNode
plain_prem_node_at (PremNode-F.If e) = roll-PremNode (PremNode-F.If (plain_exp e))
plain_prem_node_at (PremNode-F.Goal name e) = roll-PremNode (PremNode-F.Goal name (plain_exp e))
plain_prem_node_at PremNode-F.Otherwise = roll-PremNode PremNode-F.Otherwise
plain_prem_node_at (PremNode-F.Each prem count) =
    roll-PremNode (PremNode-F.Each prem (plain_count count))

-- a premise of plain parts, without its place
abbrev pub plain_prem_at : Prem-F PremNode Prem → Prem
plain_prem_at prem = roll-Prem (record { at = nowhere; node = prem.node })

-- a premise without its places, its expressions made plain
abbrev pub plain_prem : Prem → Prem
plain_prem = fold-Prem PremNode Prem plain_prem_node_at plain_prem_at

-- what a premise is, without the places of its parts, its expressions made plain
abbrev pub plain_prem_node : PremNode → PremNode
plain_prem_node = fold-PremNode PremNode Prem plain_prem_node_at plain_prem_at
