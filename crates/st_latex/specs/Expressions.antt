-- The tokens of expressions.
use Rattle.std.specs.Prelude.{ℕ, List, ◌++◌, codes}
use Rattle.std.specs.Fmt.{decimal}
use Rattle.st_num.specs.declared.mark.Mark.{Mark}
use Rattle.st_num.specs.declared.mark.Mark.TheVariants.{Tilde, Minus, Equal, ExtendBy}
use Rattle.st_el.specs.declared.expression.Exp.{Exp, Exp-F, fold-Exp}
use Rattle.st_el.specs.declared.expression.Node.{Node, fold-Node}
use Rattle.st_el.specs.declared.expression.Count.{Count, fold-Count}
use Rattle.st_el.specs.declared.expression.Count.TheOpen.{Count-F, Node-F, Seg-F}
use Rattle.st_el.specs.declared.expression.Seg.{Seg, fold-Seg}
use Rattle.st_latex.specs.Tokens.{token, sign, variable, atom, dotted, function, truth, text}
use Rattle.st_latex.specs.Parts.{enclosed, joined, tuple, arguments, bracketed, sides, record_text}

-- the mark of an iteration: a sign or a count, as a superscript
abbrev pub count_at : Count-F (List ℕ) (List ℕ) (List ℕ) (List ℕ) → List ℕ
count_at Count-F.Star = token (codes "^{\\ast}")
count_at Count-F.Plus = token (codes "^{+}")
count_at Count-F.Quest = token (codes "^{?}")
count_at (Count-F.Times times) = enclosed (codes "^{") times (codes "}")
count_at (Count-F.Below index times) =
    enclosed (codes "^{")
    (enclosed (codes "(") (variable index ++ token (codes "<") ++ times) (codes ")")) (codes "}")

-- a position in brackets
abbrev pub position : List ℕ → List ℕ
position at = enclosed (codes "[") at (codes "]")

-- a position and a length, in brackets
abbrev pub range : List ℕ → List ℕ → List ℕ
range from length = position (from ++ token (codes ":") ++ length)

-- a step of a path
abbrev pub seg_at : Seg-F (List ℕ) (List ℕ) (List ℕ) (List ℕ) → List ℕ
seg_at (Seg-F.Field name) = dotted name
seg_at (Seg-F.Seg::At at) = position at
seg_at (Seg-F.Seg::Slice from length) = range from length

-- a path and the part at it, in the brackets of an update or an extension
abbrev pub change : List (List ℕ) → Mark → List ℕ → List ℕ
change path mark part = position (joined path ++ sign mark ++ part)

-- the tokens of what an expression is
abbrev pub node_at : Node-F (List ℕ) (List ℕ) (List ℕ) (List ℕ) → List ℕ
node_at (Node-F.Name name) = variable name
node_at (Node-F.Atom name) = atom name
node_at (Node-F.Bool value) = truth value
node_at (Node-F.Number n) = token (decimal n)
node_at (Node-F.Text bytes) = text bytes
node_at Node-F.Eps = token (codes "\\epsilon")
node_at (Node-F.Seq parts) = joined parts
node_at (Node-F.Infix left mark right) = sides left mark right
node_at (Node-F.Binary left mark right) = sides left mark right
node_at (Node-F.Not e) = sign Tilde ++ e
node_at (Node-F.Neg e) = sign Minus ++ e
node_at (Node-F.Arith e) = enclosed (codes "(") e (codes ")")
node_at (Node-F.Paren e) = enclosed (codes "(") e (codes ")")
node_at (Node-F.Bracket opening e) = bracketed opening e
node_at (Node-F.Tuple parts) = tuple parts
node_at (Node-F.Fields fields) = record_text fields
node_at (Node-F.Dot e name) = e ++ dotted name
node_at (Node-F.Node::At e at) = e ++ position at
node_at (Node-F.Node::Slice e from length) = e ++ range from length
node_at (Node-F.Update e path part) = e ++ change path Equal part
node_at (Node-F.Extend e path part) = e ++ change path ExtendBy part
node_at (Node-F.Len e) = enclosed (codes "|") e (codes "|")
node_at (Node-F.Call name parts) = function name ++ arguments parts
node_at (Node-F.Iter e count) = e ++ count

-- an expression has the tokens of what it is
abbrev pub exp_at : Exp-F (List ℕ) (List ℕ) (List ℕ) (List ℕ) → List ℕ
exp_at e = e.node

-- the tokens of an expression
abbrev pub latex_exp : Exp → List ℕ
latex_exp = fold-Exp (List ℕ) (List ℕ) (List ℕ) (List ℕ) count_at node_at seg_at exp_at

-- the tokens of what an expression is, from the source tree
abbrev pub latex_node : Node → List ℕ
latex_node = fold-Node (List ℕ) (List ℕ) (List ℕ) (List ℕ) count_at node_at seg_at exp_at

-- the tokens of the mark of an iteration
abbrev pub latex_count : Count → List ℕ
latex_count = fold-Count (List ℕ) (List ℕ) (List ℕ) (List ℕ) count_at node_at seg_at exp_at

-- the tokens of a step of a path
abbrev pub latex_seg : Seg → List ℕ
latex_seg = fold-Seg (List ℕ) (List ℕ) (List ℕ) (List ℕ) count_at node_at seg_at exp_at

-- a field of a record, with the tokens of its expression
abbrev pub latex_field : List ℕ × Exp → List ℕ × List ℕ
latex_field field = (field.0, latex_exp field.1)
