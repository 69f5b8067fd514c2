-- An erased expression at the places where it may stand.
use Rattle.std.specs.Prelude.{List, [], ◌∷◌}
use Rattle.st_el.specs.Plain.{nowhere}
use Rattle.st_el.specs.declared.expression.Exp.{Exp, out-Exp, roll-Exp}
use Rattle.st_el.specs.declared.expression.Node.{Node, out-Node}
use Rattle.st_el.specs.declared.expression.Node.TheVariants as node
use Rattle.st_el.specs.declared.expression.Count.{Count}
use Rattle.st_el.specs.declared.expression.Count.TheOpen.{Node-F}
use Rattle.st_el.specs.declared.expression.Seg.{Seg}
use Rattle.st_erase.specs.declared.erased.Erased.{Erased}
use Rattle.st_erase.specs.declared.erased.ErasedKind.{ErasedKind}
use Rattle.st_erase.specs.declared.erased.ErasedKind.TheVariants as kind

-- an expression that stands in no text
abbrev pub exp : Node → Exp
exp n = roll-Exp (record { at = nowhere; node = n })

-- an expression, opened by one level
abbrev pub opened : Exp → Node-F Count Node Seg Exp
opened e = out-Node (out-Exp e).node

-- an expression in `$( )`
abbrev pub in_arithmetic : Exp → Exp
in_arithmetic e = exp (node.Arith e)

-- an expression of this kind where it is no operand of arithmetic
abbrev pub whole_by : ErasedKind → Exp → Exp
whole_by kind.Plain e = e
whole_by kind.Arithmetic e = in_arithmetic e
whole_by kind.Run e = e
whole_by kind.Absent e = e

-- an expression where it is no operand of arithmetic: arithmetic stands in `$( )`
abbrev pub whole : Erased → Exp
whole x = whole_by x.kind x.exp

-- a number or a variable as it is, and any other expression in `$( )`
abbrev pub count_at : Exp → Node-F Count Node Seg Exp → Exp
count_at e (Node-F.Number n) = e
count_at e (Node-F.Name x) = e
count_at e _ = in_arithmetic e

-- an expression as a count: what is neither a number nor a variable stands in `$( )`
abbrev pub count : Erased → Exp
count x = count_at x.exp (opened x.exp)

-- the elements of a sequence, or the expression itself where it is none
abbrev pub parts_at : Exp → Node-F Count Node Seg Exp → List Exp
parts_at e (Node-F.Seq parts) = parts
parts_at e _ = e ∷ []

-- the elements of an expression; one that is no sequence is its one element
abbrev pub parts_of : Exp → List Exp
parts_of e = parts_at e (opened e)

-- the elements that an expression of this kind is in a hole that takes a run
abbrev pub run_by : ErasedKind → Exp → List Exp
run_by kind.Plain e = e ∷ []
run_by kind.Arithmetic e = in_arithmetic e ∷ []
run_by kind.Run e = parts_of e
run_by kind.Absent e = []

-- In a hole that takes a run, a list of two or more parts is written as its parts,
-- and what was left out is not written.
abbrev pub run : Erased → List Exp
run x = run_by x.kind x.exp
