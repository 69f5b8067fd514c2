-- Expressions by their forms:
-- where they stand, which have a type of their own, and which bring all their elements.
use Rattle.std.specs.Prelude.{List, length, Bool, true, false, not, ◌&&◌, nat_eq}
use Rattle.std.specs.List.{list_all}
use Rattle.st_num.specs.declared.span.Span.{Span}
use Rattle.st_el.specs.declared.expression.Exp.{Exp, Exp-F, out-Exp, fold-Exp}
use Rattle.st_el.specs.declared.expression.Count.TheOpen.{Count-F, Node-F}
use Rattle.st_elab_table.specs.declared.operator.Operator.{Operator}
use Rattle.st_elab_table.specs.declared.operator.Operator.TheVariants as operator
use Rattle.st_elab_table.specs.Operators.{operator_of}

-- where an expression stands, with its parentheses
abbrev pub place : Exp → Span
place e = (out-Exp e).at

-- ---- inferable expressions

-- an operation is inferable: `++` where both sides are,
-- and any other where its sign is that of an operator
abbrev pub inferable_by : Operator → Bool → Bool → Bool
inferable_by operator.Concatenation left right = left && right
inferable_by operator.Other left right = false
inferable_by _ left right = true

-- all of these are true
abbrev pub all_true : List Bool → Bool
all_true parts = list_all (λ (part : Bool). part) parts

-- Variables, numbers, texts, truth values, calls, arithmetic, logic, comparisons, memberships
-- and lengths are inferable; and parts, changes, tuples, iterations and `++` of inferable
-- expressions. Parentheses change nothing.
abbrev pub inferable_at : Node-F Bool Bool Bool Bool → Bool
inferable_at (Node-F.Name name) = true
inferable_at (Node-F.Atom name) = false
inferable_at (Node-F.Bool truth) = true
inferable_at (Node-F.Number n) = true
inferable_at (Node-F.Text text) = true
inferable_at Node-F.Eps = false
inferable_at (Node-F.Seq parts) = false
inferable_at (Node-F.Infix left sign right) = false
inferable_at (Node-F.Binary left sign right) = inferable_by (operator_of sign) left right
inferable_at (Node-F.Not e) = true
inferable_at (Node-F.Neg e) = true
inferable_at (Node-F.Arith e) = true
inferable_at (Node-F.Paren e) = e
inferable_at (Node-F.Bracket opening e) = false
inferable_at (Node-F.Tuple parts) = all_true parts
inferable_at (Node-F.Fields fields) = false
inferable_at (Node-F.Dot e field) = e
inferable_at (Node-F.Node::At e from) = e
inferable_at (Node-F.Node::Slice e from length) = e
inferable_at (Node-F.Update e path part) = e
inferable_at (Node-F.Extend e path part) = e
inferable_at (Node-F.Len e) = true
inferable_at (Node-F.Call name parts) = true
inferable_at (Node-F.Iter e count) = e

-- an expression is inferable where its node is
abbrev pub inferable_exp_at : Exp-F Bool Bool Bool Bool → Bool
inferable_exp_at e = e.node

-- the expression has a type of its own
abbrev pub inferable : Exp → Bool
inferable =
    fold-Exp Bool Bool Bool Bool (λ count. true) inferable_at (λ step. true) inferable_exp_at

-- ---- items that are spliced

-- the operator is `++`
abbrev pub is_concatenation : Operator → Bool
is_concatenation operator.Concatenation = true
is_concatenation _ = false

-- whether an iteration goes over a list
abbrev pub goes_over_list : {C N S E : Type 0} → Count-F C N S E → Bool
goes_over_list Count-F.Quest = false
goes_over_list _ = true

-- the form of a node, or of its part in parentheses, says that all elements are meant
abbrev pub spliced_at : Node-F Bool Bool Bool Bool → Bool
spliced_at Node-F.Eps = true
spliced_at (Node-F.Binary left sign right) = is_concatenation (operator_of sign)
spliced_at (Node-F.Paren e) = e
spliced_at (Node-F.Iter e over_list) = over_list
spliced_at _ = false

-- what the form of a node says is said of its expression
abbrev pub form_exp_at : Exp-F Bool Bool Bool Bool → Bool
form_exp_at e = e.node

-- The form says that all elements are meant: an iteration by `*`, `+` or `^`, `eps` or `++`.
-- Parentheses change nothing.
abbrev pub is_spliced : Exp → Bool
is_spliced = fold-Exp Bool Bool Bool Bool goes_over_list spliced_at (λ step. false) form_exp_at

-- the node is a tuple, or parentheses round one
abbrev pub tuple_at : Node-F Bool Bool Bool Bool → Bool
tuple_at (Node-F.Tuple parts) = true
tuple_at (Node-F.Paren e) = e
tuple_at _ = false

-- The expression is a tuple. Parentheses change nothing.
abbrev pub is_tuple : Exp → Bool
is_tuple = fold-Exp Bool Bool Bool Bool (λ count. false) tuple_at (λ step. false) form_exp_at

-- The type of an item says whether all its elements are meant; that of a tuple is no list.
abbrev pub is_told_by_type : Exp → Bool
is_told_by_type e = inferable e && not (is_tuple e)

-- ---- elements

-- the node is one element: no sequence of none, or of two and more
abbrev pub single_at : Node-F Bool Bool Bool Bool → Bool
single_at (Node-F.Seq parts) = nat_eq (length parts) 1
single_at (Node-F.Paren e) = e
single_at _ = true

-- The expression is one element. Parentheses change nothing.
abbrev pub is_single : Exp → Bool
is_single = fold-Exp Bool Bool Bool Bool (λ count. true) single_at (λ step. true) form_exp_at
