-- The text of an expression: its tokens, and parentheses round parts that do not suit their places.
use Rattle.std.specs.Prelude.{ℕ, List, [], ◌∷◌, ◌++◌, map, flat_map, codes, Bool, true, false, not, ◌&&◌}
use Rattle.std.specs.Fmt.{decimal}
use Rattle.st_num.specs.Signs.{spelling, level, prefix_level, left_of, right_of, closing}
use Rattle.st_num.specs.declared.mark.Mark.{Mark}
use Rattle.st_num.specs.declared.mark.Mark.TheVariants.{Caret, Tilde, Minus}
use Rattle.st_num.specs.Texts.{quoted}
use Rattle.st_el.specs.declared.expression.Exp.{Exp, Exp-F, fold-Exp}
use Rattle.st_el.specs.declared.expression.Node.{Node, out-Node, map-Node, fold-Node}
use Rattle.st_el.specs.declared.expression.Count.{Count, fold-Count}
use Rattle.st_el.specs.declared.expression.Count.TheOpen.{Count-F, Node-F, Seg-F}
use Rattle.st_el.specs.declared.expression.Seg.{Seg, fold-Seg}
use Rattle.st_el.specs.declared.context.Around.{Around}
use Rattle.st_el.specs.declared.context.Around.TheVariants.{Brackets, Bars, Arithmetic}
use Rattle.st_el.specs.declared.context.Behind.TheVariants.{Other, Dot, Plus}
use Rattle.st_el.specs.declared.context.Context.{Context}
use Rattle.st_el.specs.declared.context.Wrapping.{Wrapping}
use Rattle.st_el.specs.Contexts.{context_at, whole, operand_before, position, count, next_element, in_parens}
use Rattle.st_el.specs.Wrappings.{Printed, IterationText, Level, takes_in, has_bar, wrapping, opening, ending, around_in}

-- texts with this text between them
abbrev pub separated : List ℕ → List (List ℕ) → List ℕ
separated between [] = []
separated between (text ∷ texts) = text ++ flat_map (λ next. between ++ next) texts

-- a left side has a blank behind it, unless it is absent
abbrev pub left_side : List ℕ → List ℕ
left_side [] = []
left_side (byte ∷ bytes) = byte ∷ bytes ++ codes " "

-- there is no blank behind `^`
abbrev pub blank_behind : Mark → List ℕ
blank_behind Caret = []
blank_behind sign = codes " "

-- two sides with a sign between them, and a blank on each side of it that has one
abbrev pub joined_by : Around → Printed → Mark → Printed → List ℕ
joined_by around left sign right =
    left_side (left.at (context_at around (left_of (level sign))))
    ++ spelling sign ++ blank_behind sign
    ++ right.at (context_at around (right_of (level sign)))

-- the elements of a sequence with blanks between them
abbrev pub elements : Around → List Printed → List ℕ
elements around [] = []
elements around (part ∷ parts) =
    part.at (operand_before around Other)
    ++ flat_map (λ next. codes " " ++ next.at (next_element around)) parts

-- whole expressions with commas between them
abbrev pub listed : List Printed → List ℕ
listed parts = separated (codes ", ") (map (λ part. part.at (whole Brackets)) parts)

-- a field of a record: its name and its expression
abbrev pub field_text : List ℕ × Printed → List ℕ
field_text field = field.0 ++ codes " " ++ field.1.at (whole Brackets)

-- the fields of a record with commas between them
abbrev pub fields_text : List (List ℕ × Printed) → List ℕ
fields_text fields = separated (codes ", ") (map field_text fields)

-- the arguments of a call in parentheses, where there are any
abbrev pub arguments : List Printed → List ℕ
arguments [] = []
arguments (part ∷ parts) = codes "(" ++ listed (part ∷ parts) ++ codes ")"

-- how a truth value is written
abbrev pub truth : Bool → List ℕ
truth true = codes "true"
truth false = codes "false"

-- a path and the part at it, in the brackets of an update or an extension
abbrev pub change : List (List ℕ) → List ℕ → Printed → List ℕ
change path sign part =
    codes "[" ++ flat_map (λ step. step) path ++ sign ++ part.at (whole Brackets) ++ codes "]"

-- a position and a length, in brackets
abbrev pub range : Printed → Printed → List ℕ
range from length = codes "[" ++ from.at position ++ codes " : " ++ length.at position ++ codes "]"

-- what stands behind an operand or a function
abbrev pub postfix : Level → List ℕ
postfix (Node-F.Dot e field) = codes "." ++ field
postfix (Node-F.Node::At e at) = codes "[" ++ at.at position ++ codes "]"
postfix (Node-F.Node::Slice e from length) = range from length
postfix (Node-F.Update e path part) = change path (codes " = ") part
postfix (Node-F.Extend e path part) = change path (codes " =++ ") part
postfix (Node-F.Iter e mark) = mark.text
postfix (Node-F.Call name parts) = arguments parts
postfix node = []

-- what stands before the postfix, or the whole where there is none
abbrev pub front : Around → Level → List ℕ
front around (Node-F.Name name) = name
front around (Node-F.Atom name) = name
front around (Node-F.Bool value) = truth value
front around (Node-F.Number n) = decimal n
front around (Node-F.Text text) = quoted text
front around Node-F.Eps = codes "eps"
front around (Node-F.Seq parts) = elements around parts
front around (Node-F.Infix left sign right) = joined_by around left sign right
front around (Node-F.Binary left sign right) = joined_by around left sign right
front around (Node-F.Not e) = codes "~ " ++ e.at (context_at around (prefix_level Tilde))
front around (Node-F.Neg e) = codes "- " ++ e.at (context_at around (prefix_level Minus))
front around (Node-F.Arith e) = codes "$(" ++ e.at (whole Arithmetic) ++ codes ")"
front around (Node-F.Paren e) = codes "(" ++ e.at (whole (in_parens around)) ++ codes ")"
front around (Node-F.Bracket sign e) =
    spelling sign ++ e.at (whole Brackets) ++ spelling (closing sign)
front around (Node-F.Tuple parts) = codes "(" ++ listed parts ++ codes ")"
front around (Node-F.Fields fields) = codes "{" ++ fields_text fields ++ codes "}"
front around (Node-F.Dot e field) = e.at (operand_before around Dot)
front around (Node-F.Node::At e at) = e.at (operand_before around Other)
front around (Node-F.Node::Slice e from length) = e.at (operand_before around Other)
front around (Node-F.Update e path part) = e.at (operand_before around Other)
front around (Node-F.Extend e path part) = e.at (operand_before around Other)
front around (Node-F.Len e) = codes "|" ++ e.at (whole Bars) ++ codes "|"
front around (Node-F.Call name parts) = codes "$" ++ name
front around (Node-F.Iter e mark) = e.at (operand_before around mark.behind)

-- a level with what is written round it
abbrev pub wrapped : Wrapping → Around → Level → List ℕ
wrapped wrapping around node =
    opening wrapping ++ front (around_in wrapping around) node ++ postfix node ++ ending wrapping

-- the text of a level at a context
abbrev pub text_at : Level → Context → List ℕ
text_at node context = wrapped (wrapping context node) context.around node

-- ---- all levels

-- what is known of a level: whether it begins with a bar, and its text in each context
abbrev pub printed_node_at : Level → Printed
printed_node_at node =
    record {
      begins_with_bar = λ behind. not (takes_in behind node) && has_bar node;
      at = text_at node;
    }

-- an expression is printed as what it is, without its place
abbrev pub printed_exp_at : Exp-F IterationText Printed (List ℕ) Printed → Printed
printed_exp_at e = e.node

-- how an iteration is written behind the part before it
abbrev pub printed_mark_at : Count-F IterationText Printed (List ℕ) Printed → IterationText
printed_mark_at Count-F.Star = record { behind = Other; text = codes "*" }
printed_mark_at Count-F.Plus = record { behind = Plus; text = codes "+" }
printed_mark_at Count-F.Quest = record { behind = Other; text = codes "?" }
printed_mark_at (Count-F.Times e) = record { behind = Other; text = codes "^" ++ e.at count }
printed_mark_at (Count-F.Below index e) =
    record { behind = Other; text = codes "^(" ++ index ++ codes " < " ++ e.at count ++ codes ")" }

-- how a step of a path is written
abbrev pub printed_step_at : Seg-F IterationText Printed (List ℕ) Printed → List ℕ
printed_step_at (Seg-F.Field name) = codes "." ++ name
printed_step_at (Seg-F.Seg::At at) = codes "[" ++ at.at position ++ codes "]"
printed_step_at (Seg-F.Seg::Slice from length) = range from length

-- whether an expression begins with a bar, and its text in each context
abbrev pub printed : Exp → Printed
printed =
    fold-Exp IterationText Printed (List ℕ) Printed
    printed_mark_at printed_node_at printed_step_at printed_exp_at

-- whether what an expression is begins with a bar, and its text in each context
abbrev pub printed_node : Node → Printed
printed_node =
    fold-Node IterationText Printed (List ℕ) Printed
    printed_mark_at printed_node_at printed_step_at printed_exp_at

-- how an iteration is written, from the source tree
abbrev pub printed_mark : Count → IterationText
printed_mark =
    fold-Count IterationText Printed (List ℕ) Printed
    printed_mark_at printed_node_at printed_step_at printed_exp_at

-- how a step of a path is written, from the source tree
abbrev pub printed_step : Seg → List ℕ
printed_step =
    fold-Seg IterationText Printed (List ℕ) Printed
    printed_mark_at printed_node_at printed_step_at printed_exp_at

-- a field of a record, its expression printed
abbrev pub printed_field : List ℕ × Exp → List ℕ × Printed
printed_field field = (field.0, printed field.1)

-- the level of an expression, with its parts printed
abbrev pub parts_printed : Node-F Count Node Seg Exp → Level
parts_printed =
    map-Node Count Node Seg Exp IterationText Printed (List ℕ) Printed
    printed_mark printed_node printed_step printed

-- the top level of what an expression is, with its parts printed
abbrev pub opened : Node → Level
opened node = parts_printed (out-Node node)

-- the text of an expression that stands alone
abbrev pub source_text : Exp → List ℕ
source_text e = (printed e).at (whole Brackets)
