-- The table: what an inferable expression is, and its type.
use Rattle.std.specs.Prelude.{ℕ, List, [], ◌∷◌, length, map, if◌then◌else◌, nat_eq, Option, Some, None}
use Rattle.std.specs.Option.{option_or}
use Rattle.std.specs.Map.{lookup}
use Rattle.st_num.specs.declared.span.Span.{Span}
use Rattle.st_num.specs.declared.rule.RuleId.TheVariants.{B2, B3, Y3, Y6}
use Rattle.st_num.specs.Names.{same_name}
use Rattle.st_el.specs.declared.expression.Exp.{Exp}
use Rattle.st_el.specs.declared.expression.Node.{Node}
use Rattle.st_el.specs.declared.expression.Count.{Count}
use Rattle.st_el.specs.declared.expression.Count.TheOpen.{Node-F}
use Rattle.st_el.specs.declared.expression.Seg.{Seg}
use Rattle.st_il.specs.declared.ty.Ty.{Ty}
use Rattle.st_il.specs.declared.ty.Ty.TheVariants as ty
use Rattle.st_il.specs.declared.definition.FunDef.{FunDef}
use Rattle.st_il.specs.declared.expression.IlExp.TheVariants as il
use Rattle.st_elab_table.specs.declared.decls.Decls.{Decls}
use Rattle.st_elab_table.specs.declared.decls.Scope.{Scope}
use Rattle.st_dims.specs.declared.within.Within.{Within}
use Rattle.st_elab_table.specs.Operators.{operator_of}
use Rattle.st_elab_table.specs.Variables.{type_of_name}
use Rattle.st_elab_table.specs.Forms.{inferable}
use Rattle.st_num.specs.Names.{is_among}
use Rattle.st_dims.specs.Around.{inside}
use Rattle.st_elab_table.specs.Iterations.{iterated_type, Variable}
use Rattle.st_elab_table.specs.Questions.{infer, Step, Asks, asks}
use Rattle.st_elab_table.specs.Steps.{breach, give, pass, asked, found, each_asked, ty_of, exps}
use Rattle.st_elab_table.specs.Collections.{iteration}
use Rattle.st_elab_table.specs.Operands.{binary_row, negation_row}
use Rattle.st_elab_table.specs.Paths.{length_row, position_row, slice_row, field_row, update_row, extension_row}

-- ---- variables

-- a variable with its type alone
abbrev pub entry_of : Variable → List ℕ × Ty
entry_of v = (v.0, v.1)

-- The type of a variable, if it has one: an index is `nat` in its body, any other has the type that
-- the scope gives it, or else the one that its name leads to.
abbrev pub variable_type : Decls → Scope → Within → List ℕ → Option Ty
variable_type D S w name =
    if is_among name w.indices then Some ty.Nat
    else option_or (lookup (same_name name) (map entry_of S.variables)) (type_of_name D name)

-- a variable, of the type that was found for it; B3 where none was
abbrev pub variable_row : Span → List ℕ → Option Ty → Step
variable_row at name None = breach at B3
variable_row at name (Some t) = give (il.Var name) t

-- ---- calls

-- the declaration of the function of this name, if there is one
abbrev pub fun_named : List FunDef → List ℕ → Option FunDef
fun_named [] name = None
fun_named (f ∷ fs) name = if same_name name f.name then Some f else fun_named fs name

-- a call of this function, its arguments at the types of the parameters:
-- B2 where it is not declared, Y6 where it has another number of parameters
abbrev pub call_row : Within → Span → List Exp → Option FunDef → Step
call_row w at es None = breach at B2
call_row w at es (Some f) =
    if nat_eq (length es) (length f.params)
    then asks (each_asked w es f.params) (λ ms. give (il.Call f.name (exps ms)) f.result)
    else breach at Y6

-- ---- tuples and iterations

-- a tuple of inferred parts, of the tuple of their types
abbrev pub inferred_tuple : Within → List Exp → Step
inferred_tuple w es =
    asks (map (found w) es) (λ ms. give (il.Tuple (exps ms)) (ty.Tuple (map ty_of ms)))

-- an iteration with an inferred body: a list or an option of the type of the body
abbrev pub inferred_iteration : Scope → Within → Exp → Count → Step
inferred_iteration S w b c =
    Asks (found (inside w c) b) (λ m. iteration S w c m.exp (iterated_type c m.ty))

-- ---- all rows

-- an inferable expression, by its form; Y3 at a form whose type is never inferred
abbrev pub inferred_at : Decls → Scope → Within → Span → Node-F Count Node Seg Exp → Step
inferred_at D S w at (Node-F.Name name) = variable_row at name (variable_type D S w name)
inferred_at D S w at (Node-F.Bool truth) = give (il.Bool truth) ty.Bool
inferred_at D S w at (Node-F.Number n) = give (il.Number n) ty.Nat
inferred_at D S w at (Node-F.Text text) = give (il.Text text) ty.Text
inferred_at D S w at (Node-F.Binary l sign r) = binary_row w at sign l r (operator_of sign)
inferred_at D S w at (Node-F.Not e) = Asks (asked w e ty.Bool) (λ m. give (il.Not m.exp) ty.Bool)
inferred_at D S w at (Node-F.Neg e) = negation_row w e
inferred_at D S w at (Node-F.Arith e) = pass (found w e)
inferred_at D S w at (Node-F.Paren e) = pass (infer w at e)
inferred_at D S w at (Node-F.Tuple es) = inferred_tuple w es
inferred_at D S w at (Node-F.Dot e field) = field_row D w at e field
inferred_at D S w at (Node-F.Node::At e i) = position_row w e i
inferred_at D S w at (Node-F.Node::Slice e i n) = slice_row w e i n
inferred_at D S w at (Node-F.Update e path value) = update_row D w at e path value
inferred_at D S w at (Node-F.Extend e path list) = extension_row D w at e path list
inferred_at D S w at (Node-F.Len e) = length_row w e
inferred_at D S w at (Node-F.Call name es) = call_row w at es (fun_named D.funs name)
inferred_at D S w at (Node-F.Iter b c) = inferred_iteration S w b c
inferred_at D S w at _ = breach at Y3

-- an expression whose type is inferred; Y3 where it is not inferable
abbrev pub inferred_row : Decls → Scope → Within → Span → Exp → Node-F Count Node Seg Exp → Step
inferred_row D S w at e node = if inferable e then inferred_at D S w at node else breach at Y3
