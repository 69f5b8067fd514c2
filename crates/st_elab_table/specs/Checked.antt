-- The table: what an expression is at a type that is asked.
use Rattle.std.specs.Prelude.{List, length, if◌then◌else◌, nat_eq}
use Rattle.st_num.specs.declared.span.Span.{Span}
use Rattle.st_el.specs.declared.expression.Exp.{Exp}
use Rattle.st_el.specs.declared.expression.Node.{Node}
use Rattle.st_el.specs.declared.expression.Count.{Count}
use Rattle.st_el.specs.declared.expression.Count.TheOpen.{Node-F}
use Rattle.st_el.specs.declared.expression.Seg.{Seg}
use Rattle.st_il.specs.declared.ty.Ty.{Ty, out-Ty}
use Rattle.st_il.specs.declared.ty.Ty.TheOpen.{Ty-F}
use Rattle.st_il.specs.declared.expression.IlExp.TheVariants as il
use Rattle.st_notation.specs.Elements.{opened}
use Rattle.st_elab_table.specs.declared.decls.Decls.{Decls}
use Rattle.st_elab_table.specs.declared.decls.Scope.{Scope}
use Rattle.st_dims.specs.declared.within.Within.{Within}
use Rattle.st_elab_table.specs.Operators.{operator_of}
use Rattle.st_elab_table.specs.Forms.{inferable, is_concatenation}
use Rattle.st_elab_table.specs.Questions.{Manner, check, infer, Step, Asks, Opens, asks}
use Rattle.st_elab_table.specs.Steps.{give, pass, enclosed, each_asked, exps, fitted}
use Rattle.st_elab_table.specs.Collections.{other_row, eps_row, concatenation_row, iteration_row, is_run, sequence}
use Rattle.st_elab_table.specs.Records.{record_row, notation_row}

-- ---- the rows for an expression that is not inferable

-- a sequence: at a list type its items, or one element; at any other type by its notation
abbrev pub sequence_at : Within → Span → Manner → Exp → List Exp → Ty → Ty → Ty-F Ty → Step
sequence_at w at p e es t u (Ty-F.List x) =
    if is_run es p.in_parentheses then sequence w at es t x else other_row w at p e t (Ty-F.List x)
sequence_at w at p e es t u y = notation_row w at p e t u

-- an expression that is not inferable, by its form, at the type t that means u
abbrev pub form_row : Decls → Scope → Within → Span → Manner → Exp → Ty → Ty
    → Node-F Count Node Seg Exp → Step
form_row D S w at p e t u Node-F.Eps = eps_row at t (out-Ty u)
form_row D S w at p e t u (Node-F.Binary l sign r) =
    if is_concatenation (operator_of sign) then concatenation_row w at l r t
    else other_row w at p e t (out-Ty u)
form_row D S w at p e t u (Node-F.Iter b c) = iteration_row S w at p e b c t (out-Ty u)
form_row D S w at p e t u (Node-F.Seq es) = sequence_at w at p e es t u (out-Ty u)
form_row D S w at p e t u (Node-F.Fields written) = record_row D w at p e written t u
form_row D S w at p e t u (Node-F.Atom name) = notation_row w at p e t u
form_row D S w at p e t u (Node-F.Infix l sign r) = notation_row w at p e t u
form_row D S w at p e t u (Node-F.Bracket opening b) = notation_row w at p e t u
form_row D S w at p e t u _ = other_row w at p e t (out-Ty u)

-- an expression at the type t: an inferable one is fitted to it, any other goes by its form
abbrev pub plain_row : Decls → Scope → Within → Span → Manner → Exp → Ty → Step
plain_row D S w at p e t =
    if inferable e then Asks (infer w at e) (fitted at t)
    else Opens t (λ u. form_row D S w at p e t u (opened e))

-- ---- all rows at a type

-- a tuple at a type of this meaning: by parts at a tuple type of its length,
-- and else as any other expression
abbrev pub tuple_at : Decls → Scope → Within → Span → Manner → Exp → List Exp → Ty → Ty-F Ty → Step
tuple_at D S w at p e es t (Ty-F.Tuple ts) =
    if nat_eq (length es) (length ts)
    then asks (each_asked w es ts) (λ ms. give (il.Tuple (exps ms)) t)
    else plain_row D S w at p e t
tuple_at D S w at p e es t _ = plain_row D S w at p e t

-- An expression at the type t: a tuple at a tuple type of its length goes by parts.
-- Parentheses change nothing but the place.
abbrev pub checked_row : Decls → Scope → Within → Span → Manner → Exp → Ty
    → Node-F Count Node Seg Exp → Step
checked_row D S w at p e t (Node-F.Paren inner) = pass (check w at (enclosed p) inner t)
checked_row D S w at p e t (Node-F.Tuple es) = Opens t (λ u. tuple_at D S w at p e es t (out-Ty u))
checked_row D S w at p e t _ = plain_row D S w at p e t
