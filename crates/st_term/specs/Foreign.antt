-- Which parts of terms and queries are no value forms, and the place of the first.
use Rattle.std.specs.Prelude.{ℕ, List, [], ◌∷◌, map, Bool, true, false, if◌then◌else◌, Option, Some, None}
use Rattle.std.specs.Option.{option_or}
use Rattle.st_num.specs.declared.span.Span.{Span}
use Rattle.st_el.specs.declared.expression.Exp.{Exp, Exp-F, fold-Exp}
use Rattle.st_el.specs.declared.expression.Node.{Node, fold-Node}
use Rattle.st_el.specs.declared.expression.Count.TheOpen.{Node-F}
use Rattle.st_dims.specs.declared.mention.Mention.{Mention}
use Rattle.st_dims.specs.declared.mention.Mention.TheVariants.{Occurs, Indexes, Iterates}
use Rattle.st_dims.specs.Mentions.{mentions_in}

-- the first place of several that may be there
abbrev pub first_place : List (Option Span) → Option Span
first_place [] = None
first_place (place ∷ places) = option_or place (first_place places)

-- ---- terms

-- what a part of a term is: a number; a number or one behind `-`; and the place of its first part
-- that is no value form, where it has one
pub record Part : Type 0 where
  pub number : Bool
  pub signed : Bool
  pub foreign : Option Span

-- a part that is no number, with its first part that is no value form
abbrev pub other : Option Span → Part
other place = record { number = false; signed = false; foreign = place }

-- the place of the first part of this part that is no value form
abbrev pub foreign_of : Part → Option Span
foreign_of p = p.foreign

-- a field of a record with the place of its first part that is no value form
abbrev pub field_foreign : List ℕ × Part → Option Span
field_foreign field = field.1.foreign

-- Value forms are atoms, numbers, texts, truth values, `eps`, parentheses, records, tuples,
-- sequences, signs of notation, brackets, and `$(k)` and `$(-k)` with a number k, of value forms.
abbrev pub part_at : Node-F Bool (Span → Part) Bool Part → Span → Part
part_at (Node-F.Number n) at = record { number = true; signed = true; foreign = None }
part_at (Node-F.Neg e) at = record { number = false; signed = e.number; foreign = Some at }
part_at (Node-F.Arith e) at = other (if e.signed then None else Some at)
part_at (Node-F.Atom name) at = other None
part_at (Node-F.Bool truth) at = other None
part_at (Node-F.Text text) at = other None
part_at Node-F.Eps at = other None
part_at (Node-F.Paren e) at = other e.foreign
part_at (Node-F.Fields fields) at = other (first_place (map field_foreign fields))
part_at (Node-F.Tuple parts) at = other (first_place (map foreign_of parts))
part_at (Node-F.Seq parts) at = other (first_place (map foreign_of parts))
part_at (Node-F.Infix left sign right) at = other (option_or left.foreign right.foreign)
part_at (Node-F.Bracket opening e) at = other e.foreign
part_at node at = other (Some at)

-- a part by what it is and its place
abbrev pub placed : Exp-F Bool (Span → Part) Bool Part → Part
placed e = e.node e.at

-- what an expression is as a part of a term
abbrev pub part : Exp → Part
part = fold-Exp Bool (Span → Part) Bool Part (λ count. true) part_at (λ step. true) placed

-- what stands at this place, as a part of a term
abbrev pub part_node : Node → Span → Part
part_node = fold-Node Bool (Span → Part) Bool Part (λ count. true) part_at (λ step. true) placed

-- a field of a record, with what its expression is as a part of a term
abbrev pub field_part : List ℕ × Exp → List ℕ × Part
field_part field = (field.0, part field.1)

-- the place of the first part of these expressions that is no value form, where there is one
abbrev pub first_foreign : List Exp → Option Span
first_foreign exps = first_place (map foreign_of (map part exps))

-- ---- queries

-- the place of a variable, or of an iteration by `*`, `+` or `?`
abbrev pub open_place : Mention → Option Span
open_place (Occurs occurrence) = Some occurrence.at
open_place (Indexes name) = None
open_place (Iterates iteration) = Some iteration.at

-- The place of the first part of a query that is a variable or an iteration by `*`, `+` or `?`. In
-- the body that has it as its index a name is no variable.
abbrev pub first_open : List Exp → Option Span
first_open exps = first_place (map open_place (mentions_in exps []))
