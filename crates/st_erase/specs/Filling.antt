-- How a template is written with its holes filled.
use Rattle.std.specs.Prelude.{List, [], ◌∷◌, ◌++◌, Bool, true, false, if◌then◌else◌, ◌&&◌}
use Rattle.st_num.specs.declared.mark.Mark.{Mark}
use Rattle.st_el.specs.declared.expression.Exp.{Exp}
use Rattle.st_el.specs.declared.expression.Node.TheVariants as node
use Rattle.st_il.specs.declared.template.Template.{Template, fold-Template}
use Rattle.st_il.specs.declared.template.Template.TheOpen.{Template-F}
use Rattle.st_erase.specs.declared.erased.Erased.{Erased}
use Rattle.st_erase.specs.Places.{exp, whole, run}

-- what is written, and the operands of the holes behind it
pub record Written (X : Type 0) : Type 0 where
  pub out : X
  pub rest : List Erased

-- a part of a template: whether it is a hole, whether it is an atom, and how it is written
pub record Part : Type 0 where
  pub is_hole : Bool
  pub is_atom : Bool
  pub write : List Erased → Written Exp

-- a sequence of these elements; one element stands by itself
abbrev pub sequence : List Exp → Exp
sequence [] = exp (node.Seq [])
sequence (e ∷ []) = e
sequence (e ∷ f ∷ es) = exp (node.Seq (e ∷ f ∷ es))

-- a hole that is last, or directly before an atom, takes a run
abbrev pub takes_run : List Part → Bool
takes_run [] = true
takes_run (next ∷ behind) = next.is_atom

-- a hole that takes one expression is filled by the next operand
abbrev pub write_hole : List Erased → Written Exp
write_hole [] = record { out = exp node.Eps; rest = [] }
write_hole (x ∷ xs) = record { out = whole x; rest = xs }

-- a hole that takes a run is filled by the parts of the next operand
abbrev pub write_run : List Erased → Written (List Exp)
write_run [] = record { out = []; rest = [] }
write_run (x ∷ xs) = record { out = run x; rest = xs }

-- what is written is one element of a sequence
abbrev pub alone : Written Exp → Written (List Exp)
alone w = record { out = w.out ∷ []; rest = w.rest }

-- how a part of a sequence is written before these parts
abbrev pub write_part : Part → List Part → List Erased → Written (List Exp)
write_part part behind xs =
    if part.is_hole && takes_run behind then write_run xs else alone (part.write xs)

-- these elements stand before what is written
abbrev pub behind_it : List Exp → Written (List Exp) → Written (List Exp)
behind_it es w = record { out = es ++ w.out; rest = w.rest }

-- how the parts of a sequence are written, from left to right
abbrev pub write_parts : List Part → List Erased → Written (List Exp)
write_parts [] xs = record { out = []; rest = xs }
write_parts (part ∷ behind) xs =
    behind_it (write_part part behind xs).out (write_parts behind (write_part part behind xs).rest)

-- the elements that are written make a sequence
abbrev pub in_sequence : Written (List Exp) → Written Exp
in_sequence w = record { out = sequence w.out; rest = w.rest }

-- how two sides are written with a sign between them
abbrev pub between : Written Exp → Mark → (List Erased → Written Exp) → Written Exp
between left sign right =
    record
    { out = exp (node.Infix left.out sign (right left.rest).out); rest = (right left.rest).rest }

-- what is written stands in the bracket that this sign opens
abbrev pub in_bracket : Mark → Written Exp → Written Exp
in_bracket opening w = record { out = exp (node.Bracket opening w.out); rest = w.rest }

-- what a template is as a part, by what its parts are
abbrev pub part_at : Template-F Part → Part
part_at (Template-F.Atom name) =
    record {
      is_hole = false;
      is_atom = true;
      write = λ xs. record { out = exp (node.Atom name); rest = xs };
    }
part_at Template-F.Hole = record { is_hole = true; is_atom = false; write = write_hole }
part_at (Template-F.Seq parts) =
    record { is_hole = false; is_atom = false; write = λ xs. in_sequence (write_parts parts xs) }
part_at (Template-F.Infix left sign right) =
    record
    { is_hole = false; is_atom = false; write = λ xs. between (left.write xs) sign right.write }
part_at (Template-F.Bracket opening inside) =
    record { is_hole = false; is_atom = false; write = λ xs. in_bracket opening (inside.write xs) }

-- what a template is as a part
abbrev pub part_of : Template → Part
part_of = fold-Template Part part_at

-- the template with its holes filled by these operands, from left to right
abbrev pub filled : Template → List Erased → Exp
filled t xs = ((part_of t).write xs).out
