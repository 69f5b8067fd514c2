-- The first part of the fields of a record that is no value form.
use Rattle.std.proofs.Common.{◌≡◌, ℕ, List, map, Bool, true, Option, ap, ◌∙◌}
use Rattle.st_num.specs.declared.span.Span.{Span}
use Rattle.st_el.specs.declared.expression.Exp.{Exp}
use Rattle.st_el.specs.declared.expression.Node.{Node, out-Node, map-Node, fold_out-Node}
use Rattle.st_el.specs.declared.expression.Node.TheVariants as v
use Rattle.st_el.specs.declared.expression.Count.{Count, fold-Count}
use Rattle.st_el.specs.declared.expression.Count.TheOpen.{Node-F}
use Rattle.st_el.specs.declared.expression.Seg.{Seg, fold-Seg}
use Rattle.st_term.specs.Foreign.{Part, part_at, placed, part, part_node, first_place, field_foreign, field_part}

abbrev step_seen : Seg → Bool
step_seen = fold-Seg Bool (Span → Part) Bool Part (λ count. true) part_at (λ step. true) placed

abbrev count_seen : Count → Bool
count_seen = fold-Count Bool (Span → Part) Bool Part (λ count. true) part_at (λ step. true) placed

-- a level with what its parts are as parts of a term
abbrev parts_seen : Node-F Count Node Seg Exp → Node-F Bool (Span → Part) Bool Part
parts_seen = map-Node Count Node Seg Exp Bool (Span → Part) Bool Part count_seen part_node step_seen part

node-seen : (node : Node) → part_node node ≡ part_at (parts_seen (out-Node node))
node-seen node = fold_out-Node Bool (Span → Part) Bool Part (λ count. true) part_at (λ step. true) placed node

pub part_node-Fields :
    (node : Node) (fields : List (List ℕ × Exp)) (at : Span) → node ≡ v.Fields fields
    → (part_node node at).foreign ≡ first_place (map field_foreign (map field_part fields))
part_node-Fields node fields at is =
    ap (λ (f : Span → Part). (f at).foreign) (node-seen node)
    ∙ ap (λ l. (part_at (parts_seen l) at).foreign) (ap out-Node is ∙ v.outs-Fields fields)
