-- The directions of relations that are kept under their names.
use Rattle.std.specs.Prelude.{◌≡◌, ℕ, Bool, List, [], Option, Some, bytes_eq, find, unwrap_or, if◌then◌else◌}
use Rattle.std.specs.Borrow.{Bor}
use Rattle.std.specs.Option.{option_map}
use Rattle.st_il.specs.declared.definition.Il.{Il}
use Rattle.st_il.specs.declared.definition.IlDef.{IlDef}
use Rattle.st_il.specs.declared.definition.IlDef.TheVariants.{Relation}
use Rattle.st_il.specs.declared.definition.RelationDef.{RelationDef}
use Rattle.st_il.specs.Names.{Name}
use Rattle.st_il.specs.Definitions.{relations_in}
use Rattle.st_semantics.specs.Directions.{inputs_or_all, mask}
use Rattle.st_order.specs.Known.{at}

-- for each hole of a relation, whether it is an input, under a name
abbrev pub Entries : Type 0
Entries = List (Bor (List ℕ) × List Bool)

-- what stands under the name, where there is something
abbrev pub mask_in : Entries → Name → List Bool
mask_in entries name = unwrap_or (at entries name) []

-- the directions of the relation of a name among these definitions
abbrev pub mask_among : List IlDef → Name → Option (List Bool)
mask_among defs name =
    option_map (λ (r : RelationDef). inputs_or_all (Some r))
    (find (λ (r : RelationDef). bytes_eq name r.name) (relations_in defs))

-- what stands under the name once a definition is put before others of which this stands there
abbrev pub behind : IlDef → Name → Option (List Bool) → Option (List Bool)
behind (Relation r) name other =
    if bytes_eq name r.name then Some (inputs_or_all (Some r)) else other
behind definition name other = other

-- under each name stands the direction of its relation
abbrev pub AreMasks : Il → Entries → Type 0
AreMasks il entries = (name : Name) → mask_in entries name ≡ mask il name
