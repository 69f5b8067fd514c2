-- What is kept of relations: whether they are directed, and whether they cite themselves.
use Rattle.std.specs.Prelude.{◌≡◌, ℕ, Bool, false, List, Option, Some, is_some, bytes_eq, find, unwrap_or, if◌then◌else◌}
use Rattle.std.specs.Borrow.{Bor}
use Rattle.std.specs.Option.{option_map}
use Rattle.st_il.specs.declared.definition.Il.{Il}
use Rattle.st_il.specs.declared.definition.IlDef.{IlDef}
use Rattle.st_il.specs.declared.definition.IlDef.TheVariants as def
use Rattle.st_il.specs.declared.definition.RelationDef.{RelationDef}
use Rattle.st_il.specs.Names.{Name}
use Rattle.st_il.specs.Definitions.{relations_in}
use Rattle.st_semantics.specs.Directions.{direction}
use Rattle.st_modes.specs.declared.relations.Relations.{Relations}
use Rattle.st_order.specs.Known.{AreDirections, at}
use Rattle.st_modes.specs.inner.Circles.{AreCircles}

-- whether the first relation of a name among these definitions has a direction
abbrev pub directed_among : List IlDef → Name → Option Bool
directed_among defs name =
    option_map (λ (r : RelationDef). is_some (direction r))
    (find (λ (r : RelationDef). bytes_eq name r.name) (relations_in defs))

-- what stands under the name once a definition is put before others of which this stands there
abbrev pub directed_behind : IlDef → Name → Option Bool → Option Bool
directed_behind (def.Relation r) name other =
    if bytes_eq name r.name then Some (is_some (direction r)) else other
directed_behind definition name other = other

-- under each name stands whether its relation has a direction
abbrev pub AreDirected : Il → List (Bor (List ℕ) × Bool) → Type 0
AreDirected il entries = (name : Name) → at entries name ≡ directed_among il.defs name

-- the relation of a name is known to have a direction
abbrev pub is_directed : Relations → Name → Bool
is_directed r name = unwrap_or (at r.directed.entries name) false

-- what is kept is so in its internal language
pub record AreRelations (r : Relations) : Type 0 where
  pub directions : AreDirections r.directions
  pub directed : AreDirected r.directions.il.now r.directed.entries
  pub circles : AreCircles r.directions.il.now r.circles
