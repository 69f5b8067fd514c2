-- What the tops of types lead to: the definition of the name that an alias stands for.
use Rattle.std.specs.Prelude.{◌≡◌, ℕ, List, [], map, Option, Some, slice_get}
use Rattle.st_il.specs.declared.ty.Ty.{Ty, out-Ty}
use Rattle.st_il.specs.declared.ty.Ty.TheOpen.{Ty-F}
use Rattle.st_il.specs.declared.definition.SyntaxDef.{SyntaxDef}
use Rattle.st_il.specs.declared.definition.SyntaxBody.{SyntaxBody}
use Rattle.st_il.specs.declared.definition.SyntaxBody.TheVariants as body
use Rattle.st_type_table.specs.Meaning.{Means, fields_of}
use Rattle.st_type_table.specs.Joins.{AllJoin}
use Rattle.st_type_table.specs.inner.Graph.{Graph, IsOne, EndsAt, position_of, one_position}

-- the definition of a type that is a name, by the top of the type
abbrev pub heads_at : {X : Type 0} → List SyntaxDef → Ty-F X → List ℕ
heads_at defs (Ty-F.Name name) = one_position (position_of defs name)
heads_at defs Ty-F.Bool = []
heads_at defs Ty-F.Nat = []
heads_at defs Ty-F.Int = []
heads_at defs Ty-F.Text = []
heads_at defs (Ty-F.List t) = []
heads_at defs (Ty-F.Opt t) = []
heads_at defs (Ty-F.Tuple ts) = []

-- the number of the definition of a type that is a name
abbrev pub heads_in : List SyntaxDef → Ty → List ℕ
heads_in defs t = heads_at defs (out-Ty t)

-- the number of the definition of the name that an alias stands for
abbrev pub heads_of : List SyntaxDef → SyntaxBody → List ℕ
heads_of defs (body.Alias t) = heads_in defs t
heads_of defs (body.Variant alternatives) = []
heads_of defs (body.Fields fields) = []

-- what a definition leads to by the top of what it stands for
abbrev pub head_node : List SyntaxDef → SyntaxDef → Option (List ℕ)
head_node defs d = Some (heads_of defs d.body)

-- the graph of definitions by the tops of what they stand for
abbrev pub head_graph : List SyntaxDef → Graph
head_graph defs = map (head_node defs) defs

-- the way along aliases from the top of the type ends
abbrev pub HeadEnds : List SyntaxDef → Ty → Type 0
HeadEnds defs t = (j : ℕ) → IsOne (heads_in defs t) j → EndsAt (head_graph defs) j

-- how far the aliases at the top of a type are followed
pub record IsFollowed (defs : List SyntaxDef) (t here : Ty) : Type 0 where
  pub ends : HeadEnds defs here
  pub back : (u : Ty) → Means defs here u → Means defs t u

-- the type is the name of a record that can be joined
abbrev pub JoinsHere : List SyntaxDef → Ty → Type 0
JoinsHere defs t = (fields : List (List ℕ × Ty)) × ((fields_of defs t ≡ Some fields) × AllJoin defs fields)

-- the definition of this number is a record that can be joined
abbrev pub IsJoining : List SyntaxDef → ℕ → Type 0
IsJoining defs position = (d : SyntaxDef) × ((slice_get defs position ≡ Some d)
    × ((fields : List (List ℕ × Ty)) × ((d.body ≡ body.Fields fields) × AllJoin defs fields)))
