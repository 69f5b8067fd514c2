-- The graph of definitions by joining: for which others one waits before it is joined as a field.
use Rattle.std.specs.Prelude.{ℕ, List, [], ◌∷◌, length, map, Option, Some, None}
use Rattle.std.specs.List.{flat_map}
use Rattle.st_il.specs.declared.ty.Ty.{Ty, out-Ty}
use Rattle.st_il.specs.declared.ty.Ty.TheOpen.{Ty-F}
use Rattle.st_il.specs.declared.definition.SyntaxDef.{SyntaxDef}
use Rattle.st_il.specs.declared.definition.SyntaxBody.{SyntaxBody}
use Rattle.st_il.specs.declared.definition.SyntaxBody.TheVariants as body
use Rattle.st_type_table.specs.inner.Graph.{Graph, position_of}

-- the number behind all definitions: nothing is there, and so what waits for it waits for ever
abbrev pub never : List SyntaxDef → ℕ
never defs = length defs

-- the number of a definition, or one that is waited for in vain where there is none
abbrev pub position_or_never : List SyntaxDef → Option ℕ → ℕ
position_or_never defs None = never defs
position_or_never defs (Some position) = position

-- the numbers of the definitions that must join before a field does, by the top of its type
abbrev pub waits_at : {X : Type 0} → List SyntaxDef → Ty-F X → List ℕ
waits_at defs (Ty-F.List t) = []
waits_at defs (Ty-F.Opt t) = []
waits_at defs (Ty-F.Name name) = position_or_never defs (position_of defs name) ∷ []
waits_at defs Ty-F.Bool = never defs ∷ []
waits_at defs Ty-F.Nat = never defs ∷ []
waits_at defs Ty-F.Int = never defs ∷ []
waits_at defs Ty-F.Text = never defs ∷ []
waits_at defs (Ty-F.Tuple ts) = never defs ∷ []

-- what a field of this type waits for
abbrev pub waits_in : List SyntaxDef → Ty → List ℕ
waits_in defs t = waits_at defs (out-Ty t)

-- what a record of these fields waits for
abbrev pub field_waits : List SyntaxDef → List (List ℕ × Ty) → List ℕ
field_waits defs = flat_map (λ f. waits_in defs f.1)

-- what a syntax of this body waits for
abbrev pub waits_of : List SyntaxDef → SyntaxBody → List ℕ
waits_of defs (body.Alias t) = waits_in defs t
waits_of defs (body.Variant alternatives) = never defs ∷ []
waits_of defs (body.Fields fields) = field_waits defs fields

-- what a definition waits for
abbrev pub join_node : List SyntaxDef → SyntaxDef → Option (List ℕ)
join_node defs d = Some (waits_of defs d.body)

-- the graph of definitions, by what each waits for
abbrev pub join_graph : List SyntaxDef → Graph
join_graph defs = map (join_node defs) defs
