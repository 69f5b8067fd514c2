-- Goals: a relation and typed inputs.
use Rattle.std.specs.Prelude.{List, IsSomeAnd}
use Rattle.st_il.specs.declared.definition.Il.{Il}
use Rattle.st_il.specs.declared.definition.RelationDef.{RelationDef}
use Rattle.st_il.specs.declared.value.Value.{Value}
use Rattle.st_il.specs.Names.{Name}
use Rattle.st_il.specs.Definitions.{syntaxes, relation_named}
use Rattle.st_semantics.specs.Directions.{inputs_of}
use Rattle.st_semantics.specs.Environments.{AreTypedValues}

-- the values are one for each input of the relation, of its type
abbrev pub AreInputs : Il → Name → List Value → Type 0
AreInputs il relation vs =
    IsSomeAnd (relation_named il relation)
    (λ (r : RelationDef). AreTypedValues (syntaxes il) (inputs_of il relation r.holes) vs)

-- what is asked of a relation: which outputs it derives from these inputs
pub record Goal : Type 0 where
  pub relation : Name
  pub inputs : List Value

-- the inputs of the goal are typed
abbrev pub IsGoal : Il → Goal → Type 0
IsGoal il g = AreInputs il g.relation g.inputs
