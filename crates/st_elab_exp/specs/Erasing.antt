-- What is elaborated is erased to the rule or clause that it came from.
use Rattle.std.specs.Prelude.{◌≡◌, ℕ, List}
use Rattle.st_el.specs.declared.expression.Exp.{Exp}
use Rattle.st_el.specs.declared.definition.Prem.{Prem}
use Rattle.st_el.specs.declared.definition.DefNode.TheVariants.{Rule, Clause}
use Rattle.st_el.specs.Erasure.{plain_def_node}
use Rattle.st_il.specs.declared.definition.ClauseDef.{ClauseDef}
use Rattle.st_il.specs.declared.definition.FunDef.{FunDef}
use Rattle.st_il.specs.declared.definition.Il.{Il}
use Rattle.st_il.specs.declared.definition.RelationDef.{RelationDef}
use Rattle.st_il.specs.declared.definition.RuleDef.{RuleDef}
use Rattle.st_erase.specs.Definitions.{erased_rule, erased_clause}
use Rattle.st_elab_table.specs.Clauses.{ClauseParts}

-- The rule is erased to this one of the relation, once both are plain.
abbrev pub RuleErases : Il → RelationDef → List ℕ → Exp → List Prem → RuleDef → Type 0
RuleErases il R name conclusion premises rule =
    plain_def_node (erased_rule il.defs rule)
    ≡ plain_def_node (Rule R.name name conclusion premises)

-- The clause is erased to this one of the function, once both are plain.
abbrev pub ClauseErases : Il → FunDef → ClauseParts → ClauseDef → Type 0
ClauseErases il f c clause =
    plain_def_node (erased_clause il.defs clause)
    ≡ plain_def_node (Clause f.name c.args c.result c.premises)
