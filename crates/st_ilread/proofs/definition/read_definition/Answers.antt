use Rattle.std.proofs.Common.{refl}
use Rattle.st_ilread.proofs.Passed.{read_as}
use Rattle.st_ilread.proofs.DefinitionTrees.{definition_none}
use Rattle.st_ilread.proofs.definition.read_definition.Goals as goal

pub returns-in-Some : goal.returns-in-Some
returns-in-Some c = read_as _ _ _ _ _ c.in-Some.ensures c.read_syntax.ensures

pub returns-in-Some-form_parts : goal.returns-in-Some-form_parts
returns-in-Some-form_parts c = read_as _ _ _ _ _ c.in-Some-form_parts.ensures c.read_var.ensures

pub returns-in-Some-form_parts-2 : goal.returns-in-Some-form_parts-2
returns-in-Some-form_parts-2 c = read_as _ _ _ _ _ c.in-Some-form_parts-2.ensures c.read_relation.ensures

pub returns-in-Some-form_parts-3 : goal.returns-in-Some-form_parts-3
returns-in-Some-form_parts-3 c = read_as _ _ _ _ _ c.in-Some-form_parts-3.ensures c.read_rule.ensures

pub returns-in-Some-form_parts-4 : goal.returns-in-Some-form_parts-4
returns-in-Some-form_parts-4 c = read_as _ _ _ _ _ c.in-Some-form_parts-4.ensures c.read_fun.ensures

pub returns-in-Some-form_parts-5 : goal.returns-in-Some-form_parts-5
returns-in-Some-form_parts-5 c = read_as _ _ _ _ _ c.in-Some-form_parts-5.ensures c.read_clause.ensures

pub returns : goal.returns
returns c = (refl, definition_none _ c.in_default.ensures c.in_default-form_parts.ensures c.in_default-form_parts-2.ensures c.in_default-form_parts-3.ensures c.in_default-form_parts-4.ensures c.in_default-form_parts-5.ensures)
