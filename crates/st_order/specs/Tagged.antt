-- What is asked of a relation whose direction is told without memory.
use Rattle.st_il.specs.declared.definition.RelationDef.{RelationDef}
use Rattle.st_il.specs.declared.template.Template.{Template}
use Rattle.st_il.specs.Template.{HasTag}

-- the tag of the relation is that of a template, as it is wherever typing accepts the relation
abbrev pub IsTagged : RelationDef → Type 0
IsTagged relation = (t : Template) × HasTag t relation.tag
