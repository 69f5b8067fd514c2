-- The functions that stand in a rule or in a clause.
use Rattle.std.specs.Prelude.{List, ◌++◌, map}
use Rattle.st_il.specs.declared.definition.ClauseDef.{ClauseDef}
use Rattle.st_il.specs.declared.definition.RuleDef.{RuleDef}
use Rattle.st_il.specs.Names.{Name, flattened}
use Rattle.st_semantics.specs.Variables.{called, called_in, prem_called}

-- the functions that stand in a rule
abbrev pub functions_in_rule : RuleDef → List Name
functions_in_rule r = called_in r.conclusion ++ flattened (map prem_called r.premises)

-- the functions that stand in a clause
abbrev pub functions_in_clause : ClauseDef → List Name
functions_in_clause c =
    called_in c.args ++ called c.result ++ flattened (map prem_called c.premises)
