-- What definitions declare, told together.
use Rattle.std.specs.Prelude.{◌≡◌, false, List, [], ◌∷◌, ◌++◌, map}
use Rattle.st_il.specs.declared.definition.IlDef.{IlDef}
use Rattle.st_il.specs.declared.definition.IlDef.TheVariants.{Syntax, Var, Relation, Rule, Fun, Clause}
use Rattle.st_il.specs.declared.definition.RuleDef.{RuleDef}
use Rattle.st_il.specs.Names.{Name, has_name}
use Rattle.st_il.specs.Definitions.{rules_in}
use Rattle.st_ilcheck.specs.declared.declaring.Declared.{Declared}
use Rattle.st_ilcheck.specs.inner.Names.{is_pair}
use Rattle.st_ilcheck.specs.Declarations.{syntax_names, variable_names, relation_names, function_names, IsMode}

-- nothing is declared
abbrev pub nothing_declared : Declared
nothing_declared = record { syntaxes = []; variables = []; relations = []; rules = []; functions = [] }

-- what is declared with one more definition behind the others
abbrev pub declaring : IlDef → Declared → Declared
declaring (Syntax s) d = record {
  syntaxes = d.syntaxes ++ s.name ∷ [];
  variables = d.variables;
  relations = d.relations;
  rules = d.rules;
  functions = d.functions;
}
declaring (Var x t) d = record {
  syntaxes = d.syntaxes;
  variables = d.variables ++ x ∷ [];
  relations = d.relations;
  rules = d.rules;
  functions = d.functions;
}
declaring (Relation r) d = record {
  syntaxes = d.syntaxes;
  variables = d.variables;
  relations = d.relations ++ r.name ∷ [];
  rules = d.rules;
  functions = d.functions;
}
declaring (Rule r) d = record {
  syntaxes = d.syntaxes;
  variables = d.variables;
  relations = d.relations;
  rules = d.rules ++ (r.relation, r.name) ∷ [];
  functions = d.functions;
}
declaring (Fun f) d = record {
  syntaxes = d.syntaxes;
  variables = d.variables;
  relations = d.relations;
  rules = d.rules;
  functions = d.functions ++ f.name ∷ [];
}
declaring (Clause c) d = d

-- the rules among some definitions, each by its relation and its name
abbrev pub rule_pairs : List IlDef → List (Name × Name)
rule_pairs defs = map (λ (r : RuleDef). (r.relation, r.name)) (rules_in defs)

-- that is what these definitions declare
pub record AreDeclared (defs : List IlDef) (d : Declared) : Type 0 where
  pub syntaxes : d.syntaxes ≡ syntax_names defs
  pub variables : d.variables ≡ variable_names defs
  pub relations : d.relations ≡ relation_names defs
  pub rules : d.rules ≡ rule_pairs defs
  pub functions : d.functions ≡ function_names defs

-- that is declared, and what some more definitions declare makes it what all of them do
pub record AreLeft (defs rest : List IlDef) (d : Declared) : Type 0 where
  pub syntaxes : d.syntaxes ++ syntax_names rest ≡ syntax_names defs
  pub variables : d.variables ++ variable_names rest ≡ variable_names defs
  pub relations : d.relations ++ relation_names rest ≡ relation_names defs
  pub rules : d.rules ++ rule_pairs rest ≡ rule_pairs defs
  pub functions : d.functions ++ function_names rest ≡ function_names defs

-- what a definition declares is not declared before
abbrev pub IsNew : Declared → IlDef → Type 0
IsNew before (Syntax s) = Unit {0}
IsNew before (Var x t) = has_name before.variables x ≡ false
IsNew before (Relation r) = (has_name before.relations r.name ≡ false) × IsMode r
IsNew before (Rule r) = is_pair r.relation r.name before.rules ≡ false
IsNew before (Fun f) = has_name before.functions f.name ≡ false
IsNew before (Clause c) = Unit {0}
