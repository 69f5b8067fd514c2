-- T1: what a definition declares and cites, and its tags.
use Rattle.std.specs.Prelude.{◌≡◌, ◌⊎◌, ℕ, suc, false, List, [], ◌∷◌, ◌++◌, map, length, All, bytes_eq, if◌then◌else◌}
use Rattle.std.specs.List.{flat_map}
use Rattle.st_il.specs.declared.definition.Alternative.{Alternative}
use Rattle.st_il.specs.declared.definition.Alternative.TheVariants as alternative
use Rattle.st_il.specs.declared.definition.FunDef.{FunDef}
use Rattle.st_il.specs.declared.definition.Il.{Il}
use Rattle.st_il.specs.declared.definition.IlDef.{IlDef}
use Rattle.st_il.specs.declared.definition.IlDef.TheVariants.{Syntax, Var, Relation, Rule, Fun, Clause}
use Rattle.st_il.specs.declared.definition.Listed.{Listed}
use Rattle.st_il.specs.declared.definition.RelationDef.{RelationDef}
use Rattle.st_il.specs.declared.definition.RuleDef.{RuleDef}
use Rattle.st_il.specs.declared.definition.SyntaxBody.{SyntaxBody}
use Rattle.st_il.specs.declared.definition.SyntaxBody.TheVariants as body
use Rattle.st_il.specs.declared.definition.SyntaxDef.{SyntaxDef}
use Rattle.st_il.specs.declared.expression.IlExp.{IlExp, fold-IlExp}
use Rattle.st_il.specs.declared.expression.IlExp.TheOpen.{IlExp-F, Iteration-F}
use Rattle.st_il.specs.declared.expression.IlPrem.{IlPrem, fold-IlPrem}
use Rattle.st_il.specs.declared.expression.IlPrem.TheOpen.{IlPrem-F}
use Rattle.st_il.specs.declared.template.Template.{Template}
use Rattle.st_il.specs.declared.ty.Ty.{Ty}
use Rattle.st_il.specs.Template.{HasTag, holes}
use Rattle.st_type_table.specs.Breach.{AllHold, conditions_on}
use Rattle.st_type_table.specs.Leads.{names_in}
use Rattle.st_il.specs.Names.{Name, has_name, flattened}
use Rattle.st_il.specs.Definitions.{syntaxes, syntaxes_in, relations, relations_in, rules_in, rules_from, funs_in}
use Rattle.st_semantics.specs.Iterations.{count_of, count_at}
use Rattle.st_semantics.specs.Operands.{operands_at, item_at, segment_at}
use Rattle.st_semantics.specs.Variables.{Counted, counted_at, operand_names, called_in, prem_called, relations_cited}

-- ---- tags

-- a tag, and the number of operands that it stands with
abbrev pub Tagged : Type 0
Tagged = Name × ℕ

-- the tag is a template with as many holes as there are operands
pub record IsTag (tagged : Tagged) : Type 0 where
  pub template : Template
  pub tag : HasTag template tagged.0
  pub filled : holes template ≡ tagged.1

-- the tags in a level whose parts have these
abbrev pub tags_at : IlExp-F (List Tagged) (List Tagged) (List Tagged) (List (List Tagged))
    → List Tagged
tags_at (IlExp-F.Case type tag es) = (tag, length es) ∷ flattened es
tags_at (IlExp-F.Iter count xs body) = count ++ body
tags_at level =
    flattened (operands_at (λ (ts : List Tagged). ts) (λ (tss : List (List Tagged)). tss) level)

-- the tags in the count of an iteration
abbrev pub count_tags_at : {K L S : Type 0} → Iteration-F (List Tagged) K L S → List Tagged
count_tags_at how = flattened (count_at how)

-- the tags in an expression
abbrev pub tags : IlExp → List Tagged
tags = fold-IlExp (List Tagged) (List Tagged) (List Tagged)
    (List (List Tagged)) tags_at count_tags_at item_at segment_at

-- the tags in several expressions
abbrev pub tags_in : List IlExp → List Tagged
tags_in es = flattened (map tags es)

-- the tags in a level of premises
abbrev pub prem_tags_at : IlPrem-F (List Tagged) → List Tagged
prem_tags_at (IlPrem-F.If e) = tags e
prem_tags_at (IlPrem-F.Goal relation es) = tags_in es
prem_tags_at IlPrem-F.Otherwise = []
prem_tags_at (IlPrem-F.Each how xs body) = tags_in (count_of how) ++ body

-- the tags in a premise
abbrev pub prem_tags : IlPrem → List Tagged
prem_tags = fold-IlPrem (List Tagged) prem_tags_at

-- ---- names of syntaxes

-- the names of syntaxes in several types
abbrev pub types_cited : List Ty → List Name
types_cited ts = flattened (map names_in ts)

-- the names of syntaxes in a level whose parts have these
abbrev pub syntaxes_at : IlExp-F (List Name) Counted (List Name) (List (List Name)) → List Name
syntaxes_at (IlExp-F.Case type tag es) = type ∷ flattened es
syntaxes_at (IlExp-F.Fields type es) = type ∷ flattened es
syntaxes_at (IlExp-F.List t items) = names_in t ++ flattened items
syntaxes_at (IlExp-F.Empty t) = names_in t
syntaxes_at (IlExp-F.Absent t) = names_in t
syntaxes_at (IlExp-F.Up t e) = names_in t ++ e
syntaxes_at (IlExp-F.Iter how xs body) = how.count ++ body
syntaxes_at level = operand_names level

-- the names of syntaxes in an expression
abbrev pub syntaxes_cited : IlExp → List Name
syntaxes_cited = fold-IlExp (List Name) Counted (List Name)
    (List (List Name)) syntaxes_at counted_at item_at segment_at

-- the names of syntaxes in several expressions
abbrev pub syntaxes_cited_in : List IlExp → List Name
syntaxes_cited_in es = flattened (map syntaxes_cited es)

-- the names of syntaxes in a level of premises
abbrev pub prem_syntaxes_at : IlPrem-F (List Name) → List Name
prem_syntaxes_at (IlPrem-F.If e) = syntaxes_cited e
prem_syntaxes_at (IlPrem-F.Goal relation es) = syntaxes_cited_in es
prem_syntaxes_at IlPrem-F.Otherwise = []
prem_syntaxes_at (IlPrem-F.Each how xs body) = syntaxes_cited_in (count_of how) ++ body

-- the names of syntaxes in a premise
abbrev pub prem_syntaxes : IlPrem → List Name
prem_syntaxes = fold-IlPrem (List Name) prem_syntaxes_at

-- ---- what is cited

-- what a definition cites, and the tags that stand in it
pub record Cited : Type 0 where
  pub syntaxes : List Name
  pub relations : List Name
  pub functions : List Name
  pub tags : List Tagged

-- the types of listed variables
abbrev pub listed_types : List Listed → List Ty
listed_types ls = map (λ (l : Listed). l.ty) ls

-- what variables, expressions and premises cite, besides these relations and functions
abbrev pub cited_by : List Listed → List IlExp → List IlPrem → List Name → List Name → Cited
cited_by ls es ps relations functions = record {
  syntaxes =
      types_cited (listed_types ls)
      ++ (syntaxes_cited_in es ++ flattened (map prem_syntaxes ps));
  relations = relations ++ flattened (map relations_cited ps);
  functions = functions ++ (called_in es ++ flattened (map prem_called ps));
  tags = tags_in es ++ flattened (map prem_tags ps);
}

-- the types in an alternative, and the syntax that it includes
abbrev pub alternative_cited : Alternative → List Name
alternative_cited (alternative.Case tag operands) = types_cited operands
alternative_cited (alternative.Incl name) = name ∷ []

-- the tag of an alternative
abbrev pub alternative_tags : Alternative → List Tagged
alternative_tags (alternative.Case tag operands) = (tag, length operands) ∷ []
alternative_tags (alternative.Incl name) = []

-- the names of syntaxes in a body
abbrev pub body_cited : SyntaxBody → List Name
body_cited (body.Alias t) = names_in t
body_cited (body.Variant alternatives) = flat_map alternative_cited alternatives
body_cited (body.Fields fields) = types_cited (map (λ (f : Name × Ty). f.1) fields)

-- the tags in a body
abbrev pub body_tags : SyntaxBody → List Tagged
body_tags (body.Variant alternatives) = flat_map alternative_tags alternatives
body_tags _ = []

-- what a definition cites. It does not cite itself by declaring its name.
abbrev pub cited : IlDef → Cited
cited (Syntax s) = record {
  syntaxes = body_cited s.body;
  relations = [];
  functions = [];
  tags = body_tags s.body;
}
cited (Var x t) = record { syntaxes = names_in t; relations = []; functions = []; tags = [] }
cited (Relation r) = record {
  syntaxes = types_cited r.holes;
  relations = [];
  functions = [];
  tags = (r.tag, length r.holes) ∷ [];
}
cited (Rule r) = cited_by r.variables r.conclusion r.premises (r.relation ∷ []) []
cited (Fun f) = record {
  syntaxes = types_cited (f.result ∷ f.params);
  relations = [];
  functions = [];
  tags = [];
}
cited (Clause c) = cited_by c.variables (c.args ++ c.result ∷ []) c.premises [] (c.fun ∷ [])

-- ---- what is declared

-- the names of syntaxes among some definitions
abbrev pub syntax_names : List IlDef → List Name
syntax_names defs = map (λ (s : SyntaxDef). s.name) (syntaxes_in defs)

-- the names of relations
abbrev pub relation_names : List IlDef → List Name
relation_names defs = map (λ (r : RelationDef). r.name) (relations_in defs)

-- the names of functions
abbrev pub function_names : List IlDef → List Name
function_names defs = map (λ (f : FunDef). f.name) (funs_in defs)

-- the names that are declared by `var`
abbrev pub variable_names : List IlDef → List Name
variable_names [] = []
variable_names (Var x t ∷ defs) = x ∷ variable_names defs
variable_names (_ ∷ defs) = variable_names defs

-- the names of the rules of a relation
abbrev pub rule_names : Name → List IlDef → List Name
rule_names relation defs = map (λ (r : RuleDef). r.name) (rules_from relation (rules_in defs))

-- how often a name is one of these
abbrev pub times : Name → List Name → ℕ
times x [] = 0
times x (y ∷ ys) = if bytes_eq x y then suc (times x ys) else times x ys

-- the name is one of these, once
abbrev pub IsOnceIn : List Name → Name → Type 0
IsOnceIn names x = times x names ≡ 1

-- a mode has a word for each hole, if it has words
abbrev pub IsMode : RelationDef → Type 0
IsMode r = (r.mode ≡ []) ⊎ (length r.mode ≡ length r.holes)

-- What a definition declares is not declared before; and of a syntax the conditions on definitions
-- of syntaxes hold, of a relation that on its mode.
abbrev pub IsDeclared : Il → List IlDef → IlDef → Type 0
IsDeclared il before (Syntax s) = AllHold (syntaxes il) (conditions_on (syntaxes_in before) s)
IsDeclared il before (Var x t) = has_name (variable_names before) x ≡ false
IsDeclared il before (Relation r) = (has_name (relation_names before) r.name ≡ false) × IsMode r
IsDeclared il before (Rule r) = has_name (rule_names r.relation before) r.name ≡ false
IsDeclared il before (Fun f) = has_name (function_names before) f.name ≡ false
IsDeclared il before (Clause c) = Unit {0}

-- T1: the names that are cited are declared, once; and each tag is a template with as many holes
-- as operands.
pub record AreNamed (il : Il) (before : List IlDef) (d : IlDef) : Type 0 where
  pub declared : IsDeclared il before d
  pub syntaxes_once : All (IsOnceIn (syntax_names il.defs)) (cited d).syntaxes
  pub relations_once : All (IsOnceIn (relation_names il.defs)) (cited d).relations
  pub functions_once : All (IsOnceIn (function_names il.defs)) (cited d).functions
  pub tagged : All IsTag (cited d).tags
