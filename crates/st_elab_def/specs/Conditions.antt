-- What can be false of a part of a source, and the rule that it then breaks.
use Rattle.std.specs.Prelude.{◌≡◌, ℕ, List, Bool, true, false, ◌&&◌, Option, Some}
use Rattle.std.specs.List.{list_any}
use Rattle.st_num.specs.declared.rule.RuleId.{RuleId}
use Rattle.st_num.specs.declared.rule.RuleId.TheVariants.{B1, B2, B5, B6}
use Rattle.st_num.specs.Names.{same_name}
use Rattle.st_el.specs.declared.ty.Typ.{Typ}
use Rattle.st_el.specs.declared.ty.TypNode.TheOpen.{TypNode-F}
use Rattle.st_el.specs.declared.definition.Body.{Body}
use Rattle.st_el.specs.declared.definition.Def.{Def}
use Rattle.st_el.specs.declared.definition.DefNode.{DefNode}
use Rattle.st_el.specs.declared.definition.DefNode.TheVariants.{Rule}
use Rattle.st_el.specs.declared.definition.Hint.{Hint}
use Rattle.st_il.specs.declared.definition.RelationDef.{RelationDef}
use Rattle.st_il.specs.declared.definition.FunDef.{FunDef}
use Rattle.st_type_table.specs.Breach as types
use Rattle.st_elab_sig.specs.Modes.{IsMode}
use Rattle.st_elab_table.specs.declared.decls.Decls.{Decls}
use Rattle.st_elab_table.specs.Inferred.{fun_named}
use Rattle.st_elab_table.specs.Judgements.{relation_named}
use Rattle.st_elab_def.specs.Definitions.{Definition}
use Rattle.st_elab_def.specs.Declarations.{is_declared_before}
use Rattle.st_elab_def.specs.Fragments.{joins}
use Rattle.st_elab_def.specs.DeclsOf.{type_node}

-- a condition on a part of a source
pub data Condition : Type 0 where
  -- no definition before this one declares the same
  new_declaration : (d : Definition) → Condition
  -- the dots of a syntax suit its place among the fragments of this name
  joining : (d : Definition) (name : List ℕ) (fragment : Option (List ℕ)) (b : Body) → Condition
  -- a condition on syntaxes and the names of them
  on_syntaxes : (c : types.Condition) → Condition
  -- a type that is an alternative by itself is a name
  named : (t : Typ) → Condition
  -- the hints of a relation with so many holes say a mode
  mode : (hints : List Hint) (holes : ℕ) → Condition
  -- the name is that of a relation
  relation : (name : List ℕ) → Condition
  -- the name is that of a function
  function : (name : List ℕ) → Condition
  -- no rule of this relation before has this name
  new_rule : (before : List Def) (relation name : List ℕ) → Condition

-- the rule that is broken where the condition is false
abbrev pub rule_of : Condition → RuleId
rule_of (new_declaration d) = B1
rule_of (joining d name fragment b) = B5
rule_of (on_syntaxes c) = types.rule_of c
rule_of (named t) = B5
rule_of (mode hints holes) = B5
rule_of (relation name) = B2
rule_of (function name) = B2
rule_of (new_rule before r name) = B6

-- the type is a name
abbrev pub IsNamed : Typ → Type 0
IsNamed t = (name : List ℕ) × (type_node t ≡ TypNode-F.Name name)

-- the definition is a rule of this relation and name
abbrev pub is_rule : List ℕ → List ℕ → DefNode → Bool
is_rule r name (Rule other_relation other conclusion premises) =
    same_name r other_relation && same_name name other
is_rule r name node = false

-- one of these definitions is a rule of this relation and name
abbrev pub has_rule : List ℕ → List ℕ → List Def → Bool
has_rule r name defs = list_any (λ (def : Def). is_rule r name def.node) defs

-- the condition holds, where these are the declarations of the source
abbrev pub Holds : Decls → Condition → Type 0
Holds D (new_declaration d) = is_declared_before d ≡ false
Holds D (joining d name fragment b) = joins d name fragment b ≡ true
Holds D (on_syntaxes c) = types.Holds D.types c
Holds D (named t) = IsNamed t
Holds D (mode hints holes) = (m : List Bool) × IsMode hints holes m
Holds D (relation name) = (R : RelationDef) × (relation_named D.relations name ≡ Some R)
Holds D (function name) = (f : FunDef) × (fun_named D.funs name ≡ Some f)
Holds D (new_rule before r name) = has_rule r name before ≡ false
