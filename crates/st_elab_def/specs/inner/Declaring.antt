-- What is kept of the definitions that were walked: the names that they declare.
use Rattle.std.specs.Prelude.{◌≡◌, ℕ, List, Bool, false, None}
use Rattle.std.specs.List.{list_any}
use Rattle.st_num.specs.Names.{same_name}
use Rattle.st_el.specs.Erasure.{is_fragment}
use Rattle.st_el.specs.declared.definition.Def.{Def}
use Rattle.st_el.specs.declared.definition.DefNode.{DefNode}
use Rattle.st_el.specs.declared.definition.DefNode.TheVariants.{Syntax, Var, Relation, Fun}
use Rattle.st_elab_def.specs.declared.declarations.Declared.{Declared}
use Rattle.st_ilcheck.specs.Index.{has}

-- ---- what a definition declares, by name

-- the definition is a syntax of this name that is no fragment
abbrev pub is_whole : List ℕ → DefNode → Bool
is_whole name (Syntax other None body) = same_name name other
is_whole name node = false

-- the definition gives a type to this name of variables
abbrev pub is_var : List ℕ → DefNode → Bool
is_var name (Var other typ) = same_name name other
is_var name node = false

-- the definition is a relation of this name
abbrev pub is_relation : List ℕ → DefNode → Bool
is_relation name (Relation other notation) = same_name name other
is_relation name node = false

-- the definition is a function of this name
abbrev pub is_fun : List ℕ → DefNode → Bool
is_fun name (Fun other params result) = same_name name other
is_fun name node = false

-- one of the definitions passes
abbrev pub any_def : (DefNode → Bool) → List Def → Bool
any_def test defs = list_any (λ (def : Def). test def.node) defs

-- The sets have the names that these definitions declare.
pub record Knows (before : List Def) (declared : Declared) : Type 0 where
  pub whole : (q : List ℕ) → has declared.whole.keys q ≡ any_def (is_whole q) before
  pub fragments : (q : List ℕ) → has declared.fragments.keys q ≡ list_any (is_fragment q) before
  pub vars : (q : List ℕ) → has declared.vars.keys q ≡ any_def (is_var q) before
  pub relations : (q : List ℕ) → has declared.relations.keys q ≡ any_def (is_relation q) before
  pub funs : (q : List ℕ) → has declared.funs.keys q ≡ any_def (is_fun q) before
