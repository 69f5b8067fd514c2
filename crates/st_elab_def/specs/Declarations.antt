-- What a definition declares, and whether one before declares the same.
use Rattle.std.specs.Prelude.{Bool, false, not, ◌&&◌}
use Rattle.std.specs.List.{list_any}
use Rattle.std.specs.Option.{is_some}
use Rattle.st_num.specs.Names.{same_name}
use Rattle.st_el.specs.declared.definition.Def.{Def}
use Rattle.st_el.specs.declared.definition.DefNode.{DefNode}
use Rattle.st_el.specs.declared.definition.DefNode.TheVariants.{Syntax, Var, Relation, Fun}
use Rattle.st_elab_def.specs.Definitions.{Definition}

-- Both declare a syntax, the type of a variable, a relation or a function of one name, and they
-- are not two fragments.
abbrev pub declare_same : DefNode → DefNode → Bool
declare_same (Syntax name fragment body) (Syntax other piece rest) =
    same_name name other && not (is_some fragment && is_some piece)
declare_same (Var name typ) (Var other other_typ) = same_name name other
declare_same (Relation name notation) (Relation other other_notation) = same_name name other
declare_same (Fun name params result) (Fun other other_params other_result) = same_name name other
declare_same node other = false

-- a definition before this one declares the same
abbrev pub is_declared_before : Definition → Bool
is_declared_before d = list_any (λ (other : Def). declare_same d.def.node other.node) d.before
