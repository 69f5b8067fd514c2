-- What is looked up again and again, and what is found of the needs of a relation.
use Rattle.std.specs.Prelude.{◌≡◌, ◌<◌, ◌^◌, Bool, not, ◌&&◌, List, [], map, length, Option, Some, None, All, bytes_eq}
use Rattle.st_il.specs.declared.definition.FunDef.{FunDef}
use Rattle.st_il.specs.declared.definition.Il.{Il}
use Rattle.st_il.specs.declared.definition.RelationDef.{RelationDef}
use Rattle.st_il.specs.declared.definition.RuleDef.{RuleDef}
use Rattle.st_semantics.specs.declared.unfit.Unfit.{Unfit}
use Rattle.st_semantics.specs.declared.unfit.Unfit.TheVariants as unfit
use Rattle.st_il.specs.Names.{Name, has_name}
use Rattle.st_il.specs.Definitions.{relations, rules_in, funs_in, clauses_of, IsFirst}
use Rattle.st_semantics.specs.Marks.{LacksClauses, IsUnfit, NeedsUnfit}
use Rattle.st_modes.specs.declared.indexed.Indexed.{Indexed}
use Rattle.st_modes.specs.declared.needs.Marked.{Marked}
use Rattle.st_order.specs.Known.{AreDirections, all_now}
use Rattle.st_modes.specs.inner.Citations.{HasRead, cited_by_relation, called_by_function}
use Rattle.st_modes.specs.inner.Reaching.{Reached}
use Rattle.st_modes.specs.inner.Sifted.{Sifted}
use Rattle.st_modes.specs.inner.Targets.{IsLeastOf, least_first}

-- the function has no clause
abbrev pub HasNoClause : Il → FunDef → Type 0
HasNoClause il fun = clauses_of il fun.name ≡ []

-- all is of this internal language, of which each rule has fewer than 2^32 premises
pub record IsIndexed (x : Indexed) : Type 0 where
  pub directions : AreDirections x.directions
  pub read : HasRead x.directions.il.now.defs x.citations
  pub lacking : Sifted (HasNoClause x.directions.il.now) (funs_in x.directions.il.now.defs)
      (all_now x.lacking)
  pub lacks : (start : List Name)
      → IsLeastOf (Reached start (λ (q : Name). called_by_function q x.directions.il.now.defs))
      (map (λ (f : FunDef). f.name) (all_now x.lacking)) (least_first x.lacks.entries start)
  pub few : All (λ (r : RuleDef). length r.premises < 2 ^ 32) (rules_in x.directions.il.now.defs)

-- the mark by the first function without clauses that the relation of this name needs, or none
abbrev pub LacksFunction : Il → Name → Option Unfit → Type 0
LacksFunction il name None = All (λ fun. LacksClauses il name fun → ⊥) (funs_in il.defs)
LacksFunction il name (Some mark) =
    (fun : FunDef) × IsFirst (LacksClauses il name) (funs_in il.defs) fun
    × (mark ≡ unfit.U3 fun.name)

-- these are the relations with marks of their own, and for the names that lead to some of them
-- stands the number of the first one
pub record AreMarked (il : Il) (m : Marked) : Type 0 where
  pub unfit : Sifted (IsUnfit il) (relations il) (all_now m.unfit)
  pub firsts : (start : List Name)
      → IsLeastOf (Reached start (λ (q : Name). cited_by_relation q il.defs))
      (map (λ (r : RelationDef). r.name) (all_now m.unfit)) (least_first m.firsts.entries start)

-- the name of a relation is one of these, and not this one
abbrev pub is_other_in : List Name → Name → RelationDef → Bool
is_other_in names own relation = has_name names relation.name && not (bytes_eq own relation.name)

-- the mark by the first other relation with a mark of its own that the relation needs, or none
abbrev pub NeedsMarked : Il → RelationDef → Option Unfit → Type 0
NeedsMarked il relation None = All (λ other. NeedsUnfit il relation other → ⊥) (relations il)
NeedsMarked il relation (Some mark) =
    (other : RelationDef) × IsFirst (NeedsUnfit il relation) (relations il) other
    × (mark ≡ unfit.U4 other.name)
