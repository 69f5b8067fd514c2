-- What holds of each definition of a source holds of them with their fragments joined.
use Rattle.std.proofs.Common.{ℕ, Bool, true, false, List, [], ◌∷◌, ◌++◌, map}
use Rattle.std.specs.Prelude.{if◌then◌else◌, Some, None}
use Rattle.std.specs.List.{AllByRecursion, list_any}
use Rattle.st_el.specs.declared.definition.Body.{Body}
use Rattle.st_el.specs.declared.definition.Def.{Def}
use Rattle.st_el.specs.declared.definition.DefNode.{DefNode}
use Rattle.st_el.specs.declared.definition.DefNode.TheVariants.{Syntax, Var, Relation, Rule, Fun, Clause}
use Rattle.st_el.specs.declared.definition.Hint.{Hint}
use Rattle.st_elab_typed.proofs.Members.{Each-append}
use Rattle.st_el.specs.Erasure.{is_fragment, alternatives, joined as joined_body, joined_node, joined_at, joined_behind}

module _ (Q : List Hint → DefNode → Type 0)
    (join : (hints : List Hint) (name piece : List ℕ) (b : Body) (behind : List Def) → Q hints (Syntax name (Some piece) b) → AllByRecursion (λ (def : Def). Q def.hints def.node) behind
    → Q hints (Syntax name None (joined_body b (alternatives name behind)))) where
  abbrev Of : Def → Type 0
  Of def = Q def.hints def.node

  fragment : (def : Def) (b : Bool) (name : List ℕ) (body : Body) → Q def.hints (Syntax name None body)
      → AllByRecursion Of (map (λ node. record def { node = node }) (if b then [] else Syntax name None body ∷ []))
  fragment def true name body h = tt
  fragment def false name body h = (h, tt)

  at_node : (before : List Def) (def : Def) (node : DefNode) (behind : List Def) → Q def.hints node → AllByRecursion Of behind
      → AllByRecursion Of (map (λ node. record def { node = node }) (joined_node before node behind))
  at_node before def (Syntax name None b) behind h k = (h, tt)
  at_node before def (Syntax name (Some piece) b) behind h k =
      fragment def (list_any (is_fragment name) before) name (joined_body b (alternatives name behind)) (join def.hints name piece b behind h k)
  at_node before def (Var name t) behind h k = (h, tt)
  at_node before def (Relation name n) behind h k = (h, tt)
  at_node before def (Rule r name e ps) behind h k = (h, tt)
  at_node before def (Fun name ts t) behind h k = (h, tt)
  at_node before def (Clause name as' e ps) behind h k = (h, tt)

  pub joined_each : (before ds : List Def) → AllByRecursion Of ds → AllByRecursion Of (joined_behind before ds)
  joined_each before [] h = tt
  joined_each before (def ∷ ds) h =
      Each-append Of (joined_at before def ds) (joined_behind (before ++ def ∷ []) ds) (at_node before def def.node ds h.0 h.1) (joined_each (before ++ def ∷ []) ds h.1)
