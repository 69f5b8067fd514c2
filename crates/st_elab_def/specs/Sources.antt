-- The sources in which no iterated premise is an `otherwise`.
use Rattle.std.specs.Prelude.{List, ⊤}
use Rattle.std.specs.List.{AllByRecursion}
use Rattle.st_el.specs.declared.definition.Def.{Def}
use Rattle.st_el.specs.declared.definition.DefNode.{DefNode}
use Rattle.st_el.specs.declared.definition.DefNode.TheVariants.{Rule, Clause}
use Rattle.st_elab_typed.specs.Sources.{RepeatsNoOtherwise}

-- the premises of what is defined repeat no `otherwise`
abbrev pub NodeRepeatsNoOtherwise : DefNode → Type 0
NodeRepeatsNoOtherwise (Rule relation name conclusion premises) =
    AllByRecursion RepeatsNoOtherwise premises
NodeRepeatsNoOtherwise (Clause name args result premises) =
    AllByRecursion RepeatsNoOtherwise premises
NodeRepeatsNoOtherwise node = ⊤

-- No premise of the source repeats an `otherwise`.
abbrev pub RepeatNoOtherwise : List Def → Type 0
RepeatNoOtherwise = AllByRecursion (λ (def : Def). NodeRepeatsNoOtherwise def.node)
