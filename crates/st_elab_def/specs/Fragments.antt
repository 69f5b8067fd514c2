-- Fragments: whether their dots suit their places, and which definitions stand for them.
use Rattle.std.specs.Prelude.{ℕ, List, [], map, filter, Bool, true, false, not, ◌&&◌, Option, Some, None}
use Rattle.std.specs.List.{list_any}
use Rattle.st_el.specs.Erasure.{is_fragment, joined_behind}
use Rattle.st_el.specs.declared.definition.Body.{Body}
use Rattle.st_el.specs.declared.definition.Body.TheVariants.{Cases}
use Rattle.st_el.specs.declared.definition.Def.{Def}
use Rattle.st_el.specs.declared.definition.DefNode.{DefNode}
use Rattle.st_el.specs.declared.definition.DefNode.TheVariants.{Syntax}
use Rattle.st_elab_def.specs.Definitions.{Definition, number_of, definitions}

-- ---- dots

-- `...` stands before the alternatives
abbrev pub begins : Body → Bool
begins (Cases before cases after) = before
begins body = false

-- `...` stands behind the alternatives
abbrev pub ends : Body → Bool
ends (Cases before cases after) = after
ends body = false

-- The dots suit a body with fragments of its syntax before it, or behind it, or both:
-- the first ends in `...`, each later one begins with it, the last does not end in it,
-- and one alone has none.
abbrev pub dots_suit : (before behind : Bool) → Body → Bool
dots_suit false false body = not (begins body) && not (ends body)
dots_suit false true body = ends body
dots_suit true true body = begins body
dots_suit true false body = begins body && not (ends body)

-- one of these definitions is a fragment of the syntax of this name
abbrev pub has_fragment : List ℕ → List Def → Bool
has_fragment name defs = list_any (is_fragment name) defs

-- the dots of a syntax suit its place
abbrev pub joins : Definition → List ℕ → Option (List ℕ) → Body → Bool
joins d name None body = dots_suit false false body
joins d name (Some fragment) body =
    dots_suit (has_fragment name d.before) (has_fragment name d.behind) body

-- ---- which definitions stand for them

-- the definitions of a source, with the fragments of each syntax joined at the first one
abbrev pub joined : List Def → List Def
joined defs = joined_behind [] defs

-- what is defined is a fragment, and one of its syntax stands before it
abbrev pub is_later_at : Definition → DefNode → Bool
is_later_at d (Syntax name (Some fragment) body) = has_fragment name d.before
is_later_at d node = false

-- the definition is a fragment, and not the first of its syntax
abbrev pub is_later : Definition → Bool
is_later d = is_later_at d d.def.node

-- the numbers of the definitions that are no later fragments
abbrev pub sources_of : List Def → List ℕ
sources_of defs = map number_of (filter (λ (d : Definition). not (is_later d)) (definitions defs))
