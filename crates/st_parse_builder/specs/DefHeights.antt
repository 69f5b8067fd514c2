-- The heights of premises and definitions. A count and a definition add nothing.
use Rattle.std.specs.Prelude.{ℕ, ◌+◌, max, List, map}
use Rattle.st_el.specs.declared.expression.Count.{Count, fold-Count}
use Rattle.st_el.specs.declared.ty.Typ.{Typ}
use Rattle.st_el.specs.declared.definition.Prem.{Prem, Prem-F, fold-Prem}
use Rattle.st_el.specs.declared.definition.PremNode.TheOpen.{PremNode-F}
use Rattle.st_el.specs.declared.definition.Body.{Body}
use Rattle.st_el.specs.declared.definition.Body.TheVariants as body
use Rattle.st_el.specs.declared.definition.Def.{Def}
use Rattle.st_el.specs.declared.definition.DefNode.{DefNode}
use Rattle.st_el.specs.declared.definition.DefNode.TheVariants as def
use Rattle.st_parse_builder.specs.Heights.{highest, height_count_at, height_node_at, height_seg_at, height_exp_at, height, typ_height, notation_height}

-- the height of the expression in a count
abbrev pub count_height : Count → ℕ
count_height = fold-Count ℕ ℕ ℕ ℕ height_count_at height_node_at height_seg_at height_exp_at

-- the height of the highest part of a premise: an expression, or a premise that is iterated and
-- its count
abbrev pub prem_node_height_at : PremNode-F ℕ ℕ → ℕ
prem_node_height_at (PremNode-F.If e) = height e
prem_node_height_at (PremNode-F.Goal name e) = height e
prem_node_height_at PremNode-F.Otherwise = 0
prem_node_height_at (PremNode-F.Each p c) = max p (count_height c)

-- A premise is one higher than the highest part of it.
abbrev pub prem_height_at : Prem-F ℕ ℕ → ℕ
prem_height_at p = p.node + 1

-- the height of a premise
abbrev pub prem_height : Prem → ℕ
prem_height = fold-Prem ℕ ℕ prem_node_height_at prem_height_at

-- the height of the type of a field
abbrev pub field_type_height : List ℕ × Typ → ℕ
field_type_height f = typ_height f.1

-- the height of the highest type or notation that a syntax is defined by
abbrev pub body_height : Body → ℕ
body_height (body.Alias t) = typ_height t
body_height (body.Cases before ns after) = highest (map notation_height ns)
body_height (body.Fields fs) = highest (map field_type_height fs)

-- the height of the highest tree of a definition
abbrev pub def_node_height : DefNode → ℕ
def_node_height (def.Syntax name fragment b) = body_height b
def_node_height (def.Var name t) = typ_height t
def_node_height (def.Relation name n) = notation_height n
def_node_height (def.Rule relation name e ps) = max (height e) (highest (map prem_height ps))
def_node_height (def.Fun name ts t) = max (highest (map typ_height ts)) (typ_height t)
def_node_height (def.Clause name es e ps) =
    max (highest (map height es)) (max (height e) (highest (map prem_height ps)))

-- the height of a definition
abbrev pub def_height : Def → ℕ
def_height d = def_node_height d.node
