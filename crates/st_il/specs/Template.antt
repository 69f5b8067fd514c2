-- Templates, and their tags: the parts of a notation with one space between them.
use Rattle.std.specs.Prelude.{◌≡◌, ◌≢◌, ℕ, ◌+◌, ◌≤◌, max, List, [], ◌∷◌, ◌++◌, sum, flat_map, codes}
use Rattle.std.specs.List.{AllByRecursion}
use Rattle.st_num.specs.Signs.{spelling}
use Rattle.st_num.specs.declared.limit.TheConstants.{HIGHEST_TREE}
use Rattle.st_il.specs.declared.template.Template.{Template, fold-Template}
use Rattle.st_il.specs.declared.template.Template.TheOpen.{Template-F}
use Rattle.st_il.specs.declared.template.TagPart.{TagPart}
use Rattle.st_il.specs.declared.template.TagPart.TheVariants as tag_part
use Rattle.st_il.specs.Height.{highest}
use Rattle.st_il.specs.declared.template.Role.TheVariants.{Other}
use Rattle.st_il.specs.Notation.{role_of, closing, IsAtom, IsNotation}

-- the height of a level whose parts have these heights
abbrev pub template_height_at : Template-F ℕ → ℕ
template_height_at (Template-F.Atom name) = 1
template_height_at Template-F.Hole = 1
template_height_at (Template-F.Seq parts) = 1 + highest parts
template_height_at (Template-F.Infix left sign right) = 1 + max left right
template_height_at (Template-F.Bracket opening inside) = 1 + inside

-- the height of a template: 1 without parts, else 1 more than its highest part
abbrev pub template_height : Template → ℕ
template_height = fold-Template ℕ template_height_at

-- a notation with its types as holes, which is not too high
pub record IsTemplate (t : Template) : Type 0 where
  pub notation : IsNotation 7 t
  pub height : template_height t ≤ HIGHEST_TREE

-- ---- holes

-- how many holes a level has, by how many its parts have
abbrev pub holes_at : Template-F ℕ → ℕ
holes_at (Template-F.Atom name) = 0
holes_at Template-F.Hole = 1
holes_at (Template-F.Seq parts) = sum parts
holes_at (Template-F.Infix left sign right) = left + right
holes_at (Template-F.Bracket opening inside) = inside

-- how many holes a template has
abbrev pub holes : Template → ℕ
holes = fold-Template ℕ holes_at

-- ---- tags

-- the parts of a level whose parts have these parts
abbrev pub tag_parts_at : Template-F (List TagPart) → List TagPart
tag_parts_at (Template-F.Atom name) = tag_part.Atom name ∷ []
tag_parts_at Template-F.Hole = tag_part.Hole ∷ []
tag_parts_at (Template-F.Seq parts) = flat_map (λ part. part) parts
tag_parts_at (Template-F.Infix left sign right) = left ++ tag_part.Sign sign ∷ right
tag_parts_at (Template-F.Bracket opening inside) =
    tag_part.Sign opening ∷ (inside ++ tag_part.Sign (closing opening) ∷ [])

-- the parts of a template, in order
abbrev pub tag_parts_of : Template → List TagPart
tag_parts_of = fold-Template (List TagPart) tag_parts_at

-- how a part of a tag is written; a hole is `%`
abbrev pub written : TagPart → List ℕ
written tag_part.Hole = codes "%"
written (tag_part.Atom name) = name
written (tag_part.Sign sign) = spelling sign

-- the part may stand in a tag
abbrev pub IsTagPart : TagPart → Type 0
IsTagPart tag_part.Hole = Unit {0}
IsTagPart (tag_part.Atom name) = IsAtom name
IsTagPart (tag_part.Sign sign) = role_of sign ≢ Other

-- parts with one space between them
abbrev pub spaced : List TagPart → List ℕ
spaced [] = []
spaced (w ∷ []) = written w
spaced (w ∷ v ∷ ws) = written w ++ 32 ∷ spaced (v ∷ ws)

-- the parts, one or more, are those of this tag
pub record AreTagParts (ws : List TagPart) (tag : List ℕ) : Type 0 where
  pub some : ws ≢ []
  pub tag_parts : AllByRecursion IsTagPart ws
  pub spelled : spaced ws ≡ tag

-- the text of a template, with `%` for each hole and one space between all parts
abbrev pub tag_of : Template → List ℕ
tag_of t = spaced (tag_parts_of t)

-- the template has this tag
pub record HasTag (t : Template) (tag : List ℕ) : Type 0 where
  pub template : IsTemplate t
  pub spelled : tag_of t ≡ tag

-- a tag has at most one template
abbrev pub HasOneTemplate : List ℕ → Type 0
HasOneTemplate tag = (a b : Template) → HasTag a tag → HasTag b tag → a ≡ b
