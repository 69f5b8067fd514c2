-- The parts, heights and levels of the forms of templates.
use Rattle.std.proofs.Common.{rules, ◌≡◌, refl, sym, ◌∙◌, ap, ℕ, ◌+◌, max, List, [], ◌∷◌, ◌++◌, map, append_assoc}
use Rattle.std.specs.Prelude.{flat_map}
use Rattle.st_num.specs.declared.mark.Mark.{Mark}
use Rattle.st_il.specs.declared.template.Template.{Template, the_lemmas}
use Rattle.st_il.specs.declared.template.Template.TheVariants as template
use Rattle.st_il.specs.declared.template.TagPart.{TagPart}
use Rattle.st_il.specs.declared.template.TagPart.TheVariants as tag_part
use Rattle.st_il.specs.Height.{highest}
use Rattle.st_il.specs.Notation.{closing}
use Rattle.st_il.specs.Template.{tag_parts_of, template_height}
use Rattle.st_il.specs.Reading.{level_at, level_of, sign_level}

-- the parts of some templates, one behind another
abbrev pub tag_parts_all : List Template → List TagPart
tag_parts_all [] = []
tag_parts_all (t ∷ ts) = tag_parts_of t ++ tag_parts_all ts

tag_parts_all-map : (ts : List Template) → flat_map (λ (part : List TagPart). part) (map tag_parts_of ts) ≡ tag_parts_all ts
tag_parts_all-map [] = refl
tag_parts_all-map (t ∷ ts) = ap (λ ws. tag_parts_of t ++ ws) (tag_parts_all-map ts)

pub tag_parts_all-append : (ts us : List Template) → tag_parts_all (ts ++ us) ≡ tag_parts_all ts ++ tag_parts_all us
tag_parts_all-append [] us = refl
tag_parts_all-append (t ∷ ts) us = ap (λ ws. tag_parts_of t ++ ws) (tag_parts_all-append ts us) ∙ sym (append_assoc (tag_parts_of t) (tag_parts_all ts) (tag_parts_all us))

pub tag_parts-Atom : (name : List ℕ) → tag_parts_of (template.Atom name) ≡ tag_part.Atom name ∷ []
tag_parts-Atom name = search (rules, the_lemmas)

pub tag_parts-Hole : tag_parts_of template.Hole ≡ tag_part.Hole ∷ []
tag_parts-Hole = search (rules, the_lemmas)

tag_parts-Seq-map : (ts : List Template) → tag_parts_of (template.Seq ts) ≡ flat_map (λ (part : List TagPart). part) (map tag_parts_of ts)
tag_parts-Seq-map ts = search (rules, the_lemmas)

pub tag_parts-Seq : (ts : List Template) → tag_parts_of (template.Seq ts) ≡ tag_parts_all ts
tag_parts-Seq ts = tag_parts-Seq-map ts ∙ tag_parts_all-map ts

pub tag_parts-Infix : (left : Template) (sign : Mark) (right : Template) → tag_parts_of (template.Infix left sign right) ≡ tag_parts_of left ++ tag_part.Sign sign ∷ tag_parts_of right
tag_parts-Infix left sign right = search (rules, the_lemmas)

pub tag_parts-Bracket : (opening : Mark) (inside : Template) → tag_parts_of (template.Bracket opening inside) ≡ tag_part.Sign opening ∷ (tag_parts_of inside ++ tag_part.Sign (closing opening) ∷ [])
tag_parts-Bracket opening inside = search (rules, the_lemmas)

pub height-Atom : (name : List ℕ) → template_height (template.Atom name) ≡ 1
height-Atom name = search (rules, the_lemmas)

pub height-Hole : template_height template.Hole ≡ 1
height-Hole = search (rules, the_lemmas)

pub height-Seq : (ts : List Template) → template_height (template.Seq ts) ≡ 1 + highest (map template_height ts)
height-Seq ts = search (rules, the_lemmas)

pub height-Infix : (left : Template) (sign : Mark) (right : Template) → template_height (template.Infix left sign right) ≡ 1 + max (template_height left) (template_height right)
height-Infix left sign right = search (rules, the_lemmas)

pub height-Bracket : (opening : Mark) (inside : Template) → template_height (template.Bracket opening inside) ≡ 1 + template_height inside
height-Bracket opening inside = search (rules, the_lemmas)

pub level-Atom : (name : List ℕ) → level_of (template.Atom name) ≡ 15
level-Atom name = ap level_at (template.outs-Atom name)

pub level-Hole : level_of template.Hole ≡ 15
level-Hole = ap level_at template.outs-Hole

pub level-Seq : (ts : List Template) → level_of (template.Seq ts) ≡ 14
level-Seq ts = ap level_at (template.outs-Seq ts)

pub level-Infix : (left : Template) (sign : Mark) (right : Template) → level_of (template.Infix left sign right) ≡ sign_level sign
level-Infix left sign right = ap level_at (template.outs-Infix left sign right)

pub level-Bracket : (opening : Mark) (inside : Template) → level_of (template.Bracket opening inside) ≡ 15
level-Bracket opening inside = ap level_at (template.outs-Bracket opening inside)
