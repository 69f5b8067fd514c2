-- The words and the types of the forms of notations.
use Rattle.std.proofs.Common.{rules, ◌≡◌, refl, ◌∙◌, ap, ℕ, List, [], ◌∷◌, ◌++◌, map}
use Rattle.std.specs.Prelude.{flat_map}
use Rattle.st_num.specs.declared.mark.Mark.{Mark}
use Rattle.st_el.specs.declared.ty.Typ.{Typ}
use Rattle.st_el.specs.declared.notation.Notation.{Notation, out-Notation, fold_out-Notation, the_lemmas}
use Rattle.st_el.specs.declared.notation.NotNode.{NotNode, fold-NotNode}
use Rattle.st_el.specs.declared.notation.NotNode.TheVariants as node
use Rattle.st_il.specs.declared.template.Template.{Template}
use Rattle.st_il.specs.declared.template.Template.TheVariants as template
use Rattle.st_il.specs.declared.template.TagPart.TheVariants as tag_part
use Rattle.st_num.specs.declared.mark.Mark.TheVariants.{TickParen, TickBracket, TickBrace}
use Rattle.st_num.specs.Signs.{closing}
use Rattle.st_il.specs.Notation as brackets
use Rattle.st_il.specs.Template.{tag_parts_of}
use Rattle.st_il.proofs.TemplateForms.{tag_parts_all, tag_parts-Atom, tag_parts-Hole, tag_parts-Seq, tag_parts-Infix, tag_parts-Bracket}
use Rattle.st_elab_sig.specs.Signatures.{template_at, template_of, holes_at, holes_of}
use Rattle.st_elab_sig.specs.inner.Words.{words_in}

-- ---- templates

abbrev pub template_in : NotNode → Template
template_in = fold-NotNode Template Template template_at (λ notation. notation.node)

template-is : (n : Notation) (k : NotNode) → (out-Notation n).node ≡ k → template_of n ≡ template_in k
template-is n k e = fold_out-Notation Template Template template_at (λ notation. notation.node) n ∙ ap template_in e

pub template-Atom : (name : List ℕ) → template_in (node.Atom name) ≡ template.Atom name
template-Atom name = search (rules, the_lemmas)

pub template-Hole : (typ : Typ) → template_in (node.Hole typ) ≡ template.Hole
template-Hole typ = search (rules, the_lemmas)

pub template-Seq : (parts : List Notation) → template_in (node.Seq parts) ≡ template.Seq (map template_of parts)
template-Seq parts = search (rules, the_lemmas)

pub template-Infix : (left : Notation) (sign : Mark) (right : Notation) → template_in (node.Infix left sign right) ≡ template.Infix (template_of left) sign (template_of right)
template-Infix left sign right = search (rules, the_lemmas)

pub template-Bracket : (opening : Mark) (inside : Notation) → template_in (node.Bracket opening inside) ≡ template.Bracket opening (template_of inside)
template-Bracket opening inside = search (rules, the_lemmas)

-- ---- words

words_all-map : (parts : List Notation) → tag_parts_all (map template_of parts) ≡ flat_map words_in parts
words_all-map [] = refl
words_all-map (part ∷ parts) = ap (λ ws. words_in part ++ ws) (words_all-map parts)

pub words_in-Atom : (n : Notation) (name : List ℕ) → (out-Notation n).node ≡ node.Atom name → words_in n ≡ tag_part.Atom name ∷ []
words_in-Atom n name e = ap tag_parts_of (template-is n _ e ∙ template-Atom name) ∙ tag_parts-Atom name

pub words_in-Hole : (n : Notation) (typ : Typ) → (out-Notation n).node ≡ node.Hole typ → words_in n ≡ tag_part.Hole ∷ []
words_in-Hole n typ e = ap tag_parts_of (template-is n _ e ∙ template-Hole typ) ∙ tag_parts-Hole

pub words_in-Seq : (n : Notation) (parts : List Notation) → (out-Notation n).node ≡ node.Seq parts → words_in n ≡ flat_map words_in parts
words_in-Seq n parts e = ap tag_parts_of (template-is n _ e ∙ template-Seq parts) ∙ tag_parts-Seq (map template_of parts) ∙ words_all-map parts

pub words_in-Infix : (n left : Notation) (sign : Mark) (right : Notation) → (out-Notation n).node ≡ node.Infix left sign right → words_in n ≡ words_in left ++ tag_part.Sign sign ∷ words_in right
words_in-Infix n left sign right e =
    ap tag_parts_of (template-is n _ e ∙ template-Infix left sign right) ∙ tag_parts-Infix (template_of left) sign (template_of right)

-- the bracket that closes an opening one
closing_same : (sign : Mark) → brackets.closing sign ≡ closing sign
closing_same TickParen = refl
closing_same TickBracket = refl
closing_same TickBrace = refl
closing_same sign = refl

pub words_in-Bracket : (n : Notation) (opening : Mark) (inside : Notation) → (out-Notation n).node ≡ node.Bracket opening inside
    → words_in n ≡ tag_part.Sign opening ∷ (words_in inside ++ tag_part.Sign (closing opening) ∷ [])
words_in-Bracket n opening inside e =
    ap tag_parts_of (template-is n _ e ∙ template-Bracket opening inside) ∙ tag_parts-Bracket opening (template_of inside)
    ∙ ap (λ sign. tag_part.Sign opening ∷ (words_in inside ++ tag_part.Sign sign ∷ [])) (closing_same opening)

-- ---- types

abbrev pub holes_in : NotNode → List Typ
holes_in = fold-NotNode (List Typ) (List Typ) holes_at (λ notation. notation.node)

holes-is : (n : Notation) (k : NotNode) → (out-Notation n).node ≡ k → holes_of n ≡ holes_in k
holes-is n k e = fold_out-Notation (List Typ) (List Typ) holes_at (λ notation. notation.node) n ∙ ap holes_in e

pub flat-map : (parts : List Notation) → flat_map (λ (part : List Typ). part) (map holes_of parts) ≡ flat_map holes_of parts
flat-map [] = refl
flat-map (part ∷ parts) = ap (λ ts. holes_of part ++ ts) (flat-map parts)

pub holes-Seq : (parts : List Notation) → holes_in (node.Seq parts) ≡ flat_map (λ (part : List Typ). part) (map holes_of parts)
holes-Seq parts = search (rules, the_lemmas)

pub holes_of-Seq : (n : Notation) (parts : List Notation) → (out-Notation n).node ≡ node.Seq parts → holes_of n ≡ flat_map holes_of parts
holes_of-Seq n parts e = holes-is n _ e ∙ holes-Seq parts ∙ flat-map parts

pub holes-Infix : (left : Notation) (sign : Mark) (right : Notation) → holes_in (node.Infix left sign right) ≡ holes_of left ++ holes_of right
holes-Infix left sign right = search (rules, the_lemmas)

pub holes_of-Infix : (n left : Notation) (sign : Mark) (right : Notation) → (out-Notation n).node ≡ node.Infix left sign right → holes_of n ≡ holes_of left ++ holes_of right
holes_of-Infix n left sign right e = holes-is n _ e ∙ holes-Infix left sign right
