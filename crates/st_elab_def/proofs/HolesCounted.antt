-- A notation's template has as many holes as the notation has types.
use Rattle.std.proofs.Common.{rules, ◌≡◌, refl, sym, ap, ap₂, ◌∙◌, subst, ℕ, ◌+◌, List, [], ◌∷◌, ◌++◌, map, length, arith}
use Rattle.std.specs.Prelude.{flat_map, sum}
use Rattle.std.specs.List.{AllByRecursion, fold}
use Rattle.std.proofs.lemmas.List.{length-append}
use Rattle.st_num.specs.declared.mark.Mark.{Mark}
use Rattle.st_el.specs.declared.ty.Typ.{Typ}
use Rattle.st_el.specs.declared.notation.Notation.{Notation, Notation-F, roll-Notation, the_lemmas}
use Rattle.st_el.specs.declared.notation.NotNode.{NotNode, roll-NotNode, fold-NotNode}
use Rattle.st_el.specs.declared.notation.NotNode.TheOpen.{NotNode-F}
use Rattle.st_el.specs.declared.notation.NotNode.TheVariants as node
use Rattle.st_el.proofs.NotationInduction.{NotationParts, notation_induction}
use Rattle.st_il.specs.declared.template.Template.{Template, the_lemmas as template_lemmas}
use Rattle.st_il.specs.declared.template.Template.TheVariants as template
use Rattle.st_il.specs.Template.{holes}
use Rattle.st_elab_sig.specs.Signatures.{template_at, template_of, holes_at, holes_of}

abbrev template_in : NotNode → Template
template_in = fold-NotNode Template Template template_at (λ notation. notation.node)

abbrev types_in : NotNode → List Typ
types_in = fold-NotNode (List Typ) (List Typ) holes_at (λ notation. notation.node)

abbrev Counted : Notation → Type 0
Counted n = holes (template_of n) ≡ length (holes_of n)

abbrev NodeCounted : NotNode → Type 0
NodeCounted k = holes (template_in k) ≡ length (types_in k)

template-Atom : (name : List ℕ) → template_in (node.Atom name) ≡ template.Atom name
template-Atom name = search (rules, the_lemmas)

template-Hole : (typ : Typ) → template_in (node.Hole typ) ≡ template.Hole
template-Hole typ = search (rules, the_lemmas)

template-Seq : (ns : List Notation) → template_in (node.Seq ns) ≡ template.Seq (map template_of ns)
template-Seq ns = search (rules, the_lemmas)

template-Infix : (left : Notation) (sign : Mark) (right : Notation) → template_in (node.Infix left sign right) ≡ template.Infix (template_of left) sign (template_of right)
template-Infix left sign right = search (rules, the_lemmas)

template-Bracket : (opening : Mark) (inside : Notation) → template_in (node.Bracket opening inside) ≡ template.Bracket opening (template_of inside)
template-Bracket opening inside = search (rules, the_lemmas)

types-Atom : (name : List ℕ) → types_in (node.Atom name) ≡ []
types-Atom name = search (rules, the_lemmas)

types-Hole : (typ : Typ) → types_in (node.Hole typ) ≡ typ ∷ []
types-Hole typ = search (rules, the_lemmas)

types-Seq : (ns : List Notation) → types_in (node.Seq ns) ≡ flat_map (λ (part : List Typ). part) (map holes_of ns)
types-Seq ns = search (rules, the_lemmas)

types-Infix : (left : Notation) (sign : Mark) (right : Notation) → types_in (node.Infix left sign right) ≡ holes_of left ++ holes_of right
types-Infix left sign right = search (rules, the_lemmas)

types-Bracket : (opening : Mark) (inside : Notation) → types_in (node.Bracket opening inside) ≡ holes_of inside
types-Bracket opening inside = search (rules, the_lemmas)

holes-Atom : (name : List ℕ) → holes (template.Atom name) ≡ 0
holes-Atom name = search (rules, template_lemmas)

holes-Hole : holes template.Hole ≡ 1
holes-Hole = search (rules, template_lemmas)

holes-Seq : (ts : List Template) → holes (template.Seq ts) ≡ sum (map holes ts)
holes-Seq ts = search (rules, template_lemmas)

holes-Infix : (left : Template) (sign : Mark) (right : Template) → holes (template.Infix left sign right) ≡ holes left + holes right
holes-Infix left sign right = search (rules, template_lemmas)

holes-Bracket : (opening : Mark) (inside : Template) → holes (template.Bracket opening inside) ≡ holes inside
holes-Bracket opening inside = search (rules, template_lemmas)

sum-from : (a : ℕ) (xs : List ℕ) → fold ◌+◌ a xs ≡ a + sum xs
sum-from a [] = omega arith
sum-from a (x ∷ xs) = let h = sum-from (a + x) xs in let k = sum-from (0 + x) xs in omega (arith, h, k)

sum-cons : (x : ℕ) (xs : List ℕ) → sum (x ∷ xs) ≡ x + sum xs
sum-cons x xs = let h = sum-from (0 + x) xs in omega (arith, h)

all_counted : (ns : List Notation) → AllByRecursion Counted ns → sum (map holes (map template_of ns)) ≡ length (flat_map (λ (part : List Typ). part) (map holes_of ns))
all_counted [] h = refl
all_counted (n ∷ ns) h =
    sum-cons (holes (template_of n)) (map holes (map template_of ns)) ∙ ap₂ (λ a b. a + b) h.0 (all_counted ns h.1) ∙ sym (length-append (holes_of n) (flat_map (λ (part : List Typ). part) (map holes_of ns)))

level : (k : NotNode) (t : Template) (ts : List Typ) → template_in k ≡ t → types_in k ≡ ts → holes t ≡ length ts → NodeCounted k
level k t ts is are h = ap holes is ∙ h ∙ ap length (sym are)

node_counted : (x : NotNode-F NotNode Notation) → NotationParts Counted x → NodeCounted (roll-NotNode x)
node_counted (NotNode-F.Atom name) h = subst NodeCounted (sym (node.rolls-Atom name)) (level (node.Atom name) _ _ (template-Atom name) (types-Atom name) (holes-Atom name))
node_counted (NotNode-F.Hole typ) h = subst NodeCounted (sym (node.rolls-Hole typ)) (level (node.Hole typ) _ _ (template-Hole typ) (types-Hole typ) holes-Hole)
node_counted (NotNode-F.Seq ns) h =
    subst NodeCounted (sym (node.rolls-Seq ns)) (level (node.Seq ns) _ _ (template-Seq ns) (types-Seq ns) (holes-Seq (map template_of ns) ∙ all_counted ns h))
node_counted (NotNode-F.Infix left sign right) h =
    subst NodeCounted (sym (node.rolls-Infix left sign right))
    (level (node.Infix left sign right) _ _ (template-Infix left sign right) (types-Infix left sign right)
    (holes-Infix (template_of left) sign (template_of right) ∙ ap₂ (λ a b. a + b) h.0 h.1 ∙ sym (length-append (holes_of left) (holes_of right))))
node_counted (NotNode-F.Bracket opening inside) h =
    subst NodeCounted (sym (node.rolls-Bracket opening inside))
    (level (node.Bracket opening inside) _ _ (template-Bracket opening inside) (types-Bracket opening inside) (holes-Bracket opening (template_of inside) ∙ h))

template-roll : (x : Notation-F NotNode Notation) → template_of (roll-Notation x) ≡ template_in x.node
template-roll x = search (rules, the_lemmas)

types-roll : (x : Notation-F NotNode Notation) → holes_of (roll-Notation x) ≡ types_in x.node
types-roll x = search (rules, the_lemmas)

-- the template of a notation has a hole for each type
pub holes_counted : (n : Notation) → holes (template_of n) ≡ length (holes_of n)
holes_counted = notation_induction NodeCounted Counted node_counted (λ x h. ap holes (template-roll x) ∙ h ∙ ap length (sym (types-roll x)))
