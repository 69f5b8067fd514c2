-- A notation is erased to itself, but for places: the induction over notations.
use Rattle.std.proofs.Common.{rules, ◌≡◌, refl, sym, ◌∙◌, ap, subst, List, [], ◌∷◌, ◌++◌, ℕ, map, append_assoc, append-nil, Option}
use Rattle.std.specs.Prelude.{flat_map, Some, None}
use Rattle.std.specs.List.{AllByRecursion}
use Rattle.std.proofs.lemmas.List.{map-append}
use Rattle.st_num.specs.declared.mark.Mark.{Mark}
use Rattle.st_el.specs.declared.ty.Typ.{Typ}
use Rattle.st_el.specs.declared.notation.Notation.{Notation, Notation-F, roll-Notation, the_lemmas}
use Rattle.st_el.specs.declared.notation.NotNode.{NotNode, roll-NotNode}
use Rattle.st_el.specs.declared.notation.NotNode.TheOpen.{NotNode-F}
use Rattle.st_el.specs.declared.notation.NotNode.TheVariants as node
use Rattle.st_el.specs.Plain.{plain_typ, plain_notation, plain_not_node}
use Rattle.st_el.proofs.NotationInduction.{NotationParts, notation_induction, plain-Atom, plain-Hole, plain-Seq, plain-Infix, plain-Bracket}
use Rattle.st_il.specs.declared.template.Template.{Template}
use Rattle.st_il.specs.declared.template.Template.{the_lemmas as template_lemmas}
use Rattle.st_il.specs.declared.template.Template.TheVariants as template
use Rattle.st_il.specs.declared.template.Template.TheOpen.{Template-F}
use Rattle.st_il.specs.Template.{IsTemplate, tag_of}
use Rattle.st_il.proofs.Tags.{one_template}
use Rattle.st_erase.specs.Notations.{notation, Noted, Note, note_at, note_of, note_parts, behind_note, note_infix, note_by, notation_of}
use Rattle.st_il.specs.Tags.{IsTemplateOf}
use Rattle.st_il.specs.Tags.{template_of as template_for}
use Rattle.st_il.proofs.TagTemplates.{is_template}
use Rattle.st_elab_sig.specs.Types.{ty_of}
use Rattle.st_elab_sig.specs.Signatures.{template_of, holes_of}
use Rattle.st_elab_sig.proofs.TypesErase.{each_type_back}
use Rattle.st_elab_sig.proofs.SignaturesLemmas.{template_in, template-Atom, template-Hole, template-Seq, template-Infix, template-Bracket, holes_in, holes-Seq, holes-Infix}

note-Atom : (name : List ℕ) → note_of (template.Atom name) ≡ note_at (Template-F.Atom name)
note-Atom name = search (rules, template_lemmas)

note-Hole : note_of template.Hole ≡ note_at Template-F.Hole
note-Hole = search (rules, template_lemmas)

note-Seq : (ts : List Template) → note_of (template.Seq ts) ≡ note_at (Template-F.Seq (map note_of ts))
note-Seq ts = search (rules, template_lemmas)

note-Infix : (left : Template) (sign : Mark) (right : Template) → note_of (template.Infix left sign right) ≡ note_at (Template-F.Infix (note_of left) sign (note_of right))
note-Infix left sign right = search (rules, template_lemmas)

note-Bracket : (opening : Mark) (inside : Template) → note_of (template.Bracket opening inside) ≡ note_at (Template-F.Bracket opening (note_of inside))
note-Bracket opening inside = search (rules, template_lemmas)

-- ---- the claim

abbrev noted : {X : Type 0} → X → List Typ → Noted X
noted x ts = record { out = x; rest = ts }

-- from the types of the notation and others behind them, the notation and the others
abbrev Back : Notation → Type 0
Back n = (ts : List Typ) → note_of (template_of n) (map plain_typ (holes_of n) ++ ts) ≡ noted (plain_notation n) ts

abbrev NodeBack : NotNode → Type 0
NodeBack k = (ts : List Typ) → note_of (template_in k) (map plain_typ (holes_in k) ++ ts) ≡ noted (notation (plain_not_node k)) ts

-- ---- the levels

holes-Atom : (name : List ℕ) → holes_in (node.Atom name) ≡ []
holes-Atom name = search (rules, the_lemmas)

holes-Hole : (typ : Typ) → holes_in (node.Hole typ) ≡ typ ∷ []
holes-Hole typ = search (rules, the_lemmas)

holes-Bracket : (opening : Mark) (inside : Notation) → holes_in (node.Bracket opening inside) ≡ holes_of inside
holes-Bracket opening inside = search (rules, the_lemmas)

-- a level, by its template, its types and what it is without places
level : (k l : NotNode) (t : Template) (note : Note) (hs ts : List Typ) → template_in k ≡ t → note_of t ≡ note → holes_in k ≡ hs → plain_not_node k ≡ l
    → note (map plain_typ hs ++ ts) ≡ noted (notation l) ts → note_of (template_in k) (map plain_typ (holes_in k) ++ ts) ≡ noted (notation (plain_not_node k)) ts
level k l t note hs ts is by has plain h =
    ap (λ u. note_of u (map plain_typ (holes_in k) ++ ts)) is
    ∙ ap (λ f. f (map plain_typ (holes_in k) ++ ts)) by
    ∙ ap (λ us. note (map plain_typ us ++ ts)) has
    ∙ h
    ∙ ap (λ m. noted (notation m) ts) (sym plain)

split : (hs others ts : List Typ) → map plain_typ (hs ++ others) ++ ts ≡ map plain_typ hs ++ (map plain_typ others ++ ts)
split hs others ts =
    ap (λ us. us ++ ts) (map-append plain_typ hs others) ∙ append_assoc (map plain_typ hs) (map plain_typ others) ts

atom_back : (name : List ℕ) → NodeBack (node.Atom name)
atom_back name ts = level (node.Atom name) _ _ _ _ ts (template-Atom name) (note-Atom name) (holes-Atom name) (plain-Atom name) refl

hole_back : (typ : Typ) → NodeBack (node.Hole typ)
hole_back typ ts = level (node.Hole typ) _ _ _ _ ts (template-Hole typ) note-Hole (holes-Hole typ) (plain-Hole typ) refl

abbrev others : List Notation → List Typ → Noted (List Notation)
others ns = note_parts (map note_of (map template_of ns))

abbrev holes_all : List Notation → List Typ
holes_all ns = flat_map (λ (part : List Typ). part) (map holes_of ns)

all_back : (ns : List Notation) → AllByRecursion Back ns → (ts : List Typ) → others ns (map plain_typ (holes_all ns) ++ ts) ≡ noted (map plain_notation ns) ts
all_back [] h ts = refl
all_back (n ∷ ns) h ts =
    ap (λ us. behind_note (note_of (template_of n) us) (others ns)) (split (holes_of n) (holes_all ns) ts)
    ∙ ap (λ first. behind_note first (others ns)) (h.0 (map plain_typ (holes_all ns) ++ ts))
    ∙ ap (λ (all : Noted (List Notation)). noted (plain_notation n ∷ all.out) all.rest) (all_back ns h.1 ts)

seq_back : (ns : List Notation) → AllByRecursion Back ns → NodeBack (node.Seq ns)
seq_back ns h ts =
    level (node.Seq ns) _ _ _ _ ts (template-Seq ns) (note-Seq (map template_of ns)) (holes-Seq ns) (plain-Seq ns)
    (ap (λ (all : Noted (List Notation)). noted (notation (node.Seq all.out)) all.rest) (all_back ns h ts))

infix_back : (left : Notation) (sign : Mark) (right : Notation) → Back left → Back right → NodeBack (node.Infix left sign right)
infix_back left sign right h g ts =
    level (node.Infix left sign right) _ _ _ _ ts (template-Infix left sign right) (note-Infix (template_of left) sign (template_of right)) (holes-Infix left sign right) (plain-Infix left sign right)
    (ap (λ us. note_infix (note_of (template_of left) us) sign (note_of (template_of right))) (split (holes_of left) (holes_of right) ts)
    ∙ ap (λ first. note_infix first sign (note_of (template_of right))) (h (map plain_typ (holes_of right) ++ ts))
    ∙ ap (λ (all : Noted Notation). noted (notation (node.Infix (plain_notation left) sign all.out)) all.rest) (g ts))

bracket_back : (opening : Mark) (inside : Notation) → Back inside → NodeBack (node.Bracket opening inside)
bracket_back opening inside h ts =
    level (node.Bracket opening inside) _ _ _ _ ts (template-Bracket opening inside) (note-Bracket opening (template_of inside)) (holes-Bracket opening inside) (plain-Bracket opening inside)
    (ap (λ (all : Noted Notation). noted (notation (node.Bracket opening all.out)) all.rest) (h ts))

node_back : (x : NotNode-F NotNode Notation) → NotationParts Back x → NodeBack (roll-NotNode x)
node_back (NotNode-F.Atom name) h = subst NodeBack (sym (node.rolls-Atom name)) (atom_back name)
node_back (NotNode-F.Hole typ) h = subst NodeBack (sym (node.rolls-Hole typ)) (hole_back typ)
node_back (NotNode-F.Seq ns) h = subst NodeBack (sym (node.rolls-Seq ns)) (seq_back ns h)
node_back (NotNode-F.Infix left sign right) h = subst NodeBack (sym (node.rolls-Infix left sign right)) (infix_back left sign right h.0 h.1)
node_back (NotNode-F.Bracket opening inside) h = subst NodeBack (sym (node.rolls-Bracket opening inside)) (bracket_back opening inside h)

template-roll : (x : Notation-F NotNode Notation) → template_of (roll-Notation x) ≡ template_in x.node
template-roll x = search (rules, the_lemmas)

holes-roll : (x : Notation-F NotNode Notation) → holes_of (roll-Notation x) ≡ holes_in x.node
holes-roll x = search (rules, the_lemmas)

plain-roll : (x : Notation-F NotNode Notation) → plain_notation (roll-Notation x) ≡ notation (plain_not_node x.node)
plain-roll x = search (rules, the_lemmas)

level_back : (x : Notation-F NotNode Notation) → NodeBack x.node → Back (roll-Notation x)
level_back x h ts =
    ap (λ t. note_of t (map plain_typ (holes_of (roll-Notation x)) ++ ts)) (template-roll x)
    ∙ ap (λ hs. note_of (template_in x.node) (map plain_typ hs ++ ts)) (holes-roll x)
    ∙ h ts
    ∙ ap (λ n. noted n ts) (sym (plain-roll x))

pub notation_back : (n : Notation) → Back n
notation_back = notation_induction NodeBack Back node_back level_back

-- the template that a tag leads to is the notation's
template-same : (t : Template) → IsTemplate t → (o : Option Template) → IsTemplateOf (tag_of t) o → o ≡ Some t
template-same t h None never = absurd (never t (record { template = h; spelled = refl }))
template-same t h (Some u) has = ap Some (one_template (tag_of t) u t has (record { template = h; spelled = refl }))

pub signature_back : (n : Notation) → IsTemplate (template_of n) → notation_of (tag_of (template_of n)) (map ty_of (holes_of n)) ≡ plain_notation n
signature_back n h =
    let tag = tag_of (template_of n) in
    ap (λ ts. note_by (template_for tag) ts) (each_type_back (holes_of n))
    ∙ ap (λ o. note_by o (map plain_typ (holes_of n))) (template-same (template_of n) h (template_for tag) (is_template tag))
    ∙ ap (λ ts. (note_of (template_of n) ts).out) (sym (append-nil (map plain_typ (holes_of n))))
    ∙ ap (λ (all : Noted Notation). all.out) (notation_back n [])
