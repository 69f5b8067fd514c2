-- What is plain stays as it is when it is made plain again: types, notations and hints.
use Rattle.std.proofs.Common.{rules, ◌≡◌, refl, sym, ◌∙◌, ap, subst, List, [], ◌∷◌, map}
use Rattle.std.specs.List.{AllByRecursion}
use Rattle.st_num.specs.declared.token.Token.{Token}
use Rattle.st_el.specs.declared.definition.Hint.{Hint}
use Rattle.st_el.specs.declared.ty.Typ.{Typ, Typ-F, roll-Typ, the_lemmas}
use Rattle.st_el.specs.declared.ty.TypNode.{TypNode, roll-TypNode}
use Rattle.st_el.specs.declared.ty.TypNode.TheOpen.{TypNode-F}
use Rattle.st_el.specs.declared.ty.TypNode.TheVariants as node
use Rattle.st_el.specs.declared.notation.Notation.{Notation, Notation-F, roll-Notation}
use Rattle.st_el.specs.declared.notation.Notation.{the_lemmas as notation_lemmas}
use Rattle.st_el.specs.declared.notation.NotNode.{NotNode, roll-NotNode}
use Rattle.st_el.specs.declared.notation.NotNode.TheOpen.{NotNode-F}
use Rattle.st_el.specs.declared.notation.NotNode.TheVariants as not_node
use Rattle.st_el.specs.Plain.{nowhere, plain_typ, plain_typ_node, plain_notation, plain_not_node}
use Rattle.st_el.proofs.TypInduction.{TypParts, typ_induction, plain-Star, plain-Quest, plain-Tuple}
use Rattle.st_el.proofs.NotationInduction.{NotationParts, notation_induction, plain-Hole, plain-Seq, plain-Infix, plain-Bracket}
use Rattle.st_el.specs.Erasure.{plain_token, plain_hint}

-- ---- types

abbrev Twice : Typ → Type 0
Twice t = plain_typ (plain_typ t) ≡ plain_typ t

abbrev NodeTwice : TypNode → Type 0
NodeTwice k = plain_typ_node (plain_typ_node k) ≡ plain_typ_node k

all_twice : (ts : List Typ) → AllByRecursion Twice ts → map plain_typ (map plain_typ ts) ≡ map plain_typ ts
all_twice [] h = refl
all_twice (t ∷ ts) h = λ i. h.0 i ∷ all_twice ts h.1 i

node_twice : (x : TypNode-F TypNode Typ) → TypParts Twice x → NodeTwice (roll-TypNode x)
node_twice TypNode-F.Bool h = search (rules, the_lemmas)
node_twice TypNode-F.Nat h = search (rules, the_lemmas)
node_twice TypNode-F.Int h = search (rules, the_lemmas)
node_twice TypNode-F.Text h = search (rules, the_lemmas)
node_twice (TypNode-F.Name name) h = search (rules, the_lemmas)
node_twice (TypNode-F.Star t) h =
    subst NodeTwice (sym (node.rolls-Star t)) (ap plain_typ_node (plain-Star t) ∙ plain-Star (plain_typ t) ∙ ap node.Star h ∙ sym (plain-Star t))
node_twice (TypNode-F.Quest t) h =
    subst NodeTwice (sym (node.rolls-Quest t)) (ap plain_typ_node (plain-Quest t) ∙ plain-Quest (plain_typ t) ∙ ap node.Quest h ∙ sym (plain-Quest t))
node_twice (TypNode-F.Tuple ts) h =
    subst NodeTwice (sym (node.rolls-Tuple ts)) (ap plain_typ_node (plain-Tuple ts) ∙ plain-Tuple (map plain_typ ts) ∙ ap node.Tuple (all_twice ts h) ∙ sym (plain-Tuple ts))

pub plain-roll : (x : Typ-F TypNode Typ) → plain_typ (roll-Typ x) ≡ roll-Typ (record { at = nowhere; node = plain_typ_node x.node })
plain-roll x = search (rules, the_lemmas)

level_twice : (x : Typ-F TypNode Typ) → NodeTwice x.node → Twice (roll-Typ x)
level_twice x h =
    ap plain_typ (plain-roll x) ∙ plain-roll (record { at = nowhere; node = plain_typ_node x.node })
    ∙ ap (λ k. roll-Typ (record { at = nowhere; node = k })) h ∙ sym (plain-roll x)

pub plain_typ-twice : (t : Typ) → plain_typ (plain_typ t) ≡ plain_typ t
plain_typ-twice = typ_induction NodeTwice Twice node_twice level_twice

pub plain_typs-twice : (ts : List Typ) → map plain_typ (map plain_typ ts) ≡ map plain_typ ts
plain_typs-twice [] = refl
plain_typs-twice (t ∷ ts) = λ i. plain_typ-twice t i ∷ plain_typs-twice ts i

-- ---- notations

abbrev NotTwice : Notation → Type 0
NotTwice n = plain_notation (plain_notation n) ≡ plain_notation n

abbrev NotNodeTwice : NotNode → Type 0
NotNodeTwice k = plain_not_node (plain_not_node k) ≡ plain_not_node k

all_not_twice : (ns : List Notation) → AllByRecursion NotTwice ns → map plain_notation (map plain_notation ns) ≡ map plain_notation ns
all_not_twice [] h = refl
all_not_twice (n ∷ ns) h = λ i. h.0 i ∷ all_not_twice ns h.1 i

not_node_twice : (x : NotNode-F NotNode Notation) → NotationParts NotTwice x → NotNodeTwice (roll-NotNode x)
not_node_twice (NotNode-F.Atom name) h = search (rules, notation_lemmas)
not_node_twice (NotNode-F.Hole typ) h =
    subst NotNodeTwice (sym (not_node.rolls-Hole typ)) (ap plain_not_node (plain-Hole typ) ∙ plain-Hole (plain_typ typ) ∙ ap not_node.Hole (plain_typ-twice typ) ∙ sym (plain-Hole typ))
not_node_twice (NotNode-F.Seq ns) h =
    subst NotNodeTwice (sym (not_node.rolls-Seq ns)) (ap plain_not_node (plain-Seq ns) ∙ plain-Seq (map plain_notation ns) ∙ ap not_node.Seq (all_not_twice ns h) ∙ sym (plain-Seq ns))
not_node_twice (NotNode-F.Infix left sign right) h =
    let parts : not_node.Infix (plain_notation (plain_notation left)) sign (plain_notation (plain_notation right)) ≡ not_node.Infix (plain_notation left) sign (plain_notation right) =
    λ i. not_node.Infix (h.0 i) sign (h.1 i) in
    subst NotNodeTwice (sym (not_node.rolls-Infix left sign right))
    (ap plain_not_node (plain-Infix left sign right) ∙ plain-Infix (plain_notation left) sign (plain_notation right) ∙ parts ∙ sym (plain-Infix left sign right))
not_node_twice (NotNode-F.Bracket opening inside) h =
    subst NotNodeTwice (sym (not_node.rolls-Bracket opening inside))
    (ap plain_not_node (plain-Bracket opening inside) ∙ plain-Bracket opening (plain_notation inside) ∙ ap (not_node.Bracket opening) h ∙ sym (plain-Bracket opening inside))

pub plain_not-roll : (x : Notation-F NotNode Notation) → plain_notation (roll-Notation x) ≡ roll-Notation (record { at = nowhere; node = plain_not_node x.node })
plain_not-roll x = search (rules, notation_lemmas)

not_level_twice : (x : Notation-F NotNode Notation) → NotNodeTwice x.node → NotTwice (roll-Notation x)
not_level_twice x h =
    ap plain_notation (plain_not-roll x) ∙ plain_not-roll (record { at = nowhere; node = plain_not_node x.node })
    ∙ ap (λ k. roll-Notation (record { at = nowhere; node = k })) h ∙ sym (plain_not-roll x)

pub plain_notation-twice : (n : Notation) → plain_notation (plain_notation n) ≡ plain_notation n
plain_notation-twice = notation_induction NotNodeTwice NotTwice not_node_twice not_level_twice

-- ---- hints

plain_tokens-twice : (tokens : List Token) → map plain_token (map plain_token tokens) ≡ map plain_token tokens
plain_tokens-twice [] = refl
plain_tokens-twice (token ∷ tokens) = λ i. plain_token token ∷ plain_tokens-twice tokens i

pub plain_hints-twice : (hints : List Hint) → map plain_hint (map plain_hint hints) ≡ map plain_hint hints
plain_hints-twice [] = refl
plain_hints-twice (hint ∷ hints) = λ i. record { name = hint.name; words = plain_tokens-twice hint.words i } ∷ plain_hints-twice hints i
