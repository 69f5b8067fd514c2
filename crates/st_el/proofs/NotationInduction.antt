-- Induction over notations: what holds of a notation where it holds of its parts holds of each.
use Rattle.std.proofs.Common.{rules, ◌≡◌, ap, subst, List, [], ◌∷◌, ℕ, map}
use Rattle.std.specs.List.{AllByRecursion}
use Rattle.st_num.specs.declared.mark.Mark.{Mark}
use Rattle.st_el.specs.declared.ty.Typ.{Typ}
use Rattle.st_el.specs.declared.notation.Notation.{Notation, Notation-F, ind-Notation, roll-Notation, the_lemmas}
use Rattle.st_el.specs.declared.notation.NotNode.{NotNode, map-NotNode, roll-NotNode}
use Rattle.st_el.specs.declared.notation.NotNode.TheOpen.{NotNode-F}
use Rattle.st_el.specs.declared.notation.NotNode.TheVariants as node
use Rattle.st_el.specs.Plain.{plain_typ, plain_notation, plain_not_node}

-- P holds of the parts of a level
abbrev pub NotationParts : (Notation → Type 0) → NotNode-F NotNode Notation → Type 0
NotationParts P (NotNode-F.Atom name) = Unit {0}
NotationParts P (NotNode-F.Hole typ) = Unit {0}
NotationParts P (NotNode-F.Seq ns) = AllByRecursion P ns
NotationParts P (NotNode-F.Infix left sign right) = P left × P right
NotationParts P (NotNode-F.Bracket opening inside) = P inside

-- a notation of which P holds
abbrev Such : (Notation → Type 0) → Type 0
Such P = (n : Notation) × P n

-- a level of which N holds
abbrev SuchNode : (NotNode → Type 0) → Type 0
SuchNode N = (k : NotNode) × N k

each_such : (P : Notation → Type 0) (ys : List (Such P)) → AllByRecursion P (map (λ y. y.0) ys)
each_such P [] = tt
each_such P (y ∷ ys) = (y.1, each_such P ys)

parts_such : (N : NotNode → Type 0) (P : Notation → Type 0) (y : NotNode-F (SuchNode N) (Such P))
    → NotationParts P (map-NotNode (SuchNode N) (Such P) NotNode Notation (λ e. e.0) (λ e. e.0) y)
parts_such N P (NotNode-F.Atom name) = tt
parts_such N P (NotNode-F.Hole typ) = tt
parts_such N P (NotNode-F.Seq ns) = each_such P ns
parts_such N P (NotNode-F.Infix left sign right) = (left.1, right.1)
parts_such N P (NotNode-F.Bracket opening inside) = inside.1

-- What N says of a level follows from P of its parts, and P of a notation from N of its level.
pub notation_induction : (N : NotNode → Type 0) (P : Notation → Type 0)
    → ((x : NotNode-F NotNode Notation) → NotationParts P x → N (roll-NotNode x))
    → ((x : Notation-F NotNode Notation) → N x.node → P (roll-Notation x)) → (n : Notation) → P n
notation_induction N P level whole =
    ind-Notation N P (λ x y e. level x (subst (NotationParts P) e (parts_such N P y)))
    (λ x y e. whole x (subst N (ap (λ z. z.node) e) y.node.1))

-- ---- levels without places

pub plain-Atom : (name : List ℕ) → plain_not_node (node.Atom name) ≡ node.Atom name
plain-Atom name = search (rules, the_lemmas)

pub plain-Hole : (typ : Typ) → plain_not_node (node.Hole typ) ≡ node.Hole (plain_typ typ)
plain-Hole typ = search (rules, the_lemmas)

pub plain-Seq : (ns : List Notation) → plain_not_node (node.Seq ns) ≡ node.Seq (map plain_notation ns)
plain-Seq ns = search (rules, the_lemmas)

pub plain-Infix : (left : Notation) (sign : Mark) (right : Notation)
    → plain_not_node (node.Infix left sign right)
    ≡ node.Infix (plain_notation left) sign (plain_notation right)
plain-Infix left sign right = search (rules, the_lemmas)

pub plain-Bracket : (opening : Mark) (inside : Notation)
    → plain_not_node (node.Bracket opening inside) ≡ node.Bracket opening (plain_notation inside)
plain-Bracket opening inside = search (rules, the_lemmas)
