-- Induction over written types: what holds of a type where it holds of its parts holds of each.
use Rattle.std.proofs.Common.{rules, ◌≡◌, ap, subst, List, [], ◌∷◌, map}
use Rattle.std.specs.List.{AllByRecursion}
use Rattle.st_el.specs.declared.ty.Typ.{Typ, Typ-F, ind-Typ, roll-Typ, the_lemmas}
use Rattle.st_el.specs.declared.ty.TypNode.{TypNode, map-TypNode, roll-TypNode}
use Rattle.st_el.specs.declared.ty.TypNode.TheOpen.{TypNode-F}
use Rattle.st_el.specs.declared.ty.TypNode.TheVariants as node
use Rattle.st_el.specs.Plain.{plain_typ, plain_typ_node}

-- P holds of the parts of a level
abbrev pub TypParts : (Typ → Type 0) → TypNode-F TypNode Typ → Type 0
TypParts P (TypNode-F.Star t) = P t
TypParts P (TypNode-F.Quest t) = P t
TypParts P (TypNode-F.Tuple ts) = AllByRecursion P ts
TypParts P x = Unit {0}

-- a type of which P holds
abbrev Such : (Typ → Type 0) → Type 0
Such P = (t : Typ) × P t

-- a level of which N holds
abbrev SuchNode : (TypNode → Type 0) → Type 0
SuchNode N = (k : TypNode) × N k

each_such : (P : Typ → Type 0) (ys : List (Such P)) → AllByRecursion P (map (λ y. y.0) ys)
each_such P [] = tt
each_such P (y ∷ ys) = (y.1, each_such P ys)

parts_such : (N : TypNode → Type 0) (P : Typ → Type 0) (y : TypNode-F (SuchNode N) (Such P))
    → TypParts P (map-TypNode (SuchNode N) (Such P) TypNode Typ (λ e. e.0) (λ e. e.0) y)
parts_such N P TypNode-F.Bool = tt
parts_such N P TypNode-F.Nat = tt
parts_such N P TypNode-F.Int = tt
parts_such N P TypNode-F.Text = tt
parts_such N P (TypNode-F.Name name) = tt
parts_such N P (TypNode-F.Star t) = t.1
parts_such N P (TypNode-F.Quest t) = t.1
parts_such N P (TypNode-F.Tuple ts) = each_such P ts

-- What N says of a level follows from P of its parts, and P of a type from N of its level.
pub typ_induction : (N : TypNode → Type 0) (P : Typ → Type 0)
    → ((x : TypNode-F TypNode Typ) → TypParts P x → N (roll-TypNode x))
    → ((x : Typ-F TypNode Typ) → N x.node → P (roll-Typ x)) → (t : Typ) → P t
typ_induction N P level whole =
    ind-Typ N P (λ x y e. level x (subst (TypParts P) e (parts_such N P y)))
    (λ x y e. whole x (subst N (ap (λ z. z.node) e) y.node.1))

-- ---- levels without places

pub plain-Star : (t : Typ) → plain_typ_node (node.Star t) ≡ node.Star (plain_typ t)
plain-Star t = search (rules, the_lemmas)

pub plain-Quest : (t : Typ) → plain_typ_node (node.Quest t) ≡ node.Quest (plain_typ t)
plain-Quest t = search (rules, the_lemmas)

pub plain-Tuple : (ts : List Typ) → plain_typ_node (node.Tuple ts) ≡ node.Tuple (map plain_typ ts)
plain-Tuple ts = search (rules, the_lemmas)
