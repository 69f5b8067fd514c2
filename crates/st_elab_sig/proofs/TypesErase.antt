-- A written type is erased to itself, but for places: the induction over written types.
use Rattle.std.proofs.Common.{rules, ◌≡◌, refl, sym, ◌∙◌, ap, subst, List, [], ◌∷◌, map}
use Rattle.std.specs.List.{AllByRecursion}
use Rattle.st_el.specs.declared.ty.Typ.{Typ, Typ-F, roll-Typ, the_lemmas}
use Rattle.st_el.specs.declared.ty.TypNode.{TypNode, roll-TypNode, fold-TypNode}
use Rattle.st_el.specs.declared.ty.TypNode.TheOpen.{TypNode-F}
use Rattle.st_el.specs.declared.ty.TypNode.TheVariants as node
use Rattle.st_el.specs.Plain.{plain_typ, plain_typ_node}
use Rattle.st_el.proofs.TypInduction.{TypParts, typ_induction, plain-Star, plain-Quest, plain-Tuple}
use Rattle.st_il.specs.declared.ty.Ty.{Ty}
use Rattle.st_il.specs.declared.ty.Ty.{the_lemmas as ty_lemmas}
use Rattle.st_erase.specs.Notations.{typ, erased_ty}
use Rattle.st_elab_sig.specs.Types.{ty_at, ty_of}

abbrev ty_in : TypNode → Ty
ty_in = fold-TypNode Ty Ty ty_at (λ t. t.node)

abbrev Back : Typ → Type 0
Back t = erased_ty (ty_of t) ≡ plain_typ t

abbrev NodeBack : TypNode → Type 0
NodeBack k = erased_ty (ty_in k) ≡ typ (plain_typ_node k)

all_back : (ts : List Typ) → AllByRecursion Back ts → map erased_ty (map ty_of ts) ≡ map plain_typ ts
all_back [] h = refl
all_back (t ∷ ts) h = λ i. h.0 i ∷ all_back ts h.1 i

star-is : (t : Typ) → erased_ty (ty_in (node.Star t)) ≡ typ (node.Star (erased_ty (ty_of t)))
star-is t = search (rules, the_lemmas, ty_lemmas)

quest-is : (t : Typ) → erased_ty (ty_in (node.Quest t)) ≡ typ (node.Quest (erased_ty (ty_of t)))
quest-is t = search (rules, the_lemmas, ty_lemmas)

tuple-is : (ts : List Typ) → erased_ty (ty_in (node.Tuple ts)) ≡ typ (node.Tuple (map erased_ty (map ty_of ts)))
tuple-is ts = search (rules, the_lemmas, ty_lemmas)

node_back : (x : TypNode-F TypNode Typ) → TypParts Back x → NodeBack (roll-TypNode x)
node_back TypNode-F.Bool h = search (rules, the_lemmas, ty_lemmas)
node_back TypNode-F.Nat h = search (rules, the_lemmas, ty_lemmas)
node_back TypNode-F.Int h = search (rules, the_lemmas, ty_lemmas)
node_back TypNode-F.Text h = search (rules, the_lemmas, ty_lemmas)
node_back (TypNode-F.Name name) h = search (rules, the_lemmas, ty_lemmas)
node_back (TypNode-F.Star t) h = subst NodeBack (sym (node.rolls-Star t)) (star-is t ∙ ap (λ u. typ (node.Star u)) h ∙ ap typ (sym (plain-Star t)))
node_back (TypNode-F.Quest t) h = subst NodeBack (sym (node.rolls-Quest t)) (quest-is t ∙ ap (λ u. typ (node.Quest u)) h ∙ ap typ (sym (plain-Quest t)))
node_back (TypNode-F.Tuple ts) h = subst NodeBack (sym (node.rolls-Tuple ts)) (tuple-is ts ∙ ap (λ us. typ (node.Tuple us)) (all_back ts h) ∙ ap typ (sym (plain-Tuple ts)))

ty-roll : (x : Typ-F TypNode Typ) → ty_of (roll-Typ x) ≡ ty_in x.node
ty-roll x = search (rules, the_lemmas)

plain-roll : (x : Typ-F TypNode Typ) → plain_typ (roll-Typ x) ≡ typ (plain_typ_node x.node)
plain-roll x = search (rules, the_lemmas)

level_back : (x : Typ-F TypNode Typ) → NodeBack x.node → Back (roll-Typ x)
level_back x h = ap erased_ty (ty-roll x) ∙ h ∙ sym (plain-roll x)

pub types_back : (t : Typ) → Back t
types_back = typ_induction NodeBack Back node_back level_back

pub each_type_back : (ts : List Typ) → map erased_ty (map ty_of ts) ≡ map plain_typ ts
each_type_back [] = refl
each_type_back (t ∷ ts) = λ i. types_back t i ∷ each_type_back ts i
