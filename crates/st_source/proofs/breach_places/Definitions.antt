-- Definitions all of whose places are of some kind: types, notations and premises.
use Rattle.std.proofs.Common.{◌≡◌, sym, subst, ℕ, List, [], ◌∷◌, ◌++◌}
use Rattle.std.specs.List.{AllByRecursion}
use Rattle.st_num.specs.declared.span.Span.{Span}
use Rattle.st_el.specs.declared.expression.Exp.{Exp}
use Rattle.st_el.specs.declared.expression.Count.{Count, out-Count}
use Rattle.st_el.specs.declared.ty.Typ.{Typ, out-Typ}
use Rattle.st_el.specs.declared.notation.Notation.{Notation, out-Notation}
use Rattle.st_el.specs.declared.definition.Body.{Body}
use Rattle.st_el.specs.declared.definition.Body.TheVariants.{Alias, Cases, Fields}
use Rattle.st_el.specs.declared.definition.Prem.{Prem, Prem-F, roll-Prem, out-roll-Prem}
use Rattle.st_el.specs.declared.definition.PremNode.{PremNode, out-PremNode}
use Rattle.st_el.specs.declared.definition.PremNode.TheOpen.{PremNode-F}
use Rattle.st_el.specs.declared.definition.Def.{Def}
use Rattle.st_el.specs.declared.definition.DefNode.{DefNode}
use Rattle.st_el.specs.declared.definition.DefNode.TheVariants.{Syntax, Var, Relation, Rule, Fun, Clause}
use Rattle.st_elab_sig.specs.Signatures.{holes_of}
use Rattle.st_elab_table.specs.Premises.{place_of, node_of}
use Rattle.st_elab_def.specs.declared.names.Named.{Named}
use Rattle.st_elab_def.specs.Phases.{names_in}
use Rattle.st_elab_law.proofs.ExpStands.{ExpStands, ExpsStand, CountStands}

-- ---- types and notations

-- the type begins at such a place, and so does each name in it
pub record TypStands (P : Span → Type 0) (t : Typ) : Type 0 where
  pub begins : P (out-Typ t).at
  pub names : AllByRecursion (λ (n : Named). P n.at) (names_in t)

abbrev pub TypsStand : (Span → Type 0) → List Typ → Type 0
TypsStand P = AllByRecursion (TypStands P)

-- the notation begins at such a place, and so does each type in it
pub record NotationStands (P : Span → Type 0) (n : Notation) : Type 0 where
  pub begins : P (out-Notation n).at
  pub types : TypsStand P (holes_of n)

-- ---- premises

mutual
  -- the premise begins at such a place, and so does what is in it
  pub data PremStands (P : Span → Type 0) : Prem → Type 0 where
    prem_stands : {p : Prem} → P (place_of p) → PremNodeStands P (node_of p) → PremStands P p

  pub data PremNodeStands (P : Span → Type 0) : PremNode-F PremNode Prem → Type 0 where
    of_if : {e : Exp} → ExpStands P e → PremNodeStands P (PremNode-F.If e)
    of_goal : {name : List ℕ} {e : Exp} → ExpStands P e → PremNodeStands P (PremNode-F.Goal name e)
    of_otherwise : PremNodeStands P PremNode-F.Otherwise
    of_each : {p : Prem} {c : Count} → PremStands P p → CountStands P (out-Count c) → PremNodeStands P (PremNode-F.Each p c)

pub data PremsStand (P : Span → Type 0) : List Prem → Type 0 where
  no_prems : PremsStand P []
  prems : {p : Prem} {ps : List Prem} → PremStands P p → PremsStand P ps → PremsStand P (p ∷ ps)

-- ---- definitions

-- what a syntax is defined by begins at such places
abbrev pub BodyStands : (Span → Type 0) → Body → Type 0
BodyStands P (Alias t) = TypStands P t
BodyStands P (Cases before ns after) = AllByRecursion (NotationStands P) ns
BodyStands P (Fields fs) = AllByRecursion (λ (f : List ℕ × Typ). TypStands P f.1) fs

-- what is defined does
abbrev pub DefNodeStands : (Span → Type 0) → DefNode → Type 0
DefNodeStands P (Syntax name fragment b) = BodyStands P b
DefNodeStands P (Var name t) = TypStands P t
DefNodeStands P (Relation name n) = NotationStands P n
DefNodeStands P (Rule r name e ps) = ExpStands P e × PremsStand P ps
DefNodeStands P (Fun name ts t) = TypsStand P ts × TypStands P t
DefNodeStands P (Clause name es e ps) = ExpsStand P es × ExpStands P e × PremsStand P ps

-- the definition does
abbrev pub DefStands : (Span → Type 0) → Def → Type 0
DefStands P d = P d.at × DefNodeStands P d.node

module _ (P : Span → Type 0) where
  pub PremStands-place : {p : Prem} → PremStands P p → P (place_of p)
  PremStands-place (prem_stands h k) = h

  pub PremStands-parts : {p : Prem} → PremStands P p → PremNodeStands P (node_of p)
  PremStands-parts (prem_stands h k) = k

  pub PremStands-opened : {p : Prem} (y : PremNode-F PremNode Prem) → node_of p ≡ y → PremStands P p → PremNodeStands P y
  PremStands-opened y is h = subst (PremNodeStands P) is (PremStands-parts h)

  pub PremStands-at : (at : Span) (n : PremNode) (y : PremNode-F PremNode Prem) → out-PremNode n ≡ y → P at → PremNodeStands P y → PremStands P (roll-Prem (record { at = at; node = n }))
  PremStands-at at n y is h k =
      let whole = out-roll-Prem (record { at = at; node = n }) in
      prem_stands (subst (λ (x : Prem-F PremNode Prem). P x.at) (sym whole) h)
      (subst (λ (x : Prem-F PremNode Prem). PremNodeStands P (out-PremNode x.node)) (sym whole) (subst (PremNodeStands P) (sym is) k))

  pub PremsStand-append : {ps qs : List Prem} → PremsStand P ps → PremsStand P qs → PremsStand P (ps ++ qs)
  PremsStand-append no_prems k = k
  PremsStand-append (prems p ps) k = prems p (PremsStand-append ps k)
