-- What fits a notation fills its holes as their shapes allow.
use Rattle.std.proofs.Common.{◌≡◌, refl, subst, ℕ, List, [], ◌∷◌, ◌++◌, length, drop, Bool, true, false, Some, None, inl, inr}
use Rattle.std.specs.Prelude.{Option, if◌then◌else◌}
use Rattle.std.specs.Option.{option_map}
use Rattle.st_num.specs.Names.{same_name}
use Rattle.st_el.specs.declared.expression.Exp.{Exp}
use Rattle.st_il.specs.declared.definition.SyntaxDef.{SyntaxDef}
use Rattle.st_il.specs.declared.template.Template.{Template, out-Template}
use Rattle.st_il.specs.declared.template.Template.TheOpen.{Template-F}
use Rattle.st_il.specs.declared.ty.Ty.{Ty, out-Ty}
use Rattle.st_il.specs.declared.ty.Ty.TheOpen.{Ty-F}
use Rattle.st_type_table.specs.Meaning.{Means}
use Rattle.st_notation.specs.declared.filled.Shape.{Shape}
use Rattle.st_notation.specs.declared.filled.Shape.TheVariants as shape
use Rattle.st_notation.specs.Elements.{bare, elements, before}
use Rattle.st_notation.specs.Fits.{Filling, one, run, missing, Take, shared_run, run_up_to, takes, Fits, hole, atom, bracket, sides, sequence, FitInOrder, end, next_atom, next_bracket, next_hole}
use Rattle.st_elab_table.specs.Choice.{shape_at, HasShape, HaveShapes}
use Rattle.st_elab_table.specs.Records.{is_omissible, omitted, aligned}
use Rattle.st_ilcheck.specs.Rules.{IsListOrOption}
use Rattle.st_elab_typed.proofs.Claims.{MayFill}
use Rattle.st_elab_typed.proofs.Keeping.{is_list, is_option}

-- a hole of this shape may be filled by this
abbrev FillsShape : Shape → Filling → Type 0
FillsShape s (one e) = Unit {0}
FillsShape shape.List (run es) = Unit {0}
FillsShape shape.Opt (run es) = ⊥
FillsShape shape.Plain (run es) = ⊥
FillsShape shape.Opt missing = Unit {0}
FillsShape shape.List missing = ⊥
FillsShape shape.Plain missing = ⊥

-- holes of these shapes may be filled by these, as far as there are both
abbrev pub FillShapes : List Shape → List Filling → Type 0
FillShapes [] fs = Unit {0}
FillShapes (s ∷ ss) [] = Unit {0}
FillShapes (s ∷ ss) (f ∷ fs) = FillsShape s f × FillShapes ss fs

FillShapes-none : (ss : List Shape) → FillShapes ss []
FillShapes-none [] = tt
FillShapes-none (s ∷ ss) = tt

FillShapes-one : (ss : List Shape) (e : Exp) → FillShapes ss (one e ∷ [])
FillShapes-one [] e = tt
FillShapes-one (s ∷ ss) e = (tt, FillShapes-none ss)

FillShapes-append : (ss : List Shape) (fs gs : List Filling) → FillShapes ss fs → FillShapes (drop (length fs) ss) gs → FillShapes ss (fs ++ gs)
FillShapes-append ss [] gs h k = k
FillShapes-append [] (f ∷ fs) gs h k = tt
FillShapes-append (s ∷ ss) (f ∷ fs) gs h k = (h.0, FillShapes-append ss fs gs h.1 k)

taken_is : (s : Shape) (t taken : Take) → Some t ≡ Some taken → FillsShape s t.filling → FillsShape s taken.filling
taken_is s t taken is h = let same : t ≡ taken = cc in subst (λ z. FillsShape s z.filling) same h

-- a hole takes the first element
first_fills : (s : Shape) (es : List Exp) (taken : Take) → takes shape.Plain [] es ≡ Some taken → FillsShape s taken.filling
first_fills s [] taken is = absurd (cc)
first_fills s (e ∷ es) taken is = taken_is s (record { filling = one e; count = 1 }) taken is tt

run_fills : (y : Template-F Template) (es : List Exp) (taken : Take) → run_up_to y es ≡ Some taken → FillsShape shape.List taken.filling
run_fills (Template-F.Atom name) es taken is = taken_is shape.List (shared_run es (before name es)) taken is tt
run_fills Template-F.Hole es taken is = first_fills shape.List es taken is
run_fills (Template-F.Seq parts) es taken is = first_fills shape.List es taken is
run_fills (Template-F.Infix left sign right) es taken is = first_fills shape.List es taken is
run_fills (Template-F.Bracket opening inside) es taken is = first_fills shape.List es taken is

takes_fills : (s : Shape) (behind : List Template) (es : List Exp) (taken : Take) → takes s behind es ≡ Some taken → FillsShape s taken.filling
takes_fills shape.Plain behind es taken is = first_fills shape.Plain es taken is
takes_fills shape.List [] es taken is = taken_is shape.List (shared_run es (length es)) taken is tt
takes_fills shape.List (next ∷ behind) es taken is = run_fills (out-Template next) es taken is
takes_fills shape.Opt [] [] taken is = taken_is shape.Opt (record { filling = missing; count = 0 }) taken is tt
takes_fills shape.Opt [] (e ∷ es) taken is = first_fills shape.Opt (e ∷ es) taken is
takes_fills shape.Opt (next ∷ behind) es taken is = first_fills shape.Opt es taken is

mutual
  pub Fits-fill : (t : Template) (ss : List Shape) (e : Exp) (fs : List Filling) → Fits t ss e fs → FillShapes ss fs
  Fits-fill t ss e fs (hole p) = FillShapes-one ss e
  Fits-fill t ss e fs (atom n p a) = FillShapes-none ss
  Fits-fill t ss e fs (bracket o i x p n h) = Fits-fill i ss x fs h
  Fits-fill t ss e fs (sides {fs = xs} {gs = ys} l s r a b p n h k) = FillShapes-append ss xs ys (Fits-fill l ss a xs h) (Fits-fill r (drop (length xs) ss) b ys k)
  Fits-fill t ss e fs (sequence parts p h) = FitInOrder-fill parts ss (elements (bare e)) fs h

  FitInOrder-fill : (ts : List Template) (ss : List Shape) (es : List Exp) (fs : List Filling) → FitInOrder ts ss es fs → FillShapes ss fs
  FitInOrder-fill ts ss es fs end = FillShapes-none ss
  FitInOrder-fill (t ∷ ts) ss es fs (next_atom {es = others} n p a h) = FitInOrder-fill ts ss others fs h
  FitInOrder-fill (t ∷ ts) ss es fs (next_bracket {es = rest} {fs = xs} {gs = ys} o i x p n h k) =
      FillShapes-append ss xs ys (Fits-fill i ss x xs h) (FitInOrder-fill ts (drop (length xs) ss) rest ys k)
  FitInOrder-fill (t ∷ ts) ss es fs (next_hole {s = s} {ss = others} {fs = xs} taken p n h) =
      (takes_fills s ts es taken n, FitInOrder-fill ts others (drop taken.count es) xs h)

module _ (defs : List SyntaxDef) where
  -- a type with this shape
  collection_at : (t u : Ty) (y : Ty-F Ty) → Means defs t u → out-Ty u ≡ y → (s : Shape) → s ≡ shape_at y → (s ≡ shape.Plain → ⊥) → IsListOrOption defs t
  collection_at t u (Ty-F.List x) m o s is h = inl (x, subst (Means defs t) (is_list u x o) m)
  collection_at t u (Ty-F.Opt x) m o s is h = inr (x, subst (Means defs t) (is_option u x o) m)
  collection_at t u y m o s is h = absurd (h is)

  collection : (t : Ty) (s : Shape) → HasShape defs t s → (s ≡ shape.Plain → ⊥) → IsListOrOption defs t
  collection t s (u, m, is) h = collection_at t u (out-Ty u) m refl s is h

  may_fill : (t : Ty) (s : Shape) (f : Filling) → HasShape defs t s → FillsShape s f → MayFill defs f t
  may_fill t s (one e) shaped h = tt
  may_fill t shape.List (run []) shaped h = collection t shape.List shaped (λ e. absurd (cc))
  may_fill t shape.Opt (run []) shaped h = absurd h
  may_fill t shape.Plain (run []) shaped h = absurd h
  may_fill t s (run (e ∷ es)) shaped h = tt
  may_fill t shape.Opt missing shaped h = collection t shape.Opt shaped (λ e. absurd (cc))
  may_fill t shape.List missing shaped h = absurd h
  may_fill t shape.Plain missing shaped h = absurd h

  -- there is a filling for each of these types, which it may fill
  abbrev pub FillTypes : List Filling → List Ty → Type 0
  FillTypes [] [] = Unit {0}
  FillTypes [] (t ∷ ts) = ⊥
  FillTypes (f ∷ fs) [] = ⊥
  FillTypes (f ∷ fs) (t ∷ ts) = MayFill defs f t × FillTypes fs ts

  pub FillTypes-shaped : (ts : List Ty) (ss : List Shape) (fs : List Filling) → HaveShapes defs ts ss → FillShapes ss fs → length fs ≡ length ts → FillTypes fs ts
  FillTypes-shaped [] ss [] shaped h l = tt
  FillTypes-shaped [] ss (f ∷ fs) shaped h l = absurd (cc)
  FillTypes-shaped (t ∷ ts) ss [] shaped h l = absurd (cc)
  FillTypes-shaped (t ∷ ts) [] (f ∷ fs) shaped h l = absurd shaped
  FillTypes-shaped (t ∷ ts) (s ∷ ss) (f ∷ fs) shaped h l = (may_fill t s f shaped.0 h.0, FillTypes-shaped ts ss fs shaped.1 h.1 (cc))

  -- ---- fields

  omissible : (s : Shape) → is_omissible s ≡ true → s ≡ shape.Plain → ⊥
  omissible shape.Plain h e = absurd (cc)
  omissible shape.List h e = absurd (cc)
  omissible shape.Opt h e = absurd (cc)

  omitted_fills : (t : Ty) (ts : List Ty) (s : Shape) (rest : Option (List Filling)) (fs : List Filling) → HasShape defs t s → omitted s rest ≡ Some fs → ((gs : List Filling) → rest ≡ Some gs → FillTypes gs ts) → FillTypes fs (t ∷ ts)
  omitted_fills t ts s rest fs shaped is others = by (is_omissible s) refl rest is others
    where
      by : (b : Bool) → is_omissible s ≡ b → (o : Option (List Filling)) → (if b then option_map (λ (xs : List Filling). missing ∷ xs) o else None) ≡ Some fs → ((gs : List Filling) → o ≡ Some gs → FillTypes gs ts) → FillTypes fs (t ∷ ts)
      by true h None e k = absurd (cc)
      by true h (Some gs) e k = let same : missing ∷ gs ≡ fs = cc in subst (λ z. FillTypes z (t ∷ ts)) same (collection t s shaped (omissible s h), k gs refl)
      by false h o e k = absurd (cc)

  given_fills : (t : Ty) (ts : List Ty) (e : Exp) (rest : Option (List Filling)) (fs : List Filling) → option_map (λ (xs : List Filling). one e ∷ xs) rest ≡ Some fs → ((gs : List Filling) → rest ≡ Some gs → FillTypes gs ts) → FillTypes fs (t ∷ ts)
  given_fills t ts e None fs is k = absurd (cc)
  given_fills t ts e (Some gs) fs is k = let same : one e ∷ gs ≡ fs = cc in subst (λ z. FillTypes z (t ∷ ts)) same (tt, k gs refl)

  -- what fills the fields of a record may fill them
  pub FillTypes-aligned : (names : List (List ℕ)) (ts : List Ty) (ss : List Shape) (given : List (List ℕ × Exp)) (fs : List Filling) → length names ≡ length ts → HaveShapes defs ts ss → aligned names ss given ≡ Some fs → FillTypes fs ts
  FillTypes-aligned [] [] ss [] fs l shaped is = let same : [] ≡ fs = cc in subst (λ z. FillTypes z []) same tt
  FillTypes-aligned [] [] ss (g ∷ given) fs l shaped is = absurd (cc)
  FillTypes-aligned [] (t ∷ ts) ss given fs l shaped is = absurd (cc)
  FillTypes-aligned (name ∷ names) [] ss given fs l shaped is = absurd (cc)
  FillTypes-aligned (name ∷ names) (t ∷ ts) [] given fs l shaped is = absurd shaped
  FillTypes-aligned (name ∷ names) (t ∷ ts) (s ∷ ss) [] fs l shaped is =
      omitted_fills t ts s (aligned names ss []) fs shaped.0 is (λ gs. FillTypes-aligned names ts ss [] gs (cc) shaped.1)
  FillTypes-aligned (name ∷ names) (t ∷ ts) (s ∷ ss) (g ∷ given) fs l shaped is =
      by (same_name name g.0) is (λ gs. FillTypes-aligned names ts ss given gs (cc) shaped.1) (λ gs. FillTypes-aligned names ts ss (g ∷ given) gs (cc) shaped.1)
    where
      by : (b : Bool) → (if b then option_map (λ (xs : List Filling). one g.1 ∷ xs) (aligned names ss given) else omitted s (aligned names ss (g ∷ given))) ≡ Some fs
          → ((gs : List Filling) → aligned names ss given ≡ Some gs → FillTypes gs ts) → ((gs : List Filling) → aligned names ss (g ∷ given) ≡ Some gs → FillTypes gs ts) → FillTypes fs (t ∷ ts)
      by true e k n = given_fills t ts g.1 (aligned names ss given) fs e k
      by false e k n = omitted_fills t ts s (aligned names ss (g ∷ given)) fs shaped.0 e n
