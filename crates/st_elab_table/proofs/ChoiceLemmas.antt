-- An expression is at most one case of a type, filled in one way.
use Rattle.std.proofs.Common.{◌≡◌, refl, sym, ap, ◌∙◌, subst, ℕ, List, [], ◌∷◌}
use Rattle.st_el.specs.declared.expression.Exp.{Exp}
use Rattle.st_il.specs.declared.ty.Ty.{Ty, out-Ty}
use Rattle.st_il.specs.declared.ty.Ty.TheOpen.{Ty-F}
use Rattle.st_il.specs.declared.ty.Ty.TheVariants as ty
use Rattle.st_il.specs.declared.definition.SyntaxDef.{SyntaxDef}
use Rattle.st_il.specs.Template.{HasTag}
use Rattle.st_il.specs.Key.{PlainKey, free}
use Rattle.st_il.proofs.Tags.{one_template}
use Rattle.st_type_table.specs.declared.entry.CaseDef.{CaseDef}
use Rattle.st_type_table.specs.Keys.{IsFirstWith, here, later}
use Rattle.st_type_table.proofs.KeyLemmas.{FirstWith-none}
use Rattle.st_type_table.proofs.MeansLemmas.{Means-single}
use Rattle.st_type_table.proofs.CasesLemmas.{HasCases-single}
use Rattle.st_notation.specs.declared.filled.Shape.{Shape}
use Rattle.st_notation.specs.Elements.{bare}
use Rattle.st_notation.specs.Fits.{Filling, FitsWhole}
use Rattle.st_notation.specs.Key.{key_of}
use Rattle.st_notation.proofs.FitsLemmas.{Fits-single}
use Rattle.st_elab_table.specs.Questions.{Chosen}
use Rattle.st_elab_table.specs.Choice.{shape_of, HaveShapes, IsChosenBy, keyed, keyless, FillsCase, takes_whole, IsCaseOf}

FirstWith-single : (k : PlainKey) (cs : List CaseDef) (c d : CaseDef) → IsFirstWith k cs c → IsFirstWith k cs d → c ≡ d
FirstWith-single k [] c d h g = elim h [ ]
FirstWith-single k (x ∷ cs) c d (here p) (here q) = refl
FirstWith-single k (x ∷ cs) c d (here p) (later n h) = absurd (n p)
FirstWith-single k (x ∷ cs) c d (later n h) (here q) = absurd (n q)
FirstWith-single k (x ∷ cs) c d (later n h) (later m g) = FirstWith-single k cs c d h g

pub ChosenBy-single : (k : PlainKey) (cs : List CaseDef) (c d : CaseDef) → IsChosenBy k cs c → IsChosenBy k cs d → c ≡ d
ChosenBy-single k cs c d (keyed h) (keyed g) = FirstWith-single k cs c d h g
ChosenBy-single k cs c d (keyed h) (keyless none g) = absurd (FirstWith-none k cs c none h)
ChosenBy-single k cs c d (keyless none h) (keyed g) = absurd (FirstWith-none k cs d none g)
ChosenBy-single k cs c d (keyless none h) (keyless more g) = FirstWith-single free cs c d h g

pub HaveShapes-single : (defs : List SyntaxDef) (ts : List Ty) (ss rs : List Shape) → HaveShapes defs ts ss → HaveShapes defs ts rs → ss ≡ rs
HaveShapes-single defs [] [] [] h g = refl
HaveShapes-single defs [] [] (r ∷ rs) h g = absurd g
HaveShapes-single defs [] (s ∷ ss) rs h g = absurd h
HaveShapes-single defs (t ∷ ts) [] rs h g = absurd h
HaveShapes-single defs (t ∷ ts) (s ∷ ss) [] h g = absurd g
HaveShapes-single defs (t ∷ ts) (s ∷ ss) (r ∷ rs) ((u, m, p), h) ((v, n, q), g) =
    let e : s ≡ r = p ∙ ap shape_of (Means-single defs t u v m n) ∙ sym q in
    let f : ss ≡ rs = HaveShapes-single defs ts ss rs h g in
    λ i. e i ∷ f i

pub FillsCase-single : (defs : List SyntaxDef) (c : CaseDef) (e : Exp) (fs gs : List Filling) → FillsCase defs c e fs → FillsCase defs c e gs → fs ≡ gs
FillsCase-single defs c e fs gs h g =
    let template : h.template ≡ g.template = one_template c.tag h.template g.template h.tagged g.tagged in
    let shapes : h.shapes ≡ g.shapes = HaveShapes-single defs c.operands h.shapes g.shapes h.shaped g.shaped in
    Fits-single g.template g.shapes (bare e) fs gs
    (subst (λ z. FitsWhole g.template z e fs) shapes (subst (λ z. FitsWhole z h.shapes e fs) template h.fits)) g.fits

name-single : (t : Ty) (m n : List ℕ) → t ≡ ty.Name m → t ≡ ty.Name n → m ≡ n
name-single t m n p q =
    let e : Ty-F.Name m ≡ Ty-F.Name n = sym (ty.outs-Name m) ∙ ap out-Ty (sym p ∙ q) ∙ ty.outs-Name n in
    cc

pub CaseOf-single : (defs : List SyntaxDef) (t : Ty) (e : Exp) (c d : Chosen) → IsCaseOf defs t e c → IsCaseOf defs t e d → c ≡ d
CaseOf-single defs t e c d h g =
    let one : CaseDef = record { tag = c.tag; operands = c.operands } in
    let other : CaseDef = record { tag = d.tag; operands = d.operands } in
    let cases : h.cases ≡ g.cases = HasCases-single defs t h.cases g.cases h.has g.has in
    let case' : one ≡ other =
    ChosenBy-single (key_of e) h.cases one other h.chosen (subst (λ z. IsChosenBy (key_of e) z other) (sym cases) g.chosen) in
    let fillings = FillsCase-single defs other e c.fillings d.fillings (subst (λ z. FillsCase defs z e c.fillings) case' h.filled) g.filled in
    let name = name-single t c.name d.name h.asked g.asked in
    let tag : c.tag ≡ d.tag = ap (λ z. z.tag) case' in
    let template : h.filled.template ≡ g.filled.template =
    one_template d.tag h.filled.template g.filled.template (subst (HasTag h.filled.template) tag h.filled.tagged) g.filled.tagged in
    let whole : c.whole ≡ d.whole = h.whole ∙ ap (λ z. takes_whole z e) template ∙ sym g.whole in
    λ i. record { name = name i; tag = (case' i).tag; operands = (case' i).operands; fillings = fillings i; whole = whole i }
