-- Which case is chosen, and what fills it.
use Rattle.std.proofs.Common.{◌≡◌, sym, ap, ◌∙◌, subst, ℕ, ◌+◌, ◌<◌, List, [], ◌∷◌, ◌++◌, length, take, get_or, Option, Some, None}
use Rattle.std.specs.Prelude.{IfSome, IfNone}
use Rattle.std.specs.Borrow.{Bor}
use Rattle.std.proofs.lemmas.List.{take_more}
use Rattle.st_el.specs.declared.expression.Exp.{Exp}
use Rattle.st_il.specs.declared.ty.Ty.{Ty}
use Rattle.st_il.specs.declared.definition.SyntaxDef.{SyntaxDef}
use Rattle.st_il.specs.declared.template.Template.{Template}
use Rattle.st_il.specs.Template.{HasTag}
use Rattle.st_il.specs.Key.{PlainKey, free}
use Rattle.st_il.proofs.Tags.{one_template}
use Rattle.st_type_table.specs.declared.entry.CaseDef.{CaseDef}
use Rattle.st_type_table.specs.Cases.{HasCases}
use Rattle.st_type_table.specs.Keys.{NoneHasKey, IsCaseWith}
use Rattle.st_type_table.proofs.KeyLemmas.{FirstWith-none}
use Rattle.st_notation.specs.declared.filled.Shape.{Shape}
use Rattle.st_notation.specs.Fits.{Filling, FitsWhole}
use Rattle.st_elab_table.specs.Choice.{HasShape, HaveShapes, keyed, keyless, IsChosenAt, FillsCase}
use Rattle.st_elab_table.proofs.ChoiceLemmas.{HaveShapes-single}

shapes_append : (defs : List SyntaxDef) (ts : List Ty) (ss : List Shape) (t : Ty) (s : Shape) → HaveShapes defs ts ss → HasShape defs t s
    → HaveShapes defs (ts ++ t ∷ []) (ss ++ s ∷ [])
shapes_append defs [] [] t s h g = (g, tt)
shapes_append defs [] (r ∷ ss) t s h g = absurd h
shapes_append defs (u ∷ ts) [] t s h g = absurd h
shapes_append defs (u ∷ ts) (r ∷ ss) t s h g = (h.0, shapes_append defs ts ss t s h.1 g)

pub shapes_next : (defs : List SyntaxDef) (ts : List Ty) (i : ℕ) (t : Ty) (ss : List Shape) (s : Shape) → i < length ts → t ≡ get_or ts i t
    → HaveShapes defs (take i ts) ss → HasShape defs t s → HaveShapes defs (take (i + 1) ts) (ss ++ s ∷ [])
shapes_next defs ts i t ss s h is have has =
    subst (λ z. HaveShapes defs z (ss ++ s ∷ [])) (sym (take_more ts i t h ∙ ap (λ y. take i ts ++ y ∷ []) (sym is)))
    (shapes_append defs (take i ts) ss t s have has)

-- ---- the case that is chosen

pub chosen_keyed : (defs : List SyntaxDef) (t : Ty) (k : PlainKey) (c : CaseDef) → IsCaseWith defs t k c → IsChosenAt defs t k c
chosen_keyed defs t k c h = record { cases = h.cases; has = h.has; chosen = keyed h.first }

-- where no case has the key, the one without a key is chosen
pub chosen_free : (defs : List SyntaxDef) (t : Ty) (k : PlainKey) (found : Option (Bor CaseDef)) → ((cs : List CaseDef) → HasCases defs t cs → NoneHasKey k cs)
    → IfSome found (λ c. IsCaseWith defs t free c.now) → IfSome found (λ c. IsChosenAt defs t k c.now)
chosen_free defs t k None none h = tt
chosen_free defs t k (Some c) none h = record { cases = h.cases; has = h.has; chosen = keyless (none h.cases h.has) h.first }

pub chosen_none : (defs : List SyntaxDef) (t : Ty) (k : PlainKey) (found : Option (Bor CaseDef)) → ((cs : List CaseDef) → HasCases defs t cs → NoneHasKey k cs)
    → IfNone found ((cs : List CaseDef) → HasCases defs t cs → NoneHasKey free cs) → IfNone found ((c : CaseDef) → IsChosenAt defs t k c → ⊥)
chosen_none defs t k None none h = λ c g. elim g.chosen [ keyed f ↦ FirstWith-none k g.cases c (none g.cases g.has) f | keyless n f ↦ FirstWith-none free g.cases c (h g.cases g.has) f ]
chosen_none defs t k (Some d) none h = tt

-- ---- what fills a case

pub fills_none : (defs : List SyntaxDef) (c : CaseDef) (e : Exp) → ((t : Template) → HasTag t c.tag → ⊥) → (fs : List Filling) → FillsCase defs c e fs → ⊥
fills_none defs c e none fs h = none h.template h.tagged

pub fills_unfit : (defs : List SyntaxDef) (c : CaseDef) (e : Exp) (t : Template) (ss : List Shape) → HasTag t c.tag → HaveShapes defs c.operands ss
    → ((fs : List Filling) → FitsWhole t ss e fs → ⊥) → (fs : List Filling) → FillsCase defs c e fs → ⊥
fills_unfit defs c e t ss tagged shaped unfit fs h =
    unfit fs (subst (λ z. FitsWhole t z e fs) (HaveShapes-single defs c.operands h.shapes ss h.shaped shaped)
    (subst (λ z. FitsWhole z h.shapes e fs) (one_template c.tag h.template t h.tagged tagged) h.fits))
