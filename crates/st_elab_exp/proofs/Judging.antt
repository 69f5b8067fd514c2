-- Judgements, as the code takes them.
use Rattle.std.proofs.Common.{◌≡◌, sym, ap, ◌∙◌, subst, ℕ, List, length, Option, Some, None, MatchOption}
use Rattle.std.specs.Prelude.{Result}
use Rattle.std.proofs.lemmas.List.{length-map}
use Rattle.st_num.specs.declared.rule.RuleId.TheVariants.{Y2}
use Rattle.st_el.specs.declared.expression.Exp.{Exp}
use Rattle.st_il.specs.declared.ty.Ty.{Ty}
use Rattle.st_il.specs.declared.expression.IlExp.{IlExp}
use Rattle.st_il.specs.declared.definition.RelationDef.{RelationDef}
use Rattle.st_type_table.specs.declared.entry.CaseDef.{CaseDef}
use Rattle.st_notation.specs.declared.filled.Filled.{Filled}
use Rattle.st_notation.specs.Fits.{Filling}
use Rattle.st_notation.specs.Elements.{bare}
use Rattle.st_notation.specs.Fitted.{plain, fillings}
use Rattle.st_notation.proofs.FitsLemmas.{Fits-length}
use Rattle.st_elab_table.specs.declared.decls.Decls.{Decls}
use Rattle.st_elab_table.specs.declared.decls.Scope.{Scope}
use Rattle.st_num.specs.declared.fault.Fault.{Fault as ExpFault}
use Rattle.st_dims.specs.declared.within.Within.{Within}
use Rattle.st_elab_table.specs.Forms.{place}
use Rattle.st_elab_table.specs.Steps.{exp_of, holes}
use Rattle.st_elab_table.specs.Choice.{FillsCase}
use Rattle.st_elab_rows.specs.Told.{Told, TellsAll}
use Rattle.st_elab_table.specs.Parts.{AskedAs, Breaks}
use Rattle.st_elab_table.specs.Judgements.{broken, case_of, judgement_questions, Judged, JudgedBreach, unfit, filling}
use Rattle.st_elab_exp.proofs.Outcomes.{told_by}

-- what the call of `fill` says
abbrev Fills : Decls → CaseDef → Exp → Option (List Filled) → Type 0
Fills D case e found =
    MatchOption found ((fs : List Filling) → FillsCase D.types case e fs → ⊥) (λ filled. FillsCase D.types case e (fillings filled))

pub fills_none : (D : Decls) (S : Scope) (w : Within) (R : RelationDef) (e : Exp) (case : CaseDef) (found : Option (List Filled)) → case ≡ case_of R
    → found ≡ None → Fills D case e found → JudgedBreach D S w R e (broken (place e) Y2)
fills_none D S w R e case found is none h =
    unfit (λ fs k. subst (Fills D case e) none h fs (subst (λ z. FillsCase D.types z e fs) (sym is) k))

pub fills_some : (D : Decls) (R : RelationDef) (e : Exp) (case : CaseDef) (found : Option (List Filled)) (filled : List Filled) → case ≡ case_of R
    → found ≡ Some filled → Fills D case e found → FillsCase D.types (case_of R) e (fillings filled)
fills_some D R e case found filled is some h = subst (λ z. FillsCase D.types z e (fillings filled)) is (subst (Fills D case e) some h)

-- a judgement fills each hole of its relation
pub fills_length : (D : Decls) (R : RelationDef) (e : Exp) (filled taken : List Filled) (tys : List Ty) → taken ≡ filled → tys ≡ R.holes
    → FillsCase D.types (case_of R) e (fillings filled) → length taken ≡ length tys
fills_length D R e filled taken tys is are h =
    ap length is ∙ sym (length-map filled plain) ∙ Fits-length h.template h.shapes (bare e) (fillings filled) h.fits ∙ sym h.counted ∙ ap length (sym are)

pub judged_told : (D : Decls) (S : Scope) (w : Within) (R : RelationDef) (e : Exp) (filled taken : List Filled) (tys : List Ty) (r : Result (List IlExp) ExpFault)
    → taken ≡ filled → tys ≡ R.holes → FillsCase D.types (case_of R) e (fillings filled)
    → TellsAll D S (holes w (place e) (fillings taken) tys) exp_of r → Told (Judged D S w R e) (JudgedBreach D S w R e) r
judged_told D S w R e filled taken tys r is are fits h =
    let there : TellsAll D S (judgement_questions w e (fillings filled) R) exp_of r =
    subst (λ z. TellsAll D S (holes w (place e) (fillings filled) z) exp_of r) are (subst (λ z. TellsAll D S (holes w (place e) (fillings z) tys) exp_of r) is h) in
    told_by (AskedAs D S (judgement_questions w e (fillings filled) R) IlExp exp_of) (Judged D S w R e) (Breaks D S (judgement_questions w e (fillings filled) R)) (JudgedBreach D S w R e) r
    (λ xs k. record { fillings = fillings filled; fits = fits; filled = k }) (λ b k. filling (fillings filled) fits k) there
