-- Steps through a sequence, as the code takes them.
use Rattle.std.specs.Prelude.{◌++◌, List, ◌∷◌, length, drop, Result}
use Rattle.st_num.specs.declared.span.Span.{Span}
use Rattle.st_el.specs.declared.expression.Exp.{Exp}
use Rattle.st_il.specs.declared.template.Template.{Template}
use Rattle.st_notation.specs.declared.filled.FitFault.{FitFault}
use Rattle.st_notation.specs.declared.filled.Shape.{Shape}
use Rattle.st_notation.specs.declared.fitting.Taken.{Taken}
use Rattle.st_notation.specs.declared.share.Share.{Share}
use Rattle.st_notation.specs.Fits.{Filling, Take, FitInOrder}
use Rattle.st_notation.specs.Fitted.{plain, fillings, Refuses, Answers}

-- ---- steps through a sequence

-- What fits the parts that are left, behind these fillings, fits all;
-- and where all parts fit, those that are left do.
pub record Reaches (ts : List Template) (ss : List Shape) (es : List Exp) (fs : List Filling)
    (us : List Template) (rs : List Shape) (xs : List Exp) : Type 0 where
  pub goes : (gs : List Filling) → FitInOrder us rs xs gs → FitInOrder ts ss es (fs ++ gs)
  pub back : (gs : List Filling) → FitInOrder ts ss es gs
      → (hs : List Filling) × FitInOrder us rs xs hs

-- what the first part took of the elements, so that the other parts are to fit what it left
abbrev pub TookPart : Template → List Template → List Shape → List Exp → Taken → Type 0
TookPart t ts ss es taken =
    Reaches (t ∷ ts) ss es (fillings taken.filled) ts (drop (length taken.filled) ss)
    (drop taken.count es)

-- what the first part took of the elements, or a refusal where they do not fit
abbrev pub Took : Span → Template → List Template → List Shape → List Exp
    → Result Taken FitFault → Type 0
Took at t ts ss es = Answers (TookPart t ts ss es) (Refuses at (FitInOrder (t ∷ ts) ss es))

-- what a hole takes, as the code has it
abbrev pub plain_share : Share → Take
plain_share share = record { filling = plain share.filling; count = share.count }
