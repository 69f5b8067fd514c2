-- The printed texts of the marks of relations, by which they are not run.
use Rattle.std.specs.Prelude.{◌≡◌, ℕ, Bool, List, ◌++◌, Option, Some, None, codes, decimal}
use Rattle.st_answers.specs.OrderTexts.{variable_text}
use Rattle.st_il.specs.declared.definition.Il.{Il}
use Rattle.st_semantics.specs.declared.unfit.Unfit.{Unfit}
use Rattle.st_semantics.specs.declared.unfit.Unfit.TheVariants as unfit
use Rattle.st_semantics.specs.Marks.{Mark, U0, Unsearchable, U5, HasMark}
use Rattle.st_il.specs.Names.{Name}

-- a mark of a declared relation, and its parts
abbrev pub unfit_text : Unfit → List ℕ
unfit_text unfit.U1 = codes "U1"
unfit_text (unfit.U2 rule premise variable) =
    codes "U2 " ++ rule ++ codes " " ++ decimal premise ++ codes " " ++ variable_text variable
unfit_text (unfit.U3 fun) = codes "U3 $" ++ fun
unfit_text (unfit.U4 relation) = codes "U4 " ++ relation

-- a mark, and its parts
abbrev pub mark_text : Mark → List ℕ
mark_text U0 = codes "U0"
mark_text (Unsearchable unfit) = unfit_text unfit
mark_text U5 = codes "U5"

-- a relation has a mark, by which it is not run
abbrev pub not_runnable_text : Name → Mark → List ℕ
not_runnable_text relation mark =
    codes "not runnable " ++ relation ++ codes " " ++ mark_text mark ++ codes "\n"

-- the text of the mark of a relation, if it has one
abbrev pub IsMarkText : Il → Bool → Name → Option (List ℕ) → Type 0
IsMarkText il steps name None = HasMark il steps name None
IsMarkText il steps name (Some text) =
    (mark : Mark) × HasMark il steps name (Some mark) × (text ≡ mark_text mark)
