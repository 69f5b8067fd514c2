-- Expressions behind references.
use Rattle.std.specs.Prelude.{List, map}
use Rattle.std.specs.Borrow.{Bor}
use Rattle.st_il.specs.declared.expression.IlExp.{IlExp}

-- the expressions behind references
abbrev pub exps_now : List (Bor IlExp) → List IlExp
exps_now es = map (λ (e : Bor IlExp). e.now) es
