-- What a call answers: the one filling, or that there is none.
use Rattle.std.specs.Prelude.{◌≡◌, List, map, Result, Ok, Err, ⊤}
use Rattle.st_num.specs.declared.span.Span.{Span}
use Rattle.st_notation.specs.declared.filled.Filled.{Filled}
use Rattle.st_notation.specs.declared.filled.Filled.TheVariants as filled
use Rattle.st_notation.specs.declared.filled.FitFault.{FitFault}
use Rattle.st_notation.specs.declared.filled.FitFault.TheVariants as fault
use Rattle.st_notation.specs.Fits.{Filling, one, run, missing}

-- what a filling of the code is
abbrev pub plain : Filled → Filling
plain (filled.One e) = one e.now
plain (filled.Run es) = run es.now
plain filled.Missing = missing

-- what the fillings of the code are, in order
abbrev pub fillings : List Filled → List Filling
fillings = map plain

-- A refusal tells its place, and that nothing fits. Want of memory tells nothing.
abbrev pub Refuses : Span → (List Filling → Type 0) → FitFault → Type 0
Refuses at P (fault.NoFit there) = (there ≡ at) × ((fs : List Filling) → P fs → ⊥)
Refuses at P fault.Memory = ⊤

-- an answer is as the first says, and a refusal as the second does
abbrev pub Answers : {X : Type 0} → (X → Type 0) → (FitFault → Type 0) → Result X FitFault → Type 0
Answers P Q (Ok x) = P x
Answers P Q (Err refused) = Q refused

-- the fillings that fit, or a refusal at this place
abbrev pub Fitted : Span → (List Filling → Type 0) → Result (List Filled) FitFault → Type 0
Fitted at P = Answers (λ found. P (fillings found)) (Refuses at P)

-- no other fillings fit than these
abbrev pub IsOnly : (List Filling → Type 0) → List Filled → Type 0
IsOnly P found = (fs : List Filling) → P fs → fs ≡ fillings found
