use Rattle.std.proofs.Common.{◌≡◌, ◌<◌, ◌++◌, List, ℕ, get_or}
use Rattle.st_num.specs.Signs.{spelling}
use Rattle.st_num.specs.declared.mark.Mark.TheVariants.{Turnstile}
use Rattle.st_num.specs.declared.mark.TheConstants.Mark.{ALL as SIGNS}
use Rattle.st_scan.proofs.sign.sign_at.Given as goal

-- no sign so far stands at the front
abbrev pub invariant-loop-at : goal.invariant-loop-at
invariant-loop-at l = (k : ℕ) (rest : List ℕ) → k < l.at → ¬ (l.bytes ≡ spelling (get_or SIGNS k Turnstile) ++ rest)
