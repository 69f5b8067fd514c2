use Rattle.st_term.proofs.TypedValues.{Suffices}
use Rattle.st_term.proofs.typed.all_typed.Given as goal

abbrev pub invariant-loop-i : goal.invariant-loop-i
invariant-loop-i l = Suffices l.types l.holes l.values l.i
