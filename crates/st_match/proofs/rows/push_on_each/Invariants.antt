use Rattle.std.proofs.Common.{◌≡◌, ◌++◌, [], ◌∷◌, List, map, take, drop}
use Rattle.st_il.specs.declared.value.Env.{Env}
use Rattle.st_match.proofs.rows.push_on_each.Given as goal

abbrev pub invariant-loop-i : goal.invariant-loop-i
invariant-loop-i l = l.rows ≡ map (λ (row : List Env). row ++ l.env ∷ []) (take l.i l.fn.rows) ++ drop l.i l.fn.rows
