use Rattle.std.proofs.Common.{◌≡◌, ℕ, take}
use Rattle.st_il.specs.declared.definition.Il.{Il}
use Rattle.st_il.specs.declared.value.Env.{Env}
use Rattle.st_search.specs.declared.holes.Evaluated.{Evaluated}
use Rattle.st_search.specs.inner.Holes.{AreHoles, matched_of}
use Rattle.st_search.proofs.holes.patterns_of.Given as goal

abbrev pub invariant-loop-i : goal.invariant-loop-i
invariant-loop-i l = (il : Il) (n : ℕ) (env : Env) (which : Evaluated) → AreHoles il n env which l.exps l.holes → l.patterns ≡ matched_of which (take l.i l.exps)
