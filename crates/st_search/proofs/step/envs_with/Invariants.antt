use Rattle.std.proofs.Common.{◌≡◌, take}
use Rattle.st_search.proofs.step.envs_with.Given as goal

abbrev pub invariant-loop-env : goal.invariant-loop-env
invariant-loop-env l = l.more ≡ take l.env-index l.envs
