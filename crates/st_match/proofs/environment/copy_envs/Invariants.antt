use Rattle.std.proofs.Common.{◌≡◌, take}
use Rattle.st_match.proofs.environment.copy_envs.Given as goal

abbrev pub invariant-loop-env : goal.invariant-loop-env
invariant-loop-env l = l.copies ≡ take l.env-index l.envs
