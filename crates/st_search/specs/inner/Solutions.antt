-- Solutions with given environments.
use Rattle.std.specs.Prelude.{List, [], ◌∷◌}
use Rattle.st_il.specs.declared.tree.Child.{Child}
use Rattle.st_il.specs.declared.value.Env.{Env}
use Rattle.st_search.specs.declared.found.Solution.{Solution}

-- solutions with these environments, for each of which the same children stand
abbrev pub with_children : List Child → List Env → List Solution
with_children children [] = []
with_children children (env ∷ envs) =
    record { env = env; children = children } ∷ with_children children envs
