-- How the dimensions found so far change with a further occurrence.
use Rattle.std.specs.Prelude.{List, length, Bool, true, nat_lt, Option, Some, None}
use Rattle.st_num.specs.declared.dim.Kind.{Kind}

-- the chain is shorter than the one known so far, or none is known
abbrev pub is_shorter : List Kind → Option (List Kind) → Bool
is_shorter chain None = true
is_shorter chain (Some known) = nat_lt (length chain) (length known)
