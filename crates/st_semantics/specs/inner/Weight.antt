-- How high expressions are, by which a recursion over their operands ends.
use Rattle.std.specs.Prelude.{ℕ, ◌+◌, max, List, map}
use Rattle.st_il.specs.declared.expression.IlExp.{IlExp, fold-IlExp}
use Rattle.st_il.specs.declared.expression.IlExp.TheOpen.{IlExp-F, Iteration-F}
use Rattle.st_il.specs.Height.{highest}
use Rattle.st_semantics.specs.Operands.{operands_at, item_at, segment_at}
use Rattle.st_semantics.specs.Iterations.{count_at}

-- the weight of a level whose parts have these weights
abbrev pub weight_at : IlExp-F ℕ ℕ ℕ (List ℕ) → ℕ
weight_at (IlExp-F.Iter how xs body) = 3 + max how body
weight_at level = 3 + highest (operands_at (λ n. n) (λ ns. ns) level)

-- the weight of an iteration whose count has this weight
abbrev pub count_weight_at : {L S : Type 0} → Iteration-F ℕ ℕ L S → ℕ
count_weight_at how = highest (count_at how)

-- the weight of an expression
abbrev pub weight : IlExp → ℕ
weight = fold-IlExp ℕ ℕ ℕ (List ℕ) weight_at count_weight_at item_at segment_at

-- the largest weight of some expressions
abbrev pub heaviest : List IlExp → ℕ
heaviest es = highest (map weight es)
