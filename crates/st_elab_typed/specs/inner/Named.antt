-- The iterations in an expression name the variables of a scope that they iterate there.
use Rattle.std.specs.Prelude.{◌≡◌, ℕ, List, [], ◌∷◌, ◌++◌, length}
use Rattle.st_il.specs.declared.expression.IlExp.{IlExp, out-IlExp}
use Rattle.st_il.specs.declared.expression.IlExp.TheOpen.{IlExp-F}
use Rattle.st_il.specs.declared.expression.Iteration.{Iteration}
use Rattle.st_il.specs.declared.expression.ListItem.{ListItem}
use Rattle.st_il.specs.declared.expression.PathSeg.{PathSeg}
use Rattle.st_il.specs.Occurrences.{occurs}
use Rattle.st_dims.specs.declared.within.Within.{Within}
use Rattle.st_dims.specs.Around.{entered}
use Rattle.st_semantics.specs.Iterations.{count_of, index_of, kind_of}
use Rattle.st_semantics.specs.Operands.{operands_at, item_exp, segment_exps}
use Rattle.st_elab_table.specs.declared.decls.Scope.{Scope}
use Rattle.st_elab_table.specs.Iterations.{iterated_in}

-- the level is no iteration
abbrev pub IsNoIteration : IlExp-F IlExp Iteration ListItem PathSeg → Type 0
IsNoIteration (IlExp-F.Iter how names body) = ⊥
IsNoIteration level = Unit {0}

mutual
  -- each iteration in an expression that has this round it names what it iterates
  pub data Names (S : Scope) : Within → IlExp → Type 0 where
    by_parts : {w : Within} {x : IlExp} → IsNoIteration (out-IlExp x)
        → AllName S w (operands_at item_exp segment_exps (out-IlExp x)) → Names S w x
    by_body : {w : Within} {x : IlExp} (how : Iteration) (names : List (List ℕ)) (body : IlExp)
        → out-IlExp x ≡ IlExp-F.Iter how names body
        → names ≡ iterated_in S.variables (length w.kinds) (w.indices ++ index_of how)
        (λ name. occurs name body)
        → Names S (entered (kind_of how) (index_of how) w) body → AllName S w (count_of how)
        → Names S w x

  -- so does each in these
  pub data AllName (S : Scope) : Within → List IlExp → Type 0 where
    none : {w : Within} → AllName S w []
    more : {w : Within} {x : IlExp} {xs : List IlExp} → Names S w x → AllName S w xs
        → AllName S w (x ∷ xs)
