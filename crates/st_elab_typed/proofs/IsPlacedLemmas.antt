-- What is placed is placed at its level, and in its parts.
use Rattle.std.proofs.Common.{◌≡◌, subst, List, ◌∷◌}
use Rattle.std.specs.Prelude.{IsTrue}
use Rattle.st_il.specs.declared.definition.Listed.{Listed}
use Rattle.st_il.specs.declared.expression.IlExp.{IlExp, out-IlExp}
use Rattle.st_semantics.specs.OperationTypes.{Level}
use Rattle.st_ilcheck.specs.Naming.{names_kept}
use Rattle.st_ilcheck.specs.Parts.{Part, parts_at}
use Rattle.st_elab_typed.specs.inner.IsPlaced.{IsReached, IsPlaced, ArePlaced, placed, more}

-- what is placed at a level, and in its parts
pub record KeptAt (ls : List Listed) (y : Level) : Type 0 where
  pub reached : IsReached ls y
  pub names : IsTrue (names_kept ls y)
  pub parts : ArePlaced (parts_at ls y)

kept : (ls : List Listed) (x : IlExp) → IsPlaced ls x → KeptAt ls (out-IlExp x)
kept ls x (placed reached names parts) = record { reached = reached; names = names; parts = parts }

pub IsPlaced-at : (ls : List Listed) (x : IlExp) (y : Level) → out-IlExp x ≡ y → IsPlaced ls x → KeptAt ls y
IsPlaced-at ls x y is k = subst (KeptAt ls) is (kept ls x k)

-- the first of some parts, and the others
pub ArePlaced-first : (p : Part) (ps : List Part) → ArePlaced (p ∷ ps) → IsPlaced p.0 p.1 × ArePlaced ps
ArePlaced-first p ps (more k ks) = (k, ks)
