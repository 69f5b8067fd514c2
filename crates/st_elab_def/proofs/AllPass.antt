-- What passes as a whole passes in its parts.
use Rattle.std.proofs.Common.{List, [], ◌∷◌, ◌++◌, map}
use Rattle.st_elab_table.specs.declared.decls.Decls.{Decls}
use Rattle.st_elab_def.specs.Breaches.{AllPass}
use Rattle.st_elab_def.specs.Definitions.{Definition}
use Rattle.st_elab_def.specs.Phases.{Placed, Question, of_definition}
use Rattle.st_elab_def.specs.inner.Walk.{AllPassAt}

module _ (D : Decls) where
  pub AllPass-front : (qs rs : List Question) → AllPass D (qs ++ rs) → AllPass D qs
  AllPass-front [] rs h = tt
  AllPass-front (q ∷ qs) rs (a, h) = (a, AllPass-front qs rs h)

  pub AllPass-back : (qs rs : List Question) → AllPass D (qs ++ rs) → AllPass D rs
  AllPass-back [] rs h = h
  AllPass-back (q ∷ qs) rs (a, h) = AllPass-back qs rs h

  pub AllPassAt-front : (ps rs : List Placed) → AllPassAt D (ps ++ rs) → AllPassAt D ps
  AllPassAt-front [] rs h = tt
  AllPassAt-front (p ∷ ps) rs (a, h) = (a, AllPassAt-front ps rs h)

  pub AllPassAt-back : (ps rs : List Placed) → AllPassAt D (ps ++ rs) → AllPassAt D rs
  AllPassAt-back [] rs h = h
  AllPassAt-back (p ∷ ps) rs (a, h) = AllPassAt-back ps rs h

  -- the questions of one definition
  pub AllPass-at : (d : Definition) (ps : List Placed) → AllPass D (map (of_definition d) ps) → AllPassAt D ps
  AllPass-at d [] h = tt
  AllPass-at d (p ∷ ps) (a, h) = (a, AllPass-at d ps h)
