-- An environment of some variables of another one, of those that have values there.
use Rattle.std.proofs.Common.{◌≡◌, refl, sym, ◌∙◌, ap₂, subst, true, ◌&&◌, List, [], ◌∷◌, ◌++◌, bytes_eq, inl, inr}
use Rattle.st_il.specs.declared.value.Env.{Env}
use Rattle.st_il.specs.Names.{Name, has_name, all_known}
use Rattle.st_semantics.specs.Environments.{Entry, names_of}
use Rattle.st_semantics.proofs.Names.{Within, within-cases, within-left, within-right, known-within, bytes-same, or-left, or-right}
use Rattle.st_eval.specs.inner.Beside.{entries_among}
use Rattle.st_eval.proofs.InByteOrder.{names_in}
use Rattle.st_eval.proofs.Lookups.{entries_among-name}

within_known : (bound xs : List Name) → Within xs bound → all_known bound xs ≡ true
within_known bound [] w = refl
within_known bound (y ∷ ys) w =
    ap₂ (λ p q. p && q) (w y (or-left (bytes_eq y y) (has_name ys y) (bytes-same y))) (within_known bound ys (λ x i. w x (or-right (bytes_eq x y) (has_name ys x) i)))

-- what is bound or else one of some others is bound there or else one of these
pub few_bound : (env : Env) (names : List Name) (few : Env) → few.entries ≡ entries_among env names → (others : List Name) → all_known (names_of env ++ others) names ≡ true → all_known (names_of few ++ others) names ≡ true
few_bound env names few few_are others all = within_known (names_of few ++ others) names there
  where
    there : Within names (names_of few ++ others)
    there x i = elim (within-cases (names_of env) others x (known-within (names_of env ++ others) names all x i)) [
      | inl j ↦ within-left (names_of few) others x (subst (λ (z : List Entry). has_name (names_in z) x ≡ true) (sym few_are) (entries_among-name env names x i ∙ j))
      | inr j ↦ within-right (names_of few) others x j
    ]
