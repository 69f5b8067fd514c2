-- The values of expressions, one after another.
use Rattle.std.proofs.Common.{◌≡◌, refl, sym, ◌∙◌, ap, subst, ℕ, ◌+◌, ◌<◌, ◌≤◌, List, [], ◌∷◌, ◌++◌, length, drop, get_or, append-nil}
use Rattle.st_il.specs.declared.definition.SyntaxDef.{SyntaxDef}
use Rattle.st_il.specs.declared.expression.IlExp.{IlExp}
use Rattle.st_il.specs.declared.value.Env.{Env}
use Rattle.st_il.specs.declared.value.Value.{Value}
use Rattle.st_semantics.specs.declared.outcome.Outcome.{Outcome}
use Rattle.st_semantics.specs.declared.outcome.Outcome.TheVariants.{Val}
use Rattle.st_semantics.specs.declared.outcome.Outcomes.{Outcomes}
use Rattle.st_semantics.specs.declared.outcome.Outcomes.TheVariants.{Values, Stopped}
use Rattle.st_semantics.specs.Evaluation.{Answers, tasks, then_all, Stops, Gives, GivesAll, none, stop, next}
use Rattle.st_match.specs.inner.Prefix.{behind_values}
use Rattle.st_match.proofs.Builds.{behind_values-then, behind_values-none}
use Rattle.st_search.proofs.Sequences.{drop_step, drop_whole}

-- whatever the expressions from a number on come to, all come to that behind these values
abbrev pub GiveBehind : List SyntaxDef → Answers → Env → List IlExp → ℕ → List Value → Type 0
GiveBehind defs C env es i vs = (r : Outcomes) → GivesAll defs C (tasks env (drop i es)) r → GivesAll defs C (tasks env es) (behind_values vs r)

module _ (defs : List SyntaxDef) (C : Answers) (env : Env) (es : List IlExp) where
  pub behind_start : GiveBehind defs C env es 0 []
  behind_start r g = subst (GivesAll defs C (tasks env es)) (sym (behind_values-none r)) g

  module _ (i : ℕ) (e : IlExp) (within : i < length es) (is : e ≡ get_or es i e) (vs : List Value) (so_far : GiveBehind defs C env es i vs) where
    pub behind_next : (v : Value) (longer : List Value) → Gives defs C env e (Val v) → longer ≡ vs ++ v ∷ [] → GiveBehind defs C env es (i + 1) longer
    behind_next v longer gives more r g =
        subst (GivesAll defs C (tasks env es)) (behind_values-then vs v r ∙ ap (λ z. behind_values z r) (sym more))
        (so_far (then_all v r) (subst (λ z. GivesAll defs C (tasks env z) (then_all v r)) (sym (drop_step es i e within is)) (next v r gives g refl)))

    pub behind_stop : (o : Outcome) → Gives defs C env e o → Stops o → GivesAll defs C (tasks env es) (Stopped o)
    behind_stop o gives stops =
        so_far (Stopped o) (subst (λ z. GivesAll defs C (tasks env z) (Stopped o)) (sym (drop_step es i e within is)) (stop o gives stops refl))

  pub behind_end : (i : ℕ) (vs : List Value) → length es ≤ i → GiveBehind defs C env es i vs → GivesAll defs C (tasks env es) (Values vs)
  behind_end i vs end so_far =
      subst (λ z. GivesAll defs C (tasks env es) (Values z)) (append-nil vs)
      (so_far (Values []) (subst (λ z. GivesAll defs C (tasks env z) (Values [])) (sym (drop_whole es i end)) (none refl)))
