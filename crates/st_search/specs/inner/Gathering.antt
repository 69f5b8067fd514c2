-- What walks over all elements come to.
use Rattle.std.specs.Prelude.{◌≡◌, Bool, List, [], ◌∷◌}
use Rattle.st_il.specs.declared.definition.Listed.{Listed}
use Rattle.st_il.specs.declared.definition.SyntaxDef.{SyntaxDef}
use Rattle.st_il.specs.declared.expression.Iteration.{Iteration}
use Rattle.st_il.specs.declared.value.Env.{Env}
use Rattle.st_il.specs.Names.{Name}
use Rattle.st_eval.specs.declared.condition.Met.TheVariants as met
use Rattle.st_eval.specs.inner.Gathered.{IsGathered}
use Rattle.st_search.specs.declared.found.Solution.{Solution}
use Rattle.st_search.specs.declared.found.Walk.{Walk}
use Rattle.st_search.specs.inner.Lists.{Exists, EachComesTo}
use Rattle.st_search.specs.inner.Walks.{many}

-- a walk comes to what it gathers, with a child for that, or to nothing
pub data IsGatheredTo (defs : List SyntaxDef) (ls : List Listed) (known : List Name)
    (how : Iteration) (xs : List Name) (asks : Bool) (w : Walk) (found : List Solution)
    : Type 0 where
  holds : (env : Env) → IsGathered defs ls known how xs w.envs (met.Holds env)
      → found ≡ record { env = env; children = many asks w.children } ∷ []
      → IsGatheredTo defs ls known how xs asks w found
  fails : IsGathered defs ls known how xs w.envs met.Fails → found ≡ []
      → IsGatheredTo defs ls known how xs asks w found

-- what walks come to, one after another
abbrev pub AreGatheredTo : List SyntaxDef → List Listed → List Name → Iteration → List Name → Bool
    → List Walk → List Solution → Type 0
AreGatheredTo defs ls known how xs asks = EachComesTo (IsGatheredTo defs ls known how xs asks)

-- what one of the walks gathers is too high
abbrev pub SomeTooHigh : List SyntaxDef → List Listed → List Name → Iteration → List Name
    → List Walk → Type 0
SomeTooHigh defs ls known how xs ws =
    Exists (λ (w : Walk). IsGathered defs ls known how xs w.envs met.Deep) ws
