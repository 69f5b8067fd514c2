-- What holds where more has a value, and an `otherwise` and a goal say less.
use Rattle.std.proofs.Common.{true, List, [], ◌∷◌}
use Rattle.st_il.specs.declared.expression.IlExp.{IlExp}
use Rattle.st_il.specs.declared.expression.IlPrem.{IlPrem}
use Rattle.st_il.specs.declared.expression.Iteration.{Iteration}
use Rattle.st_il.specs.declared.value.Env.{Env}
use Rattle.st_il.specs.declared.value.Value.{Value}
use Rattle.st_il.specs.declared.value.Value.TheVariants as value
use Rattle.st_il.specs.Names.{Name}
use Rattle.st_semantics.specs.Iterations.{count_of}
use Rattle.st_semantics.specs.Evaluation.{Task, tasks}
use Rattle.st_semantics.specs.Holding as h
use Rattle.st_semantics.specs.Holding.{Meaning, HaveValues, Derives, Instance, AreElements, Holds, HoldAll}

module _ (V W : Meaning) (more : (env : Env) (e : IlExp) (v : Value) → V env e v → W env e v) where
  pub HaveValues-map : (ts : List Task) (vs : List Value) → HaveValues V ts vs → HaveValues W ts vs
  HaveValues-map [] [] have = have
  HaveValues-map [] (v ∷ vs) have = have
  HaveValues-map (t ∷ ts) [] have = have
  HaveValues-map (t ∷ ts) (v ∷ vs) have = (more t.0 t.1 v have.0, HaveValues-map ts vs have.1)

  pub AreElements-map : (how : Iteration) (xs : List Name) (env : Env) (envs : List Env) → AreElements V how xs env envs → AreElements W how xs env envs
  AreElements-map how xs env envs are = (are.0, HaveValues-map (tasks env (count_of how)) are.0 are.1, are.2)

  mutual
    pub Holds-map : {P Q : Type 0} (D E : Derives) → ((r : Name) (vs : List Value) → D r vs → E r vs) → (P → Q) → {env : Env} {p : IlPrem} → Holds V P D env p → Holds W Q E env p
    Holds-map D E g f {env = env} (h.condition e is v) = h.condition e is (more env e (value.Bool true) v)
    Holds-map D E g f (h.otherwise is o) = h.otherwise is (f o)
    Holds-map D E g f {env = env} (h.goal r es vs is have d) = h.goal r es vs is (HaveValues-map (tasks env es) vs have) (g r vs d)
    Holds-map D E g f {env = env} (h.each how xs body envs is are all) = h.each how xs body envs is (AreElements-map how xs env envs are) (HoldAll-map D E g f all)

    pub HoldAll-map : {P Q : Type 0} (D E : Derives) → ((r : Name) (vs : List Value) → D r vs → E r vs) → (P → Q) → {ps : List Instance} → HoldAll V P D ps → HoldAll W Q E ps
    HoldAll-map D E g f h.done = h.done
    HoldAll-map D E g f (h.more x xs) = h.more (Holds-map D E g f x) (HoldAll-map D E g f xs)
