-- What expressions come to where calls are answered by more.
use Rattle.std.proofs.Common.{List}
use Rattle.st_il.specs.declared.definition.SyntaxDef.{SyntaxDef}
use Rattle.st_il.specs.declared.expression.IlExp.{IlExp}
use Rattle.st_il.specs.declared.value.Env.{Env}
use Rattle.st_il.specs.declared.value.Value.{Value}
use Rattle.st_semantics.specs.declared.outcome.Outcome.{Outcome}
use Rattle.st_semantics.specs.declared.outcome.Outcomes.{Outcomes}
use Rattle.st_semantics.specs.declared.outcome.Outcomes.TheVariants.{Values, Stopped}
use Rattle.st_il.specs.Names.{Name}
use Rattle.st_semantics.specs.Evaluation.{Answers, Task, Called, Gives, GivesAll, strict, variable, call, iteration_ends, iteration, none, stop, next}

module _ (defs : List SyntaxDef) (A C : Answers) (more : (fun : Name) (vs : List Value) (o : Outcome) → A fun vs o → C fun vs o) where
  called_by : (fun : Name) (r : Outcomes) (o : Outcome) → Called A fun r o → Called C fun r o
  called_by fun (Values vs) o a = more fun vs o a
  called_by fun (Stopped p) o a = a

  mutual
    pub Gives-by : {env : Env} {e : IlExp} {o : Outcome} → Gives defs A env e o → Gives defs C env e o
    Gives-by (strict es f r fe all oe) = strict es f r fe (GivesAll-by all) oe
    Gives-by (variable x fe oe) = variable x fe oe
    Gives-by {o = o} (call fun args r fe all a) = call fun args r fe (GivesAll-by all) (called_by fun r o a)
    Gives-by (iteration_ends how xs body r fe all w) = iteration_ends how xs body r fe (GivesAll-by all) w
    Gives-by (iteration how xs body r envs s fe all w every oe) = iteration how xs body r envs s fe (GivesAll-by all) w (GivesAll-by every) oe

    pub GivesAll-by : {ts : List Task} {r : Outcomes} → GivesAll defs A ts r → GivesAll defs C ts r
    GivesAll-by (none e) = none e
    GivesAll-by (stop o g b e) = stop o (Gives-by g) b e
    GivesAll-by (next v rest g all e) = next v rest (Gives-by g) (GivesAll-by all) e
