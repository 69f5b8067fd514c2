-- How what stands at the outputs of a goal meets an answer.
use Rattle.std.specs.Prelude.{◌≡◌, ℕ, List, [], ◌∷◌}
use Rattle.st_il.specs.declared.definition.Il.{Il}
use Rattle.st_il.specs.declared.definition.Listed.{Listed}
use Rattle.st_il.specs.declared.definition.SyntaxDef.{SyntaxDef}
use Rattle.st_il.specs.declared.expression.IlExp.{IlExp}
use Rattle.st_il.specs.declared.expression.IlPrem.{IlPrem}
use Rattle.st_il.specs.declared.tree.Child.TheVariants as child
use Rattle.st_il.specs.declared.value.Env.{Env}
use Rattle.st_il.specs.declared.value.Value.{Value}
use Rattle.st_il.specs.Names.{Name}
use Rattle.st_semantics.specs.Evaluation.{tasks}
use Rattle.st_semantics.specs.Holding.{HaveValues}
use Rattle.st_semantics.specs.Variables.{vars_of}
use Rattle.st_semantics.specs.Calls.{has_value_at}
use Rattle.st_match.specs.inner.Found.{AreExtensions}
use Rattle.st_eval.specs.inner.Beside.{entries_among}
use Rattle.st_search.specs.declared.answer.Output.{Output}
use Rattle.st_search.specs.declared.found.Solution.{Solution}
use Rattle.st_search.specs.declared.holes.Hole.{Hole}
use Rattle.st_search.specs.inner.Lists.{EachComesTo}
use Rattle.st_search.specs.inner.Holes.{AreFitting}
use Rattle.st_search.specs.inner.Solutions.{with_children}
use Rattle.st_search.specs.inner.Contracts.{IsGoalOf}

-- The values of an answer fit, and these are the environments in which the patterns have theirs.
pub record MeetsAnswer (defs : List SyntaxDef) (ls : List Listed) (env : Env) (holes : List Hole)
    (patterns : List IlExp) (o : Output) (found : List Solution) : Type 0 where
  pub values : List Value
  pub fit : AreFitting holes o.values values
  pub few : Env
  pub few_are : few.entries ≡ entries_among env (vars_of patterns)
  pub envs : List Env
  pub extend : AreExtensions defs ls patterns values few envs
  pub found_are : found ≡ with_children (child.One o.tree ∷ []) envs

-- what meets an answer, which is nothing where its values do not fit
pub data AreMeetings (defs : List SyntaxDef) (ls : List Listed) (env : Env) (holes : List Hole)
    (patterns : List IlExp) (o : Output) (found : List Solution) : Type 0 where
  misfit : ((vs : List Value) → AreFitting holes o.values vs → ⊥) → found ≡ []
      → AreMeetings defs ls env holes patterns o found
  fits : MeetsAnswer defs ls env holes patterns o found
      → AreMeetings defs ls env holes patterns o found

-- what meets one of some answers, one after another
abbrev pub AllMeetings : List SyntaxDef → List Listed → Env → List Hole → List IlExp → List Output
    → List Solution → Type 0
AllMeetings defs ls env holes patterns = EachComesTo (AreMeetings defs ls env holes patterns)

-- A premise is a goal of the relation whose inputs have these values, every value taken at n.
pub record IsAskedWith (il : Il) (n : ℕ) (bound : List Name) (ls : List Listed) (env : Env)
    (p : IlPrem) (relation : Name) (inputs : List Value) (outs : List IlExp) : Type 0 where
  pub ins : List IlExp
  pub goal : IsGoalOf il bound ls p relation ins outs
  pub have : HaveValues (has_value_at il n) (tasks env ins) inputs
