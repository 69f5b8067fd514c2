-- How the premises of a node are tested, in written order, with the children of the node.
use Rattle.std.specs.Prelude.{◌≡◌, ℕ, true, false, List, [], ◌∷◌, Option, Some, None, if◌then◌else◌}
use Rattle.st_deriv.specs.declared.line.Ref.{Ref, out-Ref}
use Rattle.st_deriv.specs.declared.line.Ref.TheOpen.{Ref-F}
use Rattle.st_il.specs.declared.definition.Il.{Il}
use Rattle.st_il.specs.declared.expression.IlExp.{IlExp}
use Rattle.st_il.specs.declared.expression.Iteration.{Iteration}
use Rattle.st_il.specs.declared.expression.IlPrem.{IlPrem, out-IlPrem}
use Rattle.st_il.specs.declared.expression.IlPrem.TheOpen.{IlPrem-F}
use Rattle.st_il.specs.declared.value.Env.{Env}
use Rattle.st_il.specs.declared.value.Value.{Value}
use Rattle.st_il.specs.declared.value.Value.TheVariants as value
use Rattle.st_semantics.specs.declared.verify_rule.VerifyRule.{VerifyRule}
use Rattle.st_semantics.specs.declared.verify_rule.VerifyRule.TheVariants.{V8, V9}
use Rattle.st_semantics.specs.declared.notes.Notes.{Notes}
use Rattle.st_semantics.specs.declared.outcome.Outcome.{Outcome}
use Rattle.st_semantics.specs.declared.outcome.Outcomes.{Outcomes}
use Rattle.st_semantics.specs.declared.outcome.Outcomes.TheVariants.{Values, Stopped}
use Rattle.st_il.specs.Names.{Name}
use Rattle.st_il.specs.Definitions.{syntaxes}
use Rattle.st_semantics.specs.Iterations.{count_of}
use Rattle.st_semantics.specs.Evaluation.{tasks, GivesAll, way, Ends, Goes}
use Rattle.st_semantics.specs.Variables.{cites}
use Rattle.st_semantics.specs.Holding.{Instance, each_instance}
use Rattle.st_semantics.specs.Calls.{CallAt}
use Rattle.st_semantics.specs.Notes.{judgement_on}
use Rattle.st_semantics.specs.Checks.{Answer, Test, accepts, refuses, asks, evaluates, refusal, checking_depth}

-- several expressions come to these outcomes at 500
abbrev pub ComeTo : Il → Env → List IlExp → Outcomes → Type 0
ComeTo il env es r = GivesAll (syntaxes il) (CallAt il checking_depth) (tasks env es) r

-- the node on a line has this judgement
abbrev pub Judges : Notes → ℕ → Name → List Value → Type 0
Judges notes line relation vs =
    judgement_on notes line ≡ Some (record { relation = relation; values = vs })

-- the child of a goal, by what the goal's holes come to
abbrev pub judged : Notes → ℕ → Name → Outcomes → Test
judged notes line relation (Values vs) = asks (Judges notes line relation vs) V9
judged notes line relation (Stopped o) = refuses (refusal V9 o)

-- the rule by which a premise is refused: V9 where it cites a relation, else V8
abbrev pub rule_at : IlPrem → VerifyRule
rule_at p = if cites p then V9 else V8

-- a premise takes a child where it cites a relation
abbrev pub TakenChild : Type 0
TakenChild = Option Ref

-- what an iterated premise takes stands for its elements: one child each, or none at all
abbrev pub IsTakenFor : List Ref → TakenChild → Type 0
IsTakenFor inner None = inner ≡ []
IsTakenFor inner (Some child) = out-Ref child ≡ Ref-F.Many inner

-- the child is not one line, as a goal has it
abbrev pub IsNoLine : Ref → Type 0
IsNoLine child = (line : ℕ) → out-Ref child ≡ Ref-F.Line line → ⊥

-- the child is one line, as a goal has it
abbrev pub IsOneLine : Ref → Type 0
IsOneLine child = (line : ℕ) × (out-Ref child ≡ Ref-F.Line line)

-- the child of a goal is one line, and its node has the judgement of the goal
pub data JudgesChild (il : Il) (notes : Notes) (env : Env) (relation : Name) (es : List IlExp)
    (child : Ref) (answer : Answer) : Type 0 where
  on_line : (line : ℕ) (r : Outcomes) → out-Ref child ≡ Ref-F.Line line → ComeTo il env es r
      → judged notes line relation r answer → JudgesChild il notes env relation es child answer
  of_many : IsNoLine child → refuses V9 answer → JudgesChild il notes env relation es child answer

-- an iterated premise is refused before an element is tested: its child is one line, or it comes to
-- no elements
pub data RefusesEach (il : Il) (at : Instance) (how : Iteration) (xs : List Name) (taken : TakenChild)
    (answer : Answer) : Type 0 where
  of_one : (child : Ref) → taken ≡ Some child → IsOneLine child → refuses V9 answer
      → RefusesEach il at how xs taken answer
  ends : (inner : List Ref) (r : Outcomes) (o : Outcome)
      → IsTakenFor inner taken → ComeTo il at.0 (count_of how) r → way how xs at.0 r ≡ Ends o
      → refuses (refusal (rule_at at.1) o) answer → RefusesEach il at how xs taken answer

-- a premise is tested with this answer, and no premise inside of it is
pub data TestsAtOnce (il : Il) (notes : Notes) (at : Instance) (taken : TakenChild) (answer : Answer)
    : Type 0 where
  otherwise : out-IlPrem at.1 ≡ IlPrem-F.Otherwise → accepts answer
      → TestsAtOnce il notes at taken answer
  condition : (e : IlExp) → out-IlPrem at.1 ≡ IlPrem-F.If e
      → evaluates il V8 at.0 e (value.Bool true) answer → TestsAtOnce il notes at taken answer
  goal : (relation : Name) (es : List IlExp) (child : Ref)
      → out-IlPrem at.1 ≡ IlPrem-F.Goal relation es → taken ≡ Some child
      → JudgesChild il notes at.0 relation es child answer → TestsAtOnce il notes at taken answer
  each_refused : (how : Iteration) (xs : List Name) (body : IlPrem)
      → out-IlPrem at.1 ≡ IlPrem-F.Each how xs body → RefusesEach il at how xs taken answer
      → TestsAtOnce il notes at taken answer

-- What a premise takes of the children: nothing, or the first one where it cites a relation. The
-- others are left.
abbrev pub TakenBy : IlPrem → List Ref → TakenChild → List Ref → Type 0
TakenBy p children None others = (cites p ≡ false) × (children ≡ others)
TakenBy p children (Some child) others = (cites p ≡ true) × (children ≡ child ∷ others)

mutual
  -- A premise, with the child that it takes, is tested with this answer.
  pub data Tests (il : Il) (notes : Notes) : Instance → TakenChild → Answer → Type 0 where
    at_once : {at : Instance} {taken : TakenChild} {answer : Answer}
        → TestsAtOnce il notes at taken answer → Tests il notes at taken answer
    each : {at : Instance} {taken : TakenChild} {answer : Answer} (how : Iteration) (xs : List Name)
        (body : IlPrem) (inner : List Ref) (r : Outcomes) (envs : List Env)
        → out-IlPrem at.1 ≡ IlPrem-F.Each how xs body → IsTakenFor inner taken
        → ComeTo il at.0 (count_of how) r → way how xs at.0 r ≡ Goes envs
        → Walks il notes (each_instance envs body) inner answer → Tests il notes at taken answer

  -- The premises are tested one after another, each with what it takes. The first refusal is the
  -- answer. A child that is missing is V9 there, and one that is left over is V9 after the last
  -- premise.
  pub data Walks (il : Il) (notes : Notes) : List Instance → List Ref → Answer → Type 0 where
    done : {answer : Answer} → accepts answer → Walks il notes [] [] answer
    left_over : {child : Ref} {children : List Ref} {answer : Answer} → refuses V9 answer
        → Walks il notes [] (child ∷ children) answer
    missing : {at : Instance} {rest : List Instance} {answer : Answer} → cites at.1 ≡ true
        → refuses V9 answer → Walks il notes (at ∷ rest) [] answer
    goes : {at : Instance} {rest : List Instance} {children : List Ref} {answer : Answer}
        (taken : TakenChild) (others : List Ref) → TakenBy at.1 children taken others
        → Tests il notes at taken None → Walks il notes rest others answer
        → Walks il notes (at ∷ rest) children answer
    stops : {at : Instance} {rest : List Instance} {children : List Ref} {answer : Answer}
        (taken : TakenChild) (others : List Ref) (rule : VerifyRule)
        → TakenBy at.1 children taken others → Tests il notes at taken (Some rule)
        → refuses rule answer → Walks il notes (at ∷ rest) children answer
