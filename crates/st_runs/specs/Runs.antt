-- Runs of a relation from a term, and all that it derives from one; where a chain begins there, it
-- is told instead.
use Rattle.std.specs.Prelude.{◌≡◌, ℕ, ◌≤◌, true, List, [], ◌∷◌, ◌++◌, length, All, AllPairs, Contains, IsSomeAnd}
use Rattle.std.specs.Ordering.{is_lt}
use Rattle.st_il.specs.declared.definition.Il.{Il}
use Rattle.st_il.specs.declared.definition.RelationDef.{RelationDef}
use Rattle.st_il.specs.declared.value.Value.{Value}
use Rattle.st_il.specs.Order.{values_cmp}
use Rattle.st_search.specs.declared.answer.Chain.{Chain}
use Rattle.st_search.specs.Answers.{goal_of, IsChainOf}
use Rattle.st_il.specs.Names.{Name}
use Rattle.st_il.specs.Definitions.{syntaxes, relation_named}
use Rattle.st_semantics.specs.Directions.{outputs_of}
use Rattle.st_semantics.specs.Environments.{AreTypedValues}
use Rattle.st_semantics.specs.Chains.{DeepAt}
use Rattle.st_semantics.specs.Derivation.{Derivable}
use Rattle.st_semantics.specs.Goals.{AreInputs}
use Rattle.st_semantics.specs.Transcript.{Term, IsNext, Transcript}
use Rattle.st_answers.specs.declared.status.Status.{Status}
use Rattle.st_answers.specs.declared.status.Status.TheVariants as answer
use Rattle.st_runs.specs.declared.transcript.Ending.{Ending}
use Rattle.st_runs.specs.RunTexts.{transcript_text, term_lines, deep_text, outputs_text}
use Rattle.st_runs.specs.Transcript.{ending_of, status_of}

-- no chain begins at a term, where goals are followed to this depth
abbrev pub IsShallow : Il → Name → ℕ → Term → Type 0
IsShallow il relation depth term = DeepAt il depth (goal_of relation term) → ⊥

-- ---- runs

-- over the terms before it, a run comes from the start to a term: from each to the next by the least
-- that is derivable
pub data Reaches (il : Il) (relation : Name) (start : Term) : List Term → Term → Type 0 where
  begins : Reaches il relation start [] start
  goes_on : {before : List Term} {term next : Term} → Reaches il relation start before term
      → IsNext il relation term next
      → Reaches il relation start (before ++ term ∷ []) next

-- What is said of a run from a term, which has a value for each input of the relation, of its type;
-- with this much fuel.
pub data RunSays (il : Il) (relation : Name) (fuel depth : ℕ) (start : Term) : Status → List ℕ
    → Type 0 where
  -- no chain begins at a term of the run: its transcript, all of whose terms are such values
  ended : {status : Status} {bytes : List ℕ} (after : List Term) (ending : Ending)
      → Transcript il relation fuel start after (ending_of ending)
      → All (IsShallow il relation depth) (start ∷ after) → All (AreInputs il relation) (start ∷ after)
      → status ≡ status_of ending → bytes ≡ transcript_text (start ∷ after) ending
      → RunSays il relation fuel depth start status bytes
  -- the run comes to a term at which a chain begins, the first such one: the transcript up to it, and
  -- a chain
  deep : {bytes : List ℕ} (before : List Term) (last : Term) (chain : Chain)
      → Reaches il relation start before last → length before ≤ fuel
      → All (IsShallow il relation depth) before → IsChainOf il depth (goal_of relation last) chain
      → All (AreInputs il relation) (before ++ last ∷ [])
      → bytes ≡ term_lines 0 (before ++ last ∷ []) ++ deep_text depth chain
      → RunSays il relation fuel depth start answer.Depth bytes

-- ---- all that is derivable

-- these are all that are derivable from a term, each once, in the order of values
pub record AreAllNext (il : Il) (relation : Name) (term : Term) (found : List Term) : Type 0 where
  pub sound : All (Derivable il relation term) found
  pub complete : (other : Term) → Derivable il relation term other → Contains found other
  pub sorted : AllPairs (λ (a b : Term). is_lt (values_cmp a b) ≡ true) found

-- the values are one for each output of the relation, of its type
abbrev pub AreOutputsOf : Il → Name → List Value → Type 0
AreOutputsOf il relation vs =
    IsSomeAnd (relation_named il relation)
    (λ (r : RelationDef). AreTypedValues (syntaxes il) (outputs_of il relation r.holes) vs)

-- What is said of all that is derivable from a term in one step.
pub data NextSays (il : Il) (relation : Name) (depth : ℕ) (term : Term) : Status → List ℕ → Type 0
  where
    -- no chain begins at the term: all that is derivable, each of which has a value for each output
    -- of the relation, of its type
    found : {bytes : List ℕ} (outputs : List Term) → IsShallow il relation depth term
        → AreAllNext il relation term outputs → All (AreOutputsOf il relation) outputs
        → bytes ≡ outputs_text outputs
        → NextSays il relation depth term answer.Done bytes
    -- a chain begins there
    deep : {bytes : List ℕ} (chain : Chain) → IsChainOf il depth (goal_of relation term) chain
        → bytes ≡ deep_text depth chain → NextSays il relation depth term answer.Depth bytes
