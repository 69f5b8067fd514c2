-- What a search comes to, and where a run goes from a term.
use Rattle.std.specs.Prelude.{◌≡◌, ℕ, ◌≤◌, false, List, [], ◌∷◌, ◌++◌, length, All, None}
use Rattle.st_il.specs.declared.definition.Il.{Il}
use Rattle.st_search.specs.Answers.{goal_of, AreOutputs, IsChainOf}
use Rattle.st_search.specs.Searchable.{HasNoOtherwise}
use Rattle.st_il.specs.Names.{Name}
use Rattle.st_semantics.specs.Derivation.{Derivable}
use Rattle.st_semantics.specs.Goals.{AreInputs}
use Rattle.st_semantics.specs.Marks.{HasMark}
use Rattle.st_semantics.specs.Transcript.{Term, IsNext, GoesOn}
use Rattle.st_runs.specs.declared.searching.Searched.{Searched}
use Rattle.st_runs.specs.declared.searching.Searched.TheVariants as searched
use Rattle.st_runs.specs.declared.searching.Searching.{Searching}
use Rattle.st_runs.specs.declared.searching.Step.{Step}
use Rattle.st_runs.specs.declared.searching.Step.TheVariants as step
use Rattle.st_answers.specs.declared.status.Status.{Status}
use Rattle.st_answers.specs.declared.status.Status.TheVariants as answer
use Rattle.st_runs.specs.declared.transcript.Ending.TheVariants.{Stuck, Fuel}
use Rattle.st_runs.specs.Runs.{IsShallow, Reaches, AreOutputsOf}
use Rattle.st_runs.specs.RunTexts.{ending_line, term_lines, deep_text}

-- the relation of the language can be searched, to this depth
pub record CanSearch (s : Searching) : Type 0 where
  pub relation : HasMark s.language.now false s.relation.now None
  pub plain : HasNoOtherwise s.language.now s.relation.now
  pub depth : 1 ≤ s.depth

-- what is derivable from a term has a value for each input of the relation, of its type
abbrev pub LeadsOn : Il → Name → Type 0
LeadsOn il relation =
    (term next : Term) → Derivable il relation term next → AreInputs il relation next

-- what is derivable from a term has a value for each output of the relation, of its type
abbrev pub GivesTyped : Il → Name → Type 0
GivesTyped il relation =
    (term next : Term) → Derivable il relation term next → AreOutputsOf il relation next

-- what a search from a term comes to
abbrev pub SearchesTo : Il → Name → ℕ → Term → Searched → Type 0
SearchesTo il relation depth term (searched.Outputs outputs) =
    IsShallow il relation depth term × AreOutputs il depth (goal_of relation term) outputs.found
SearchesTo il relation depth term (searched.Deep chain) =
    IsChainOf il depth (goal_of relation term) chain

-- where a run goes from a term
abbrev pub StepsTo : Il → Name → ℕ → Term → Step → Type 0
StepsTo il relation depth term (step.To next) =
    IsShallow il relation depth term × IsNext il relation term next
StepsTo il relation depth term step.Stuck =
    IsShallow il relation depth term × (GoesOn il relation term → ⊥)
StepsTo il relation depth term (step.Deep chain) =
    IsChainOf il depth (goal_of relation term) chain

-- how it is told, behind the lines of its terms, that a run ends after so many steps because the next
-- one goes there
abbrev pub Tells : ℕ → List ℕ → ℕ → Step → Status → List ℕ → Type 0
Tells depth bytes steps (step.To next) status all =
    (status ≡ answer.Fuel) × (all ≡ bytes ++ ending_line Fuel steps)
Tells depth bytes steps step.Stuck status all =
    (status ≡ answer.Done) × (all ≡ bytes ++ ending_line Stuck steps)
Tells depth bytes steps (step.Deep chain) status all =
    (status ≡ answer.Depth) × (all ≡ bytes ++ deep_text depth chain)

-- the step goes nowhere
abbrev pub Ends : Step → Type 0
Ends (step.To next) = ⊥
Ends step.Stuck = Unit {0}
Ends (step.Deep chain) = Unit {0}

-- a run that has come to a term after so many steps, whose line is not written yet; no chain begins
-- before
pub record IsUnderWay (il : Il) (relation : Name) (depth : ℕ) (start term : Term) (k : ℕ)
    (bytes : List ℕ) : Type 0 where
  pub before : List Term
  pub reaches : Reaches il relation start before term
  pub count : length before ≡ k
  pub bytes_are : bytes ≡ term_lines 0 before
  pub shallow : All (IsShallow il relation depth) before
  pub inputs : All (AreInputs il relation) (before ++ term ∷ [])
