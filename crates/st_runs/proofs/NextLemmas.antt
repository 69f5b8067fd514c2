-- What is said of all that is derivable, by what answers say.
use Rattle.std.proofs.Common.{◌≡◌, sym, ◌∙◌, ap, subst, ℕ, List, [], ◌++◌}
use Rattle.std.specs.Prelude.{Result, Ok, Err, IfOk}
use Rattle.std.proofs.lemmas.List.Elements.{All-weaker}
use Rattle.st_il.specs.declared.definition.Il.{Il}
use Rattle.st_num.specs.declared.memory.NoMemory.{NoMemory}
use Rattle.st_search.specs.declared.answer.Chain.{Chain}
use Rattle.st_search.specs.declared.answer.Output.{Output}
use Rattle.st_search.specs.Answers.{goal_of, AreOutputs, IsChainOf, values_in}
use Rattle.st_il.specs.Names.{Name}
use Rattle.st_semantics.specs.Derivation.{Derivable}
use Rattle.st_semantics.specs.Laws.{LawOfDepthOfTrees}
use Rattle.st_semantics.specs.Transcript.{Term}
use Rattle.st_answers.specs.declared.answer.Answer.{Answer}
use Rattle.st_answers.specs.declared.status.Status.TheVariants as answer
use Rattle.st_runs.specs.Runs.{IsShallow, AreOutputsOf, NextSays}
use Rattle.st_runs.specs.RunTexts.{outputs_text, deep_text}
use Rattle.st_runs.specs.inner.Searching.{GivesTyped}
use Rattle.st_runs.proofs.SearchLemmas.{are_all_next}

module _ (il : Il) (relation : Name) (depth : ℕ) (term : Term) where
  -- what is said by an answer
  abbrev pub NextSaysOf : Result Answer NoMemory → Type 0
  NextSaysOf result = IfOk result (λ given. NextSays il relation depth term given.status given.bytes.items)

  pub says_outputs : (found : List Output) (result : Result Answer NoMemory) → LawOfDepthOfTrees → IsShallow il relation depth term → AreOutputs il depth (goal_of relation term) found
      → GivesTyped il relation → IfOk result (λ given. given.status ≡ answer.Done) → IfOk result (λ given. given.bytes.items ≡ outputs_text (values_in found)) → NextSaysOf result
  says_outputs found (Err e) law shallow are typed status bytes = tt
  says_outputs found (Ok given) law shallow are typed status bytes =
      let all = are_all_next law il relation depth term found are in
      subst (λ s. NextSays il relation depth term s given.bytes.items) (sym status)
      (NextSays.found (values_in found) shallow all (All-weaker (Derivable il relation term) (AreOutputsOf il relation) (typed term) (values_in found) all.sound) bytes)

  pub says_deep : (chain : Chain) (front : List ℕ) (result : Result Answer NoMemory) → front ≡ [] → IsChainOf il depth (goal_of relation term) chain → IfOk result (λ given. given.status ≡ answer.Depth)
      → IfOk result (λ given. given.bytes.items ≡ front ++ deep_text depth chain) → NextSaysOf result
  says_deep chain front (Err e) none is status bytes = tt
  says_deep chain front (Ok given) none is status bytes =
      subst (λ s. NextSays il relation depth term s given.bytes.items) (sym status) (NextSays.deep chain is (bytes ∙ ap (λ z. z ++ deep_text depth chain) none))
