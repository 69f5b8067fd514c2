-- A run, line by line: how far it has come, and what is said where it ends.
use Rattle.std.proofs.Common.{◌≡◌, ℕ, ◌+◌, ◌-◌, ◌≤◌, List, [], ◌∷◌, ◌++◌, length, ap, ◌∙◌, sym, refl, append_assoc, arith, length-append, append-nil, subst}
use Rattle.std.specs.Prelude.{All, Result, Ok, Err, IfOk}
use Rattle.std.proofs.lemmas.List.Elements.{All-nil, All-cons, All-push, All-contains, Contains-push}
use Rattle.st_num.specs.declared.memory.NoMemory.{NoMemory}
use Rattle.st_il.specs.declared.definition.Il.{Il}
use Rattle.st_search.specs.declared.answer.Chain.{Chain}
use Rattle.st_search.specs.Answers.{goal_of, IsChainOf}
use Rattle.st_il.specs.Names.{Name}
use Rattle.st_semantics.specs.Goals.{AreInputs}
use Rattle.st_semantics.specs.Transcript.{Term}
use Rattle.st_answers.specs.declared.answer.Answer.{Answer}
use Rattle.st_runs.specs.declared.searching.Step.{Step}
use Rattle.st_runs.specs.declared.searching.Step.TheVariants as step
use Rattle.st_answers.specs.declared.status.Status.{Status}
use Rattle.st_answers.specs.declared.status.Status.TheVariants as answer
use Rattle.st_runs.specs.declared.transcript.Ending.{Ending}
use Rattle.st_runs.specs.declared.transcript.Ending.TheVariants.{Stuck, Fuel}
use Rattle.st_runs.specs.Runs.{IsShallow, begins, goes_on, RunSays}
use Rattle.st_runs.specs.RunTexts.{term_line, term_lines, ending_line, transcript_text, deep_text}
use Rattle.st_runs.specs.Transcript.{status_of}
use Rattle.st_runs.specs.inner.Reaches.{EndsBehind}
use Rattle.st_runs.specs.inner.Searching.{LeadsOn, StepsTo, Tells, IsUnderWay}
use Rattle.st_runs.proofs.Reaching.{transcript_of}

-- one line more
term_lines-append : (k : ℕ) (terms : List Term) (term : Term) → term_lines k (terms ++ term ∷ []) ≡ term_lines k terms ++ term_line (k + length terms) term
term_lines-append k [] term =
    let e : k ≡ k + 0 = omega arith in
    append-nil (term_line k term) ∙ ap (λ n. term_line n term) e
term_lines-append k (first ∷ terms) term =
    let later = term_lines-append (k + 1) terms term in
    let e : k + 1 + length terms ≡ k + length (first ∷ terms) = omega arith in
    ap (λ bytes. term_line k first ++ bytes) (later ∙ ap (λ n. term_lines (k + 1) terms ++ term_line n term) e)
    ∙ sym (append_assoc (term_line k first) (term_lines (k + 1) terms) (term_line (k + length (first ∷ terms)) term))

pub at_start : (il : Il) (relation : Name) (depth : ℕ) (start : Term) → AreInputs il relation start → IsUnderWay il relation depth start start 0 []
at_start il relation depth start is = record {
  before = [];
  reaches = begins;
  count = refl;
  bytes_are = refl;
  shallow = All-nil (IsShallow il relation depth);
  inputs = All-cons (AreInputs il relation) start [] is (All-nil (AreInputs il relation));
}

-- the term to which it has come is one of the relation
pub is_term : (il : Il) (relation : Name) (depth : ℕ) (start term shown : Term) (k : ℕ) (bytes : List ℕ) → IsUnderWay il relation depth start term k bytes → shown ≡ term → AreInputs il relation shown
is_term il relation depth start term shown k bytes run is =
    subst (AreInputs il relation) (sym is) (All-contains (AreInputs il relation) (run.before ++ term ∷ []) term run.inputs (Contains-push run.before term))

-- the bytes behind which the line of the term was written
pub line_of : (bytes more : List ℕ) (k : ℕ) (shown term : Term) → more ≡ bytes ++ term_line k shown → shown ≡ term → more ≡ bytes ++ term_line k term
line_of bytes more k shown term e is = e ∙ ap (λ t. bytes ++ term_line k t) is

-- where it goes from there
pub step_of : (il : Il) (relation : Name) (depth : ℕ) (shown term : Term) (found goes : Step) → StepsTo il relation depth shown found → shown ≡ term → found ≡ goes → StepsTo il relation depth term goes
step_of il relation depth shown term found goes steps is found_is = subst (StepsTo il relation depth term) found_is (subst (λ t. StepsTo il relation depth t found) is steps)

-- the bytes with the line of the term
with_line : (il : Il) (relation : Name) (depth : ℕ) (start term : Term) (k : ℕ) (bytes : List ℕ) (run : IsUnderWay il relation depth start term k bytes)
    → bytes ++ term_line k term ≡ term_lines 0 (run.before ++ term ∷ [])
with_line il relation depth start term k bytes run =
    let e : 0 + length run.before ≡ k = omega (arith, run.count) in
    ap (λ text. text ++ term_line k term) run.bytes_are ∙ ap (λ n. term_lines 0 run.before ++ term_line n term) (sym e)
    ∙ sym (term_lines-append 0 run.before term)

pub goes_further : (il : Il) (relation : Name) (depth : ℕ) (start term next : Term) (k : ℕ) (bytes more : List ℕ) → IsUnderWay il relation depth start term k bytes
    → more ≡ bytes ++ term_line k term → LeadsOn il relation → StepsTo il relation depth term (step.To next) → IsUnderWay il relation depth start next (k + 1) more
goes_further il relation depth start term next k bytes more run e leads goes =
    record {
      before = run.before ++ term ∷ [];
      reaches = goes_on run.reaches goes.1;
      count = length-append run.before (term ∷ []) ∙ ap (λ n. n + 1) run.count;
      bytes_are = e ∙ with_line il relation depth start term k bytes run;
      shallow = All-push (IsShallow il relation depth) run.before term run.shallow goes.0;
      inputs = All-push (AreInputs il relation) (run.before ++ term ∷ []) next run.inputs (leads term next goes.1.derivable);
    }

-- one less than all the terms is those before the last
before_last : (terms : List Term) (term : Term) (k : ℕ) → length terms ≡ k → length (terms ++ term ∷ []) - 1 ≡ k
before_last terms term k e = let all = length-append terms (term ∷ []) in omega (arith, all)

-- a run that ends at this term, where no chain begins
run_ends : (il : Il) (relation : Name) (fuel depth : ℕ) (start term : Term) (k : ℕ) (bytes more all : List ℕ) (ending : Ending) (status : Status)
    → IsUnderWay il relation depth start term k bytes → more ≡ bytes ++ term_line k term → IsShallow il relation depth term
    → EndsBehind il relation fuel k term ending → status ≡ status_of ending → all ≡ more ++ ending_line ending k → RunSays il relation fuel depth start status all
run_ends il relation fuel depth start term k bytes more all ending status run e shallow how status_is e_all =
    let ran = transcript_of il relation fuel start run.before term ending run.reaches
    (let F : ℕ → Type 0 = λ n. EndsBehind il relation fuel n term ending in subst F (sym run.count) how) in
    let text : all ≡ transcript_text (run.before ++ term ∷ []) ending =
    e_all ∙ ap (λ text. text ++ ending_line ending k) (e ∙ with_line il relation depth start term k bytes run)
    ∙ ap (λ n. term_lines 0 (run.before ++ term ∷ []) ++ ending_line ending n) (sym (before_last run.before term k run.count)) in
    RunSays.ended ran.after ending ran.transcript
    (subst (All (IsShallow il relation depth)) ran.terms_are (All-push (IsShallow il relation depth) run.before term run.shallow shallow))
    (subst (All (AreInputs il relation)) ran.terms_are run.inputs)
    status_is (text ∙ ap (λ terms. transcript_text terms ending) ran.terms_are)

-- a run that comes to a term where a chain begins
run_deepens : (il : Il) (relation : Name) (fuel depth : ℕ) (start term : Term) (k : ℕ) (bytes more all : List ℕ) (chain : Chain) (status : Status)
    → IsUnderWay il relation depth start term k bytes → more ≡ bytes ++ term_line k term → k ≤ fuel → IsChainOf il depth (goal_of relation term) chain
    → status ≡ answer.Depth → all ≡ more ++ deep_text depth chain → RunSays il relation fuel depth start status all
run_deepens il relation fuel depth start term k bytes more all chain status run e few is status_is e_all =
    let fits : length run.before ≤ fuel = omega (arith, run.count, few) in
    subst (λ s. RunSays il relation fuel depth start s all) (sym status_is)
    (RunSays.deep run.before term chain run.reaches fits run.shallow is run.inputs
    (e_all ∙ ap (λ text. text ++ deep_text depth chain) (e ∙ with_line il relation depth start term k bytes run)))

-- ---- of answers

-- what is said of a run that answers this
abbrev pub RunSaysOf : Il → Name → ℕ → ℕ → Term → Result Answer NoMemory → Type 0
RunSaysOf il relation fuel depth start result = IfOk result (λ given. RunSays il relation fuel depth start given.status given.bytes.items)

pub stuck : (il : Il) (relation : Name) (fuel depth : ℕ) (start term : Term) (k : ℕ) (bytes more : List ℕ) (result : Result Answer NoMemory)
    → IsUnderWay il relation depth start term k bytes → more ≡ bytes ++ term_line k term → k ≤ fuel → StepsTo il relation depth term step.Stuck
    → IfOk result (λ given. given.status ≡ status_of Stuck) → IfOk result (λ given. given.bytes.items ≡ more ++ ending_line Stuck k)
    → RunSaysOf il relation fuel depth start result
stuck il relation fuel depth start term k bytes more (Ok given) run e few goes status text =
    run_ends il relation fuel depth start term k bytes more given.bytes.items Stuck given.status run e goes.0 (few, goes.1) status text
stuck il relation fuel depth start term k bytes more (Err none) run e few goes status text = tt

pub deepens : (il : Il) (relation : Name) (fuel depth : ℕ) (start term : Term) (k : ℕ) (bytes more : List ℕ) (chain : Chain) (result : Result Answer NoMemory)
    → IsUnderWay il relation depth start term k bytes → more ≡ bytes ++ term_line k term → k ≤ fuel → StepsTo il relation depth term (step.Deep chain)
    → IfOk result (λ given. given.status ≡ answer.Depth) → IfOk result (λ given. given.bytes.items ≡ more ++ deep_text depth chain)
    → RunSaysOf il relation fuel depth start result
deepens il relation fuel depth start term k bytes more chain (Ok given) run e few goes status text =
    run_deepens il relation fuel depth start term k bytes more given.bytes.items chain given.status run e few goes status text
deepens il relation fuel depth start term k bytes more chain (Err none) run e few goes status text = tt

-- the fuel is used up
at_end : (il : Il) (relation : Name) (fuel depth : ℕ) (start term : Term) (bytes more all : List ℕ) (goes : Step) (status : Status)
    → IsUnderWay il relation depth start term fuel bytes → more ≡ bytes ++ term_line fuel term → StepsTo il relation depth term goes
    → Tells depth more fuel goes status all → RunSays il relation fuel depth start status all
at_end il relation fuel depth start term bytes more all (step.To next) status run e goes tells =
    run_ends il relation fuel depth start term fuel bytes more all Fuel status run e goes.0 (refl, (next, goes.1.derivable)) tells.0 tells.1
at_end il relation fuel depth start term bytes more all step.Stuck status run e goes tells =
    let most : fuel ≤ fuel = omega arith in
    run_ends il relation fuel depth start term fuel bytes more all Stuck status run e goes.0 (most, goes.1) tells.0 tells.1
at_end il relation fuel depth start term bytes more all (step.Deep chain) status run e goes tells =
    let most : fuel ≤ fuel = omega arith in
    run_deepens il relation fuel depth start term fuel bytes more all chain status run e most goes tells.0 tells.1

pub finishes : (il : Il) (relation : Name) (fuel depth : ℕ) (start term : Term) (bytes more : List ℕ) (goes : Step) (result : Result Answer NoMemory)
    → IsUnderWay il relation depth start term fuel bytes → more ≡ bytes ++ term_line fuel term → StepsTo il relation depth term goes
    → IfOk result (λ given. Tells depth more fuel goes given.status given.bytes.items) → RunSaysOf il relation fuel depth start result
finishes il relation fuel depth start term bytes more goes (Ok given) run e steps tells =
    at_end il relation fuel depth start term bytes more given.bytes.items goes given.status run e steps tells
finishes il relation fuel depth start term bytes more goes (Err none) run e steps tells = tt
