-- A run that has come to its end has its transcript.
use Rattle.std.proofs.Common.{◌≡◌, ℕ, suc, ◌+◌, ◌-◌, List, [], ◌∷◌, ◌++◌, length, ◌∙◌, refl, subst, arith, append_assoc, length-append}
use Rattle.st_il.specs.declared.definition.Il.{Il}
use Rattle.st_il.specs.Names.{Name}
use Rattle.st_semantics.specs.Transcript as run
use Rattle.st_semantics.specs.Transcript.{Term, Transcript}
use Rattle.st_runs.specs.declared.transcript.Ending.{Ending}
use Rattle.st_runs.specs.declared.transcript.Ending.TheVariants.{Stuck, Fuel}
use Rattle.st_runs.specs.inner.Reaches.{EndsBehind}
use Rattle.st_runs.specs.Runs.{Reaches, begins, goes_on}
use Rattle.st_runs.specs.Transcript.{IsTranscript, ending_of}

-- the terms behind the start, where these stand before a term and these behind it
record IsRun (il : Il) (relation : Name) (start : Term) (fuel : ℕ) (terms : List Term) (ending : run.Ending) : Type 0 where
  after : List Term
  terms_are : terms ≡ start ∷ after
  transcript : Transcript il relation fuel start after ending

-- what is run from a term on, is run from the start on
run_from : (il : Il) (relation : Name) (start : Term) (before : List Term) (term : Term) → Reaches il relation start before term
    → (fuel : ℕ) (more : List Term) (ending : run.Ending) → Transcript il relation fuel term more ending
    → IsRun il relation start (fuel + length before) (before ++ term ∷ more) ending
run_from il relation start before term begins fuel more ending rest =
    let same : fuel ≡ fuel + 0 = omega arith in
    record { after = more; terms_are = refl; transcript = subst (λ n. Transcript il relation n start more ending) same rest }
run_from il relation start before last (goes_on {before = front} {term = term} reaches next) fuel more ending rest =
    let one = run_from il relation start front term reaches (suc fuel) (last ∷ more) ending (next, rest) in
    let longer : suc fuel + length front ≡ fuel + length (front ++ term ∷ []) = omega (arith, length-append front (term ∷ [])) in
    record {
      after = one.after;
      terms_are = append_assoc front (term ∷ []) (last ∷ more) ∙ one.terms_are;
      transcript = subst (λ n. Transcript il relation n start one.after ending) longer one.transcript;
    }

-- how it ends with the fuel that is left
ended : (il : Il) (relation : Name) (fuel count : ℕ) (last : Term) (ending : Ending) → EndsBehind il relation fuel count last ending
    → (left : ℕ) × (left + count ≡ fuel) × Transcript il relation left last [] (ending_of ending)
ended il relation fuel count last Stuck (most, stuck) = (fuel - count, omega (arith, most), stuck)
ended il relation fuel count last Fuel (all, goes) = (0, omega (arith, all), goes)

pub transcript_of : (il : Il) (relation : Name) (fuel : ℕ) (start : Term) (before : List Term) (last : Term) (ending : Ending) → Reaches il relation start before last
    → EndsBehind il relation fuel (length before) last ending → IsTranscript il relation fuel start (before ++ last ∷ []) ending
transcript_of il relation fuel start before last ending reaches ends =
    let (left, all, rest) = ended il relation fuel (length before) last ending ends in
    let one = run_from il relation start before last reaches left [] (ending_of ending) rest in
    record {
      after = one.after;
      terms_are = one.terms_are;
      transcript = subst (λ n. Transcript il relation n start one.after (ending_of ending)) all one.transcript;
    }
