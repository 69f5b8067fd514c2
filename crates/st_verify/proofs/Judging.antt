-- What a verifier answers to a line, from its parts.
use Rattle.std.proofs.Common.{◌≡◌, ◌+◌, ◌<◌, ◌≤◌, ◌^◌, List, [], ◌∷◌, Option, Some, None, Result, Ok, Err, IsErrAnd, length, refl, sym, subst, arith}
use Rattle.st_deriv.specs.declared.line.Line.{Line}
use Rattle.st_deriv.specs.declared.line.Line.TheVariants.{Head, From, Node, Step, End}
use Rattle.st_il.specs.declared.definition.Il.{Il}
use Rattle.st_verify.specs.declared.fault.VerifyFault.{VerifyFault}
use Rattle.st_verify.specs.declared.fault.VerifyFault.TheVariants.{Memory}
use Rattle.st_il.specs.Small.{IsSmallIl}
use Rattle.st_num.specs.declared.rule.RuleId.TheVariants.{M3, M4, M6}
use Rattle.st_semantics.specs.declared.notes.Notes.{Notes}
use Rattle.st_semantics.specs.declared.verify_rule.VerifyRule.{VerifyRule}
use Rattle.st_semantics.specs.Accepts.{ReadsTo, AreSound}
use Rattle.st_semantics.specs.Notes.{noted}
use Rattle.st_semantics.specs.Verdict.{Verdict}
use Rattle.st_semantics.proofs.Sound.{law_of_reading}
use Rattle.st_semantics.proofs.Choices.{law_of_choice}
use Rattle.st_semantics.proofs.Verdicts.{law_of_verdicts}
use Rattle.st_verify.specs.SmallNotes.{small_noted}
use Rattle.st_verify.specs.SmallVerdict.{FirstBreach}
use Rattle.st_verify.specs.Verifier.{Checking, IsKept, JudgesNext, refusal_by}
use Rattle.st_verify.proofs.SmallLines.{AreTrees, noted_same}
use Rattle.st_verify.proofs.SmallModes.{small_keeps_modes, small_kinded, small_clauses_keep, small_clauses_name}
use Rattle.st_verify.proofs.SmallNotings.{length-noted, trees_more}
use Rattle.st_verify.proofs.SmallVerdicts.{verdict_of_breach}

-- it refuses the line by the first rule that is broken
pub refuses_next : (old new : Checking) (line : Line) (broken : Option VerifyRule) (rule : VerifyRule) (fault : VerifyFault)
    → Verdict old.il old.notes line broken → broken ≡ Some rule → fault ≡ refusal_by rule old.notes → new ≡ record old { refusal = Some (refusal_by rule old.notes) }
    → JudgesNext old line (Err fault) new
refuses_next old new line broken rule fault verdict is fault_is new_is =
    subst (λ one. JudgesNext old line (Err one) new) (sym fault_is) (subst (Verdict old.il old.notes line) is verdict, (refl, new_is))

-- for want of memory nothing changes
pub wants_memory : (old new : Checking) (line : Line) (result : Result (Unit {0}) VerifyFault) → IsErrAnd result (λ fault. fault ≡ Memory) → new ≡ old
    → JudgesNext old line result new
wants_memory old new line (Ok done) memory same = absurd memory
wants_memory old new line (Err fault) memory same = subst (λ one. JudgesNext old line (Err one) new) (sym memory) same

-- at most one step more
steps-noted : (il : Il) (notes : Notes) (line : Line) → (noted il notes line).steps ≤ notes.steps + 1
steps-noted il notes (Head format relation) = omega arith
steps-noted il notes (From values) = omega arith
steps-noted il notes (Node line) = omega arith
steps-noted il notes (Step number) = omega arith
steps-noted il notes (End ending) = omega arith

-- what is kept is kept by an accepted line
pub kept_more : (il : Il) (notes new : Notes) (line : Line) → IsKept il notes → Verdict il notes line None → length notes.lines < 2 ^ 32 → new ≡ noted il notes line → IsKept il new
kept_more il notes new line kept verdict few is =
    let count = length-noted il notes line in
    let steps = steps-noted il notes line in
    subst (IsKept il) (sym is) (record {
      small = kept.small;
      judged = trees_more il notes line kept.small kept.judged verdict;
      few = omega (arith, kept.few);
      few_steps = omega (arith, kept.few_steps);
    })

-- what the code asks and notes is the verdict, and what is noted
pub verdict_kept : (il : Il) (notes : Notes) (line : Line) (broken : Option VerifyRule) → IsKept il notes → FirstBreach il notes line broken → Verdict il notes line broken
verdict_kept il notes line broken kept first =
    let source = kept.small.source in
    let means = kept.small.means in
    subst (λ one. Verdict one notes line broken) (sym means)
    (verdict_of_breach source kept.small.small notes broken line (subst (λ one. AreTrees one notes) means kept.judged)
    (subst (λ one. FirstBreach one notes line broken) means first))

pub noted_kept : (il : Il) (notes : Notes) (line : Line) → IsKept il notes → small_noted notes line ≡ noted il notes line
noted_kept il notes line kept =
    let means = kept.small.means in
    subst (λ one. small_noted notes line ≡ noted one notes line) (sym means)
    (noted_same kept.small.source notes line (subst (λ one. AreTrees one notes) means kept.judged))

-- the internal language of a verifier is small
kept_small : (checking : Checking) (il : Il) (notes : Notes) → il ≡ checking.il → IsKept il notes → IsSmallIl checking.il
kept_small checking il notes same kept = subst IsSmallIl same kept.small

-- a line has one verdict, and lines that are read vouch for what they say
pub kept_one : (checking : Checking) (il : Il) (notes : Notes) → il ≡ checking.il → IsKept il notes → (line : Line) (broken other : Option VerifyRule)
    → Verdict checking.il checking.notes line broken → Verdict checking.il checking.notes line other → broken ≡ other
kept_one checking il notes same kept line =
    let small = kept_small checking il notes same kept in
    let choice = law_of_choice checking.il (small_clauses_keep checking.il (M3 ∷ M4 ∷ M6 ∷ []) small) (small_clauses_name checking.il small) in
    law_of_verdicts checking.il choice.2 checking.notes line

pub kept_sound : (checking : Checking) (il : Il) (notes : Notes) → il ≡ checking.il → IsKept il notes → (lines : List Line) (read : Notes) → ReadsTo checking.il lines read
    → AreSound checking.il lines
kept_sound checking il notes same kept =
    let small = kept_small checking il notes same kept in
    law_of_reading checking.il (small_keeps_modes checking.il small) (small_kinded checking.il small)
