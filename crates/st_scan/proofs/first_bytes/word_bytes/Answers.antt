use Rattle.std.proofs.Common.{◌≡◌, ℕ, get_or, slice_set, sym, ap, ◌∙◌, subst, arith, length-set}
use Rattle.std.proofs.lemmas.List.Edits.{fill_by_more}
use Rattle.st_num.specs.Words.{word_spelling}
use Rattle.st_num.specs.declared.word.Word.TheVariants.{Syntax}
use Rattle.st_num.specs.declared.word.TheConstants.Word.{ALL as WORDS}
use Rattle.st_scan.specs.inner.FirstBytes.{first_byte}
use Rattle.st_scan.proofs.FirstBytes.{word_bytes_are}
use Rattle.st_scan.proofs.first_bytes.word_bytes.Goals as goal

pub loop-at-preserved : goal.loop-at-preserved
loop-at-preserved c = record {
  long = omega (arith, length-set {A = ℕ}, c.loop-at.invariant.long);
  same = λ k below.
      let byte_of : ℕ → ℕ = λ j. first_byte (word_spelling (get_or WORDS j Syntax)) in
      let here : first_byte c.as_bytes.result.now ≡ byte_of c.loop-at.at = ap first_byte (c.as_bytes.ensures.value ∙ c.spelling.ensures) in
      subst (λ byte. get_or (slice_set c.loop-at.bytes c.loop-at.at byte) k 0 ≡ byte_of k) (sym here)
      (fill_by_more byte_of c.loop-at.bytes c.loop-at.at 0 (omega (arith, c.loop-at.invariant.long)) c.loop-at.invariant.same k below);
}

pub returns : goal.returns
returns c = word_bytes_are c.loop-at.bytes c.loop-at.invariant.long (λ k below. c.loop-at.invariant.same k (omega arith))
