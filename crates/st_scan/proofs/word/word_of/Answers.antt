use Rattle.std.proofs.Common.{◌≡◌, ◌<◌, ℕ, get_or, sym, ap, ◌∙◌, arith}
use Rattle.std.proofs.lemmas.Bool.{false≢true}
use Rattle.std.proofs.lemmas.Bool.Decides.{Decides-eqb}
use Rattle.std.proofs.lemmas.Slice.Eq.{slice_eq-Decides}
use Rattle.std.proofs.lemmas.Option.{get_or_from_slice_get}
use borrow.Author.Count.{below_more}
use Rattle.st_num.specs.Words.{word_spelling}
use Rattle.st_num.specs.declared.word.TheConstants.Word.{ALL as WORDS}
use Rattle.st_num.specs.declared.word.Word.TheVariants.{Syntax}
use Rattle.st_scan.proofs.Tables.{word_place, word_place_below, word_there}
use Rattle.st_scan.proofs.FirstBytes.{word_other}
use Rattle.st_scan.proofs.word.word_of.Goals as goal
use Rattle.st_scan.proofs.word.word_of.Goals.{else-byte-first-via-then-byte-first+else-eq, else-byte-first-via-else-byte-first}

pub loop-at-preserved : goal.loop-at-preserved
loop-at-preserved c = λ k below.
    let Absent : ℕ → Type 0 = λ j. ¬ (c.args.name.now ≡ word_spelling (get_or WORDS j Syntax)) in
    let here : Absent c.loop-at.at = elim c.else-byte-first.branch [
      | else-byte-first-via-then-byte-first+else-eq w ↦ λ e. false≢true (sym w.if-eq.false ∙ (slice_eq-Decides Decides-eqb w.as_bytes.result.now c.args.name.now _ w.eq.ensures).1 (w.as_bytes.ensures.value ∙ w.spelling.ensures ∙ sym e))
      | else-byte-first-via-else-byte-first w ↦ word_other c.args.first_bytes.now.words c.args.name.now c.loop-at.at c.in_ok-first.field-0.now c.args.first_bytes.now.of_words c.loop-at-test.true w.if-byte-first.false (get_or_from_slice_get c.args.name.now 0 c.in_ok-first.field-0.now 0 (sym c.in_ok-first.ensures.value))
    ] in
    below_more Absent c.loop-at.at c.loop-at.invariant here k below

pub returns : goal.returns
returns c = λ (w, e).
    let below : word_place w < 18 = word_place_below w in
    c.loop-at.invariant (word_place w) (omega (arith, below, c.loop-at-test.false)) (e ∙ ap word_spelling (sym (word_there w)))
