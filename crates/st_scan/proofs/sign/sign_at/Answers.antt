use Rattle.std.proofs.Common.{◌≡◌, ◌<◌, ◌++◌, List, ℕ, get_or, sym, ap, ◌∙◌, arith}
use Rattle.std.proofs.lemmas.Option.{get_or_from_slice_get}
use borrow.Author.Count.{below_more}
use Rattle.st_num.specs.Signs.{spelling}
use Rattle.st_num.specs.declared.mark.Mark.TheVariants.{Turnstile}
use Rattle.st_num.specs.declared.mark.TheConstants.Mark.{ALL as SIGNS}
use Rattle.st_scan.proofs.Tables.{sign_place, sign_place_below, sign_there, sign_found, sign_absent}
use Rattle.st_scan.proofs.FirstBytes.{sign_other}
use Rattle.st_scan.proofs.sign.sign_at.Goals as goal
use Rattle.st_scan.proofs.sign.sign_at.Goals.{else-byte-first-via-then-byte-first+else-starts_with, else-byte-first-via-else-byte-first}

pub returns-then-starts_with : goal.returns-then-starts_with
returns-then-starts_with c = sign_found _ c.as_bytes.result.now c.loop-at.at _ (c.as_bytes.ensures.value ∙ c.spelling.ensures) c.starts_with.ensures.value c.if-starts_with.true c.loop-at.invariant

pub loop-at-preserved : goal.loop-at-preserved
loop-at-preserved c = λ k rest below.
    let bytes = c.args.bytes.now in
    let Absent : ℕ → Type 0 = λ j. (more : List ℕ) → ¬ (bytes ≡ spelling (get_or SIGNS j Turnstile) ++ more) in
    let here : Absent c.loop-at.at = elim c.else-byte-first.branch [
      | else-byte-first-via-then-byte-first+else-starts_with w ↦ sign_absent bytes w.as_bytes.result.now (get_or SIGNS c.loop-at.at Turnstile) _ (w.as_bytes.ensures.value ∙ w.spelling.ensures) w.starts_with.ensures.value w.if-starts_with.false
      | else-byte-first-via-else-byte-first w ↦ sign_other c.args.first_bytes.now.signs bytes c.loop-at.at c.in_ok-first.field-0.now c.args.first_bytes.now.of_signs c.loop-at-test.true w.if-byte-first.false (get_or_from_slice_get bytes 0 c.in_ok-first.field-0.now 0 (sym c.in_ok-first.ensures.value))
    ] in
    below_more Absent c.loop-at.at (λ j before more. c.loop-at.invariant j more before) here k below rest

pub returns : goal.returns
returns c = record {
  never = λ mark rest e.
      let below : sign_place mark < 47 = sign_place_below mark in
      c.loop-at.invariant (sign_place mark) rest (omega (arith, below, c.loop-at-test.false)) (e ∙ ap (λ m. spelling m ++ rest) (sym (sign_there mark)));
}
