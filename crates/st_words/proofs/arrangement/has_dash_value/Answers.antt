use Rattle.std.proofs.Common.{◌≡◌, ◌∙◌, ap, sym, refl, true, false, map, string_bytes, drop, ◌+◌, arith, [], ◌∷◌, codes, nat_eq}
use Rattle.std.specs.Cmp.Lexicographic.{pointwise}
use Rattle.st_words.specs.Arranged.{is_end}
use Rattle.st_words.specs.inner.Fronts.{dash_value_from, is_dash, names_option}
use Rattle.st_words.proofs.DashLemmas.{dash_value-none, dash_value-end, dash_value-there, dash_value-first, dash_value-other}
use Rattle.st_words.proofs.Slices.{words_from, no_words_from}
use Rattle.st_words.proofs.arrangement.has_dash_value.Goals.{else-is_behind-via-then-is_behind+else-eq-2, else-is_behind-via-else-is_behind, then-eq-3, else-eq-3}
use Rattle.st_words.proofs.arrangement.has_dash_value.Goals as goal

pub returns-then-eq : goal.returns-then-eq
returns-then-eq c =
    let word = c.as_str-word.result.now in
    let rest = map string_bytes (drop (c.loop-word.word-index + 1) c.args.words.now) in
    let split = words_from c.args.words.now c.loop-word.word-index c.word-item.result word (omega arith) c.word-item.is c.as_str-word.ensures.value in
    let end : is_end word ≡ true = cc in
    sym (sym c.loop-word.invariant ∙ ap (dash_value_from c.loop-word.is_behind) split ∙ dash_value-end c.loop-word.is_behind word rest end)

pub returns-then-eq-2 : goal.returns-then-eq-2
returns-then-eq-2 c =
    let word = c.as_str-word.result.now in
    let rest = map string_bytes (drop (c.loop-word.word-index + 1) c.args.words.now) in
    let split = words_from c.args.words.now c.loop-word.word-index c.word-item.result word (omega arith) c.word-item.is c.as_str-word.ensures.value in
    let no_end : is_end word ≡ false = cc in
    let dash : is_dash word ≡ true = cc in
    sym (sym c.loop-word.invariant ∙ ap (dash_value_from c.loop-word.is_behind) split
    ∙ ap (λ b. dash_value_from b (word ∷ rest)) c.if-is_behind.true ∙ dash_value-there word rest no_end dash)

pub loop-word-preserved : goal.loop-word-preserved
loop-word-preserved c =
    let word = c.as_str-word.result.now in
    let rest = map string_bytes (drop (c.loop-word.word-index + 1) c.args.words.now) in
    let split = words_from c.args.words.now c.loop-word.word-index c.word-item.result word (omega arith) c.word-item.is c.as_str-word.ensures.value in
    let no_end : is_end word ≡ false = cc in
    let behind_is : c.if-eq-3.is_behind ≡ names_option word = elim c.if-eq-3.branch [
      | then-eq-3 w ↦ (
          let fuel : pointwise nat_eq word (codes "--fuel") ≡ true = cc in
          let named : names_option word ≡ true = rw fuel refl in
          w.is_behind-is ∙ w.if-eq-3.true ∙ sym named
          )
      | else-eq-3 w ↦ (
          let no_fuel : pointwise nat_eq word (codes "--fuel") ≡ false = cc in
          let named : names_option word ≡ pointwise nat_eq word (codes "--depth") = rw no_fuel refl in
          w.is_behind-is ∙ w.eq-is_behind.ensures ∙ sym named
          )
    ] in
    let one_on : dash_value_from c.loop-word.is_behind (word ∷ rest) ≡ dash_value_from (names_option word) rest = elim c.else-is_behind.branch [
      | else-is_behind-via-then-is_behind+else-eq-2 w ↦ dash_value-other c.loop-word.is_behind word rest no_end (cc)
      | else-is_behind-via-else-is_behind w ↦ ap (λ b. dash_value_from b (word ∷ rest)) w.if-is_behind.false ∙ dash_value-first word rest no_end
    ] in
    ap (λ b. dash_value_from b rest) behind_is ∙ sym one_on ∙ ap (dash_value_from c.loop-word.is_behind) (sym split) ∙ c.loop-word.invariant

pub returns : goal.returns
returns c =
    let left : map string_bytes (drop c.loop-word.word-index c.args.words.now) ≡ [] = no_words_from c.args.words.now c.loop-word.word-index (omega arith) in
    sym (sym c.loop-word.invariant ∙ ap (dash_value_from c.loop-word.is_behind) left ∙ dash_value-none c.loop-word.is_behind)
