use Rattle.std.proofs.Common.{◌≡◌, ◌∙◌, ap, sym, true, false, map, string_bytes, drop, ◌+◌, arith}
use Rattle.st_words.specs.Arranged.{is_dashed, is_end, has_options}
use Rattle.st_words.proofs.OptionsLemmas.{has_options-other, has_options-option}
use Rattle.st_words.proofs.Slices.{words_from}
use Rattle.st_words.proofs.read.has_options.Goals as goal

pub returns-then-is_dashed : goal.returns-then-is_dashed
returns-then-is_dashed c =
    let word = c.as_str-in-loop-word.result.now in
    let no_end : is_end word ≡ false = cc (ap is_end c.as_str.ensures.value, ap is_end c.as_str-in-loop-word.ensures.value) in
    let dashed : is_dashed word ≡ true = cc in
    let rest = map string_bytes (drop (c.loop-word.word-index + 1) c.args.words.now) in
    let split = words_from c.args.words.now c.loop-word.word-index c.word-item.result word (omega arith) c.word-item.is c.as_str-in-loop-word.ensures.value in
    sym (sym c.loop-word.invariant ∙ ap has_options split ∙ has_options-option word rest no_end dashed)

pub loop-word-preserved : goal.loop-word-preserved
loop-word-preserved c =
    let word = c.as_str-in-loop-word.result.now in
    let no_end : is_end word ≡ false = cc (ap is_end c.as_str.ensures.value, ap is_end c.as_str-in-loop-word.ensures.value) in
    let none : is_dashed word ≡ false = cc in
    let rest = map string_bytes (drop (c.loop-word.word-index + 1) c.args.words.now) in
    let split = words_from c.args.words.now c.loop-word.word-index c.word-item.result word (omega arith) c.word-item.is c.as_str-in-loop-word.ensures.value in
    sym (has_options-other word rest no_end none) ∙ ap has_options (sym split) ∙ c.loop-word.invariant
