use Rattle.std.proofs.Common.{sym, ap, ◌∙◌, arith}
use Rattle.st_text.specs.Text.{word}
use Rattle.st_iltext.specs.inner.KindWords.{kind_word}
use Rattle.st_iltext.proofs.KindPlaces.{place, place_below, there}
use Rattle.st_iltext.proofs.kind.kind_of.Goals as goal

pub returns : goal.returns
returns c = λ k e.
    c.loop-kind.invariant (place k) (omega (arith, place_below k, c.loop-kind-test.false)) (e ∙ ap (λ j. word (kind_word j)) (sym (there k)))
