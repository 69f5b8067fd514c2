use Rattle.std.proofs.Common.{List, ℕ, refl, subst, arith}
use Rattle.st_il.specs.Small.{IsUpper, IsWordOf}
use Rattle.st_small.proofs.Elements.{all_more, all_passed}
use Rattle.st_small.proofs.word.are_upper_words.Goals as goal

pub loop-word-preserved : goal.loop-word-preserved
loop-word-preserved c =
    all_more (IsWordOf IsUpper) c.args.words.now c.loop-word.word-index c.word-item.result (omega arith) c.word-item.is
    (subst (λ (w : List ℕ). IsWordOf IsUpper w) c.as_slice.ensures (c.is_upper_word.ensures.0 c.if-not-is_upper_word.false)) c.loop-word.invariant

pub returns : goal.returns
returns c = (λ _. all_passed (IsWordOf IsUpper) c.args.words.now c.loop-word.word-index (omega arith) c.loop-word.invariant, λ _. refl)
