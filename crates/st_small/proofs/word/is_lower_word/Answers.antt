use Rattle.std.proofs.Common.{refl, arith}
use Rattle.std.proofs.lemmas.List.{get_or_default}
use Rattle.st_il.specs.Small.{IsLower}
use Rattle.st_small.proofs.Elements.{all_more, all_passed, not_empty}
use Rattle.st_small.proofs.word.is_lower_word.Goals as goal

pub loop-byte-preserved : goal.loop-byte-preserved
loop-byte-preserved c =
    all_more IsLower c.args.word.now c.loop-byte.byte-index _ (omega arith) (get_or_default c.args.word.now c.loop-byte.byte-index 0 _ (omega arith))
    (c.is_lower.ensures.0 c.if-not-is_lower.false) c.loop-byte.invariant

pub returns : goal.returns
returns c = (
  λ _. (not_empty _ _ c.is_empty.ensures c.if-is_empty.false, all_passed IsLower c.args.word.now c.loop-byte.byte-index (omega arith) c.loop-byte.invariant),
  λ _. refl,
)
