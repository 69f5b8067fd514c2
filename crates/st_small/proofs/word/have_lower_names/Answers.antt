use Rattle.std.proofs.Common.{List, ℕ, refl, subst, arith}
use Rattle.st_il.specs.Small.{IsLower, IsWordOf}
use Rattle.st_small.specs.inner.Words.{HasLowerName}
use Rattle.st_small.proofs.Elements.{all_more, all_passed}
use Rattle.st_small.proofs.word.have_lower_names.Goals as goal

pub loop-rule-preserved : goal.loop-rule-preserved
loop-rule-preserved c =
    all_more HasLowerName c.args.rules.now c.loop-rule.rule-index c.rule-item.result (omega arith) c.rule-item.is
    (subst (λ (w : List ℕ). IsWordOf IsLower w) c.as_slice.ensures (c.is_lower_word.ensures.0 c.if-not-is_lower_word.false)) c.loop-rule.invariant

pub returns : goal.returns
returns c = (λ _. all_passed HasLowerName c.args.rules.now c.loop-rule.rule-index (omega arith) c.loop-rule.invariant, λ _. refl)
