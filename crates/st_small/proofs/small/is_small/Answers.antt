use Rattle.std.proofs.Common.{sym, ◌∙◌, true≢false}
use Rattle.st_small.proofs.SmallWords.{small_has_words}
use Rattle.st_small.proofs.small.is_small.Goals as goal

pub returns-then-not-has_words : goal.returns-then-not-has_words
returns-then-not-has_words c = (
  λ h. absurd (true≢false (sym h)),
  λ small. absurd (true≢false (sym (c.has_words.ensures.1 (small_has_words c.args.small.now small)) ∙ c.if-not-has_words.true)),
)
