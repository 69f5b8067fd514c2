use Rattle.std.proofs.Common.{refl, sym, ◌∙◌, true≢false, arith}
use Rattle.std.proofs.lemmas.List.{get_or_default}
use Rattle.st_num.specs.declared.word.Word.TheVariants.{Syntax}
use Rattle.st_il.proofs.ReservedWords.{IsOther, Contains-at, Contains-none, All-more, All-whole}
use Rattle.st_il.proofs.reserved.is_one_of.Goals as goal

pub loop-word-preserved : goal.loop-word-preserved
loop-word-preserved c =
    All-more (IsOther c.args.text.now) c.args.words.now c.loop-word.word-index _ (omega arith) (get_or_default c.args.words.now c.loop-word.word-index Syntax _ (omega arith))
    (λ spelled. true≢false (sym (c.is_written.ensures.1 spelled) ∙ c.if-is_written.false)) c.loop-word.invariant

pub returns-then-is_written : goal.returns-then-is_written
returns-then-is_written c = (
  λ _. Contains-at c.args.words.now c.loop-word.word-index _ c.args.text.now (omega arith) (get_or_default c.args.words.now c.loop-word.word-index Syntax _ (omega arith)) (c.is_written.ensures.0 c.if-is_written.true),
  λ _. refl,
)

pub returns : goal.returns
returns c = (
  λ h. absurd (true≢false (sym h)),
  λ h. absurd (Contains-none c.args.words.now c.args.text.now (All-whole (IsOther c.args.text.now) c.args.words.now c.loop-word.word-index (omega arith) c.loop-word.invariant) h),
)
