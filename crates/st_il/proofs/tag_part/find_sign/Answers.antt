use Rattle.std.proofs.Common.{sym, ◌∙◌, true≢false, arith}
use Rattle.std.proofs.lemmas.List.{get_or_default}
use Rattle.st_num.specs.declared.mark.Mark.TheVariants.{Turnstile}
use Rattle.st_il.proofs.ReservedWords.{All-more, All-whole}
use Rattle.st_il.proofs.TagParts.{Differs}
use Rattle.st_il.proofs.tag_part.find_sign.Goals as goal

pub loop-sign-preserved : goal.loop-sign-preserved
loop-sign-preserved c =
    All-more (Differs c.args.text.now) c.args.signs.now c.loop-sign.sign-index _ (omega arith) (get_or_default c.args.signs.now c.loop-sign.sign-index Turnstile _ (omega arith))
    (λ role spelled. true≢false (sym (c.is_written.ensures.1 (role, spelled)) ∙ c.if-is_written.false)) c.loop-sign.invariant

pub returns-clause-none : goal.returns-clause-none
returns-clause-none c = All-whole (Differs c.args.text.now) c.args.signs.now c.loop-sign.sign-index (omega arith) c.loop-sign.invariant
