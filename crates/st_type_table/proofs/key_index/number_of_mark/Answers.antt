use Rattle.std.proofs.Common.{refl}
use Rattle.st_num.specs.declared.mark.Mark.{Mark}
use Rattle.st_type_table.proofs.KeyIndexLemmas.{mark-found, mark-none}
use Rattle.st_type_table.proofs.key_index.number_of_mark.Goals as goal

pub returns-then-same_mark : goal.returns-then-same_mark
returns-then-same_mark c = mark-found c.args.marks.now c.args.mark.now c.loop-one.one-index (Mark.Turnstile, 0) c.loop-one-test.true (c.if-same_mark.ensures.0 refl)

pub loop-one-preserved : goal.loop-one-preserved
loop-one-preserved c = mark-none c.args.marks.now c.args.mark.now c.loop-one.one-index (Mark.Turnstile, 0) c.loop-one-test.true (λ e. let f = c.if-same_mark.ensures.1 e in cc) c.loop-one.invariant
