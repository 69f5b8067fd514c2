use Rattle.std.proofs.Common.{sym, ◌∙◌}
use Rattle.st_elab_def.proofs.BareTypes.{stand-next, stand-stop, stand-end}
use Rattle.st_elab_def.proofs.parts.count_before_bare.Goals as goal

pub returns-then-is_bare : goal.returns-then-is_bare
returns-then-is_bare c =
    stand-stop c.args.notations.now c.loop-i.i c.index-notations-i.result c.loop-i-test.true c.index-notations-i.is c.loop-i.invariant
    (sym c.is_bare.ensures ∙ c.if-is_bare.true)

pub loop-i-preserved : goal.loop-i-preserved
loop-i-preserved c =
    stand-next c.args.notations.now c.loop-i.i c.index-notations-i.result c.loop-i-test.true c.index-notations-i.is c.loop-i.invariant
    (sym c.is_bare.ensures ∙ c.if-is_bare.false)

pub returns : goal.returns
returns c = stand-end c.args.notations.now c.loop-i.i c.loop-i-test.false c.loop-i.invariant
