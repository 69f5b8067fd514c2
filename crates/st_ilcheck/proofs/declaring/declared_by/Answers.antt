use Rattle.st_ilcheck.proofs.DeclaredLemmas.{declared-start, declared-next, declared-end}
use Rattle.st_ilcheck.proofs.declaring.declared_by.Goals as goal

pub loop-def-init : goal.loop-def-init
loop-def-init c = declared-start c.args.defs.now c.nothing_declared-declared.result c.nothing_declared-declared.ensures

pub loop-def-preserved : goal.loop-def-preserved
loop-def-preserved c =
    declared-next c.args.defs.now c.loop-def.def-index c.def-item.result c.loop-def.declared c.in_ok-longer.longer c.loop-def-test.true c.def-item.is c.in_ok-longer.ensures c.loop-def.invariant

pub returns : goal.returns
returns c = declared-end c.args.defs.now c.loop-def.def-index c.loop-def.declared c.loop-def-test.false c.loop-def.invariant
