use Rattle.std.proofs.Common.{take}
use Rattle.st_eval.specs.inner.Tried.{AreMetUpTo}
use Rattle.st_eval.proofs.clause.meet_all.Given as goal

abbrev pub invariant-loop-premise : goal.invariant-loop-premise
invariant-loop-premise g l = AreMetUpTo l.setting.index.now l.setting.depth l.clause l.fn.first (take l.premise-index l.clause.premises) l.env
