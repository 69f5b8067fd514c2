use Rattle.std.proofs.Common.{take}
use Rattle.st_search.proofs.SomeGives.{AreValued}
use Rattle.st_search.proofs.conclude.each_value.Given as goal

abbrev pub invariant-loop-exp : goal.invariant-loop-exp
invariant-loop-exp l = AreValued l.search.setting.index.now l.search.setting.depth l.env (take l.exp-index l.exps) l.whole l.values
