use Rattle.st_search.proofs.RunSteps.{AreRunSo}
use Rattle.st_search.proofs.rule.run_steps.Given as goal

abbrev pub invariant-loop-i : goal.invariant-loop-i
invariant-loop-i g l = AreRunSo l.search.setting.index.now l.search.setting.depth (g.F.Finder.answers l.finder) l.rule l.fn.starts l.i l.longest l.ends
