use Rattle.st_search.proofs.RunRules.{AreRun}
use Rattle.st_search.proofs.relation.run_all.Given as goal

abbrev pub invariant-loop-i : goal.invariant-loop-i
invariant-loop-i g l = AreRun l.search.setting.index.now l.search.setting.depth (g.F.Finder.answers l.finder) l.relation l.inputs l.rules l.i l.longest l.items
