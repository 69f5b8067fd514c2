use Rattle.st_search.proofs.NextEnds.{AreFrom}
use Rattle.st_search.proofs.advance.run_from_all.Given as goal

abbrev pub invariant-loop-end : goal.invariant-loop-end
invariant-loop-end g l = AreFrom l.search.setting.index.now l.search.setting.depth (g.F.Finder.answers l.finder) l.variables l.step l.ends l.end-index l.longest l.items
