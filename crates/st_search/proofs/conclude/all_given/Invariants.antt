use Rattle.st_search.proofs.EndFinds.{AreFrom}
use Rattle.st_search.proofs.conclude.all_given.Given as goal

abbrev pub invariant-loop-end : goal.invariant-loop-end
invariant-loop-end l = AreFrom l.search.setting.index.now l.search.setting.depth l.place l.inputs l.ends l.end-index l.found
