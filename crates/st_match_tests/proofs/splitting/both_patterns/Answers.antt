use Rattle.std.proofs.Common.{sym, subst}
use Rattle.st_match_tests.specs.Open.{AreOpen}
use Rattle.st_match_tests.proofs.OpenLists.{both_open}
use Rattle.st_match_tests.proofs.splitting.both_patterns.Goals as goal

pub returns : goal.returns
returns c = subst AreOpen (sym c.in_ok-both.ensures) (both_open c.in_ok-forward.forward c.in_ok-back.back c.in_ok-forward.ensures c.in_ok-back.ensures)
