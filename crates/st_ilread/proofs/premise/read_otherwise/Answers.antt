use Rattle.std.proofs.Common.{refl}
use Rattle.st_ilread.proofs.Passed.{no_true}
use Rattle.st_ilread.proofs.PremTrees.{otherwise_none, otherwise_is}
use Rattle.st_ilread.proofs.premise.read_otherwise.Goals as goal

pub returns-then-not-are_none : goal.returns-then-not-are_none
returns-then-not-are_none c = (refl, otherwise_none _ (λ e. no_true c.if-not-are_none.true (c.are_none.ensures.1 e)))

pub returns : goal.returns
returns c = otherwise_is _ (c.are_none.ensures.0 c.if-not-are_none.false)
