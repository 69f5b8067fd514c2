use Rattle.st_eval.proofs.Tried.{LeadsFrom}
use Rattle.st_eval.proofs.clause.decide.Given as goal

-- where the clauses that are left decide the call, all do
abbrev pub invariant-loop-clause : goal.invariant-loop-clause
invariant-loop-clause g l = LeadsFrom l.setting.index.now l.setting.depth l.args l.clauses l.clause-index
