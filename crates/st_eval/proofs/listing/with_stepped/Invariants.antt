use Rattle.std.proofs.Common.{◌≡◌, ◌++◌, drop}
use Rattle.st_semantics.specs.Scopes.{stepped_all}
use Rattle.st_eval.proofs.listing.with_stepped.Given as goal

abbrev pub invariant-loop-variable : goal.invariant-loop-variable
invariant-loop-variable l = l.inside ++ stepped_all l.names (drop l.variable-index l.variables) ≡ l.fn.listed ++ stepped_all l.names l.variables
