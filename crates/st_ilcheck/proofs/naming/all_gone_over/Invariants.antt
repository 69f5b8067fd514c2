use Rattle.std.proofs.Common.{◌≡◌, drop}
use Rattle.std.specs.List.{list_all}
use Rattle.st_ilcheck.specs.Naming.{goes_over}
use Rattle.st_ilcheck.proofs.naming.all_gone_over.Given as goal

abbrev pub invariant-loop-name : goal.invariant-loop-name
invariant-loop-name g l =
    list_all (goes_over l.how l.listed (g.P.HasVariables.occurs l.body)) l.names
    ≡ list_all (goes_over l.how l.listed (g.P.HasVariables.occurs l.body)) (drop l.name-index l.names)
