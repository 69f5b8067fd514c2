use Rattle.std.proofs.Common.{◌≡◌, drop}
use Rattle.std.specs.List.{list_all}
use Rattle.st_ilcheck.specs.Naming.{is_named}
use Rattle.st_ilcheck.proofs.naming.all_named.Given as goal

abbrev pub invariant-loop-variable : goal.invariant-loop-variable
invariant-loop-variable g l =
    list_all (is_named l.how l.names l.listed (g.P.HasVariables.occurs l.body)) l.listed
    ≡ list_all (is_named l.how l.names l.listed (g.P.HasVariables.occurs l.body)) (drop l.variable-index l.listed)
