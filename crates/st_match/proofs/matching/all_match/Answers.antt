use Rattle.std.proofs.Common.{◌++◌, sym, ◌∙◌, ap₂, List, map}
use Rattle.st_il.specs.Names.{all_known}
use Rattle.st_semantics.specs.Environments.{Entry}
use Rattle.st_semantics.specs.Variables.{vars_of}
use Rattle.st_match.proofs.FitAll.{bound_by-patterns, matches-all}
use Rattle.st_match.proofs.matching.all_match.Goals as goal

pub extensions-requires-clause-bound : goal.extensions-requires-clause-bound
extensions-requires-clause-bound c =
    ap₂ (λ (y : List Entry) z. all_known (map (λ (e : Entry). e.0) y ++ z) (vars_of c.args.patterns.now)) c.new-entries.ensures (sym (bound_by-patterns c.args.patterns.now c.requires.patterns))
    ∙ c.requires.bound

pub returns : goal.returns
returns c = matches-all c.args.types.now c.args.variables.now c.args.patterns.now c.args.values.now _ c.in_ok-found.found c.new-entries.ensures c.in_ok-found.ensures
