use Rattle.std.proofs.Common.{sym, ap, ◌∙◌, map}
use Rattle.st_il.specs.Definitions.{clauses_of}
use Rattle.st_algo.specs.Lowered.{clause_algorithm}
use Rattle.st_algo.proofs.GroupParts.{members_found, members_none}
use Rattle.st_algo.proofs.functions.fun_algorithms.Goals as goal

pub returns-in_ok-row-in-Some : goal.returns-in_ok-row-in-Some
returns-in_ok-row-in-Some c =
    c.in_ok-row-in-Some.ensures
    ∙ ap (map (clause_algorithm c.args.directions.now.il.now))
    (members_found c.args.groups.now.entries c.args.function.now.name (clauses_of c.args.directions.now.il.now c.args.function.now.name) _ c.in-Some.clauses _ c.at.ensures c.in-Some.is c.as_slice-clauses.ensures
    (c.requires.groups c.args.function.now.name))

pub returns-in-None : goal.returns-in-None
returns-in-None c =
    c.new.ensures
    ∙ sym (ap (map (clause_algorithm c.args.directions.now.il.now))
    (members_none c.args.groups.now.entries c.args.function.now.name (clauses_of c.args.directions.now.il.now c.args.function.now.name) _ c.at.ensures c.in-None.is (c.requires.groups c.args.function.now.name)))
